use Rattle.std.proofs.Common.{sym, subst}
use Rattle.hs_intake.specs.Intakes.{PlainIntake, Stands}
use Rattle.hs_node.specs.Nodes.{PlainNode, GoesOn}
use Rattle.hs_node.specs.NodeLayout.{node_in}
use Rattle.hs_node.proofs.Steps.{say_on}
use Rattle.hs_node.proofs.node.Node.say.Goals as goal

pub returns-clause-on : goal.returns-clause-on
returns-clause-on c = λ run stands.
    let d = node_in c.self.inside in
    let there : Stands run d.intake = subst (λ (x : PlainNode). Stands run x.intake) (sym c.self.view_is) stands in
    let i = c.say.new.self in
    subst (λ (x : PlainNode). GoesOn run x (record d { intake = i })) c.self.view_is
    (subst (λ (x : PlainIntake). GoesOn run d (record d { intake = x })) (sym c.say.ensures.only) (say_on run d i.mail i.claims i.unsaid there c.say.ensures.said))
