use Rattle.std.proofs.Common.{sym, subst}
use Rattle.hs_intake.specs.Intakes.{Stands}
use Rattle.hs_node.specs.Nodes.{PlainNode, GoesOn}
use Rattle.hs_node.specs.NodeLayout.{node_in}
use Rattle.hs_node.proofs.Steps.{look_on}
use Rattle.hs_node.proofs.node.Node.look_on.Goals as goal

pub returns-clause-on : goal.returns-clause-on
returns-clause-on c = λ run stands.
    let d = node_in c.self.inside in
    let there : Stands run d.intake = subst (λ (x : PlainNode). Stands run x.intake) (sym c.self.view_is) stands in
    subst (λ (x : PlainNode). GoesOn run x (record d { intake = c.look_on.new.self })) c.self.view_is
    (look_on run d c.look_on.new.self there c.look_on.ensures)
