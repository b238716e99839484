use Rattle.std.proofs.Common.{sym, subst}
use Rattle.hs_intake.specs.Intakes.{Stands}
use Rattle.hs_node.specs.Nodes.{PlainNode, GoesOn}
use Rattle.hs_node.specs.NodeLayout.{node_in}
use Rattle.hs_node.proofs.Joining.{on_nothing}
use Rattle.hs_node.proofs.Steps.{forget_on}
use Rattle.hs_node.proofs.node.Node.forget.Goals as goal

pub returns-clause-on : goal.returns-clause-on
returns-clause-on c = λ run stands.
    let d = node_in c.self.inside in
    let there : Stands run d.intake = subst (λ (x : PlainNode). Stands run x.intake) (sym c.self.view_is) stands in
    subst (λ (x : PlainNode). GoesOn run x (record d { intake = c.forget_oldest.new.self })) c.self.view_is
    (forget_on run d c.forget_oldest.result c.forget_oldest.new.self there (c.forget_oldest.ensures run there))

pub returns-then-not-is_above-clause-on : goal.returns-then-not-is_above-clause-on
returns-then-not-is_above-clause-on c = λ run stands. on_nothing run c.args.self.now stands
