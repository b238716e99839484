use Rattle.std.proofs.Common.{sym, subst, refl, ◌∙◌}
use Rattle.hs_intake.specs.Intakes.{Stands}
use Rattle.hs_node.specs.Nodes.{PlainNode, GoesOnIf, is_unspent}
use Rattle.hs_node.specs.Passing.{Turns}
use Rattle.hs_node.specs.NodeLayout.{node_in}
use Rattle.hs_node.proofs.Steps.{turn_on}
use Rattle.hs_node.proofs.node.Node.turn.Goals as goal

pub returns-clause-on : goal.returns-clause-on
returns-clause-on c = λ run stands.
    let d = node_in c.self.inside in
    let there : Stands run d.intake = subst (λ (x : PlainNode). Stands run x.intake) (sym c.self.view_is) stands in
    subst (λ (b : _). GoesOnIf run b c.args.self.now (record d { intake = c.turn-turned.new.self })) (sym c.is_unspent.ensures)
    (subst (λ (x : PlainNode). GoesOnIf run (is_unspent c.turn-turned.result) x (record d { intake = c.turn-turned.new.self })) c.self.view_is
    (turn_on run d c.turn-turned.result c.turn-turned.new.self there (c.turn-turned.ensures run there)))

pub returns-clause-does : goal.returns-clause-does
returns-clause-does c = λ run stands unspent.
    let d = node_in c.self.inside in
    let there : Stands run d.intake = subst (λ (x : PlainNode). Stands run x.intake) (sym c.self.view_is) stands in
    subst (λ (x : PlainNode). Turns run x (record d { intake = c.turn-turned.new.self })) c.self.view_is
    (c.turn-turned.result, sym c.is_unspent.ensures ∙ unspent, c.turn-turned.ensures run there, refl)
