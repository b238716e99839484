use Rattle.std.proofs.Common.{ℕ, ◌∙◌, sym, ap, subst}
use Rattle.hs_whole.specs.Kept.{more}
use Rattle.hs_intake.specs.Intakes.{Stands}
use Rattle.hs_node.specs.Nodes.{PlainNode, GoesOn}
use Rattle.hs_node.specs.Passing.{TakesTriggersOf}
use Rattle.hs_node.specs.NodeLayout.{node_in}
use Rattle.hs_node.proofs.Steps.{triggers_on}
use Rattle.hs_node.proofs.node.Node.take_triggers.Goals as goal

pub returns-clause-on : goal.returns-clause-on
returns-clause-on c = λ run stands.
    let d = node_in c.self.inside in
    let there : Stands run d.intake = subst (λ (x : PlainNode). Stands run x.intake) (sym c.self.view_is) stands in
    let intake = c.triggers_of-took.new.self in
    let limited = c.saturating_add-self-inside.result in
    subst (λ (x : PlainNode). GoesOn run x (record d { intake = intake; limited = limited })) c.self.view_is
    (triggers_on run c.args.client d c.triggers_of-took.result intake limited there (c.triggers_of-took.ensures run there))

pub returns-clause-does : goal.returns-clause-does
returns-clause-does c = λ run stands.
    let d = node_in c.self.inside in
    let there : Stands run d.intake = subst (λ (x : PlainNode). Stands run x.intake) (sym c.self.view_is) stands in
    let intake = c.triggers_of-took.new.self in
    let limited = c.saturating_add-self-inside.result in
    subst (λ (x : PlainNode). TakesTriggersOf c.args.client run x (record d { intake = intake; limited = limited })) c.self.view_is (
      c.triggers_of-took.result,
      c.triggers_of-took.ensures run there,
      ap (λ (n : ℕ). record d { intake = intake; limited = n }) (c.saturating_add-self-inside.ensures ∙ ap (λ (k : ℕ). more d.limited k) c.from.ensures),
    )
