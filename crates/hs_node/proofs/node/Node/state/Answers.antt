use Rattle.hs_wire.specs.declared.message.Standing.{Standing}
use Rattle.hs_claimed.specs.Claims.{PlainClaims, current}
use Rattle.hs_intake.specs.Taking.{StatesIt}
use Rattle.hs_node.specs.Passing.{StatesNext}
use Rattle.hs_node.specs.Told.{node_standing}
use Rattle.hs_node.proofs.Repeating.{stated_next}
use Rattle.std.proofs.Common.{Bool, sym, subst, ◌≡◌, Some, ap, ◌∙◌}
use Rattle.hs_intake.specs.Intakes.{Stands}
use Rattle.hs_node.specs.Nodes.{PlainNode, GoesOn}
use Rattle.hs_node.specs.NodeLayout.{node_in}
use Rattle.hs_node.proofs.Joining.{on_nothing}
use Rattle.hs_node.proofs.Steps.{state_on}
use Rattle.hs_node.proofs.node.Node.state.Goals as goal

pub returns-in_default-clause-on : goal.returns-in_default-clause-on
returns-in_default-clause-on c = λ run stands. on_nothing run c.args.self.now stands

pub returns-clause-on : goal.returns-clause-on
returns-clause-on c = λ run stands.
    let d = node_in c.self.inside in
    let there : Stands run d.intake = subst (λ (x : PlainNode). Stands run x.intake) (sym c.self.view_is) stands in
    subst (λ (x : PlainNode). GoesOn run x (record d { intake = c.state-stated.new.self })) c.self.view_is
    (state_on run d c.standing-standing.result c.state-stated.result c.state-stated.new.self there c.state-stated.ensures)

pub returns-clause-does : goal.returns-clause-does
returns-clause-does c = λ run stands.
    let d = node_in c.self.inside in
    let claim = c.in-Some.claim in
    let did = c.state-stated.result in
    let intake = c.state-stated.new.self in
    let at : current d.intake.claims ≡ Some claim = sym (ap (λ (s : PlainClaims). current s) c.claims.ensures) ∙ sym c.current.ensures ∙ sym c.copied.ensures ∙ c.in-Some.is in
    let said : c.standing-standing.result ≡ node_standing d.notes d.intake.claims claim = c.standing-standing.ensures ∙ ap (λ (x : PlainNode). node_standing x.notes x.intake.claims claim) (sym c.self.view_is) in
    let states = subst (λ (s : Standing). StatesIt d.intake s did intake) said c.state-stated.ensures in
    subst (λ (x : PlainNode). StatesNext c.is_stated.result run x (record d { intake = intake })) c.self.view_is
    (subst (λ (b : Bool). StatesNext b run d (record d { intake = intake })) (sym c.is_stated.ensures) (stated_next run d claim did intake at states))
