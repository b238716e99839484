use Rattle.std.proofs.Common.{sym, subst}
use Rattle.hs_intake.specs.Intakes.{Stands}
use Rattle.hs_node.specs.Nodes.{PlainNode, GoesOn}
use Rattle.hs_node.specs.NodeLayout.{node_in}
use Rattle.hs_node.proofs.Joining.{on_nothing}
use Rattle.hs_node.proofs.Steps.{hear_on, no_note_on}
use Rattle.hs_node.proofs.node.Node.hear.Goals as goal

pub returns-then-client-self-clause-on : goal.returns-then-client-self-clause-on
returns-then-client-self-clause-on c = λ run stands. on_nothing run c.args.self.now stands

pub returns-in_default-clause-on : goal.returns-in_default-clause-on
returns-in_default-clause-on c = λ run stands.
    let d = node_in c.self.inside in
    let there : Stands run d.intake = subst (λ (x : PlainNode). Stands run x.intake) (sym c.self.view_is) stands in
    subst (λ (x : PlainNode). GoesOn run x (record d { segments = c.receive_at.new.receivers.items })) c.self.view_is
    (no_note_on run d c.args.client c.receive_at.new.receivers.items there c.in_default.ensures.received)

pub returns-clause-on : goal.returns-clause-on
returns-clause-on c = λ run stands.
    let d = node_in c.self.inside in
    let there : Stands run d.intake = subst (λ (x : PlainNode). Stands run x.intake) (sym c.self.view_is) stands in
    subst (λ (x : PlainNode). GoesOn run x (record d { segments = c.receive_at.new.receivers.items; notes = c.note.new.notes })) c.self.view_is
    (hear_on run d c.args.client c.in-Some.segment c.receive_at.new.receivers.items c.note.new.notes there c.in-Some.ensures.received c.note.ensures)
