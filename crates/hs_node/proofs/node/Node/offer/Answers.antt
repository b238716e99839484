use Rattle.std.proofs.Common.{sym, subst}
use Rattle.hs_intake.specs.Intakes.{Stands}
use Rattle.hs_node.specs.Nodes.{PlainNode, GoesOn}
use Rattle.hs_node.specs.NodeLayout.{node_in}
use Rattle.hs_node.proofs.Steps.{stopped_on, offered_on}
use Rattle.hs_node.proofs.node.Node.offer.Goals as goal

pub returns-in-Empty-clause-on : goal.returns-in-Empty-clause-on
returns-in-Empty-clause-on c = λ run stands.
    let d = node_in c.self.inside in
    let there : Stands run d.intake = subst (λ (x : PlainNode). Stands run x.intake) (sym c.self.view_is) stands in
    subst (λ (x : PlainNode). GoesOn run x (record d { intake = c.hand_out.new.self })) c.self.view_is
    (stopped_on run d c.hand_out.new.self there (c.in-Empty.ensures run there).0)

pub returns-in-Waits-clause-on : goal.returns-in-Waits-clause-on
returns-in-Waits-clause-on c = λ run stands.
    let d = node_in c.self.inside in
    let there : Stands run d.intake = subst (λ (x : PlainNode). Stands run x.intake) (sym c.self.view_is) stands in
    subst (λ (x : PlainNode). GoesOn run x (record d { intake = c.hand_out.new.self })) c.self.view_is
    (stopped_on run d c.hand_out.new.self there (c.in-Waits.ensures run there).0)

pub returns-in-Offered-clause-on : goal.returns-in-Offered-clause-on
returns-in-Offered-clause-on c = λ run stands.
    let d = node_in c.self.inside in
    let there : Stands run d.intake = subst (λ (x : PlainNode). Stands run x.intake) (sym c.self.view_is) stands in
    subst (λ (x : PlainNode). GoesOn run x (record d { intake = c.hand_out.new.self; notes = c.part.new.notes })) c.self.view_is
    (offered_on run d c.in-Offered.parted c.in-Offered.is_given c.hand_out.new.self c.part.new.notes (c.in-Offered.ensures run there) c.part.ensures)
