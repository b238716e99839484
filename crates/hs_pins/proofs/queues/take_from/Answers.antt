use Rattle.std.proofs.Common.{sym, ap, ◌∙◌}
use Rattle.hs_pins.proofs.Prelude.{same_id}
use Rattle.hs_pins.proofs.QueueLemmas.{total-less, nothing-taken, set_value-none}
use Rattle.hs_pins.proofs.queues.take_from.Goals as goal

pub returns-in-Some-clause-count : goal.returns-in-Some-clause-count
returns-in-Some-clause-count g c =
    total-less c.take_next.result (same_id c.args.trigger) c.args.queues.now.entries _ c.in-Some.pinned.now c.take_next.new.self (sym c.in-Some.ensures.value)
    (c.get_mut.follows.holds c.take_next.new.self).0 c.take_next.ensures.count

pub returns-in-Some-clause-none : goal.returns-in-Some-clause-none
returns-in-Some-clause-none g c =
    nothing-taken c.take_next.result (same_id c.args.trigger) c.args.queues.now.entries _ c.in-Some.pinned.now c.take_next.new.self (sym c.in-Some.ensures.value)
    (c.get_mut.follows.holds c.take_next.new.self).0 c.take_next.ensures.none

pub returns-in-None-clause-rest : goal.returns-in-None-clause-rest
returns-in-None-clause-rest g c =
    ap (λ m. m.entries) c.get_mut.follows.holds-at-none ∙ sym (set_value-none (same_id c.args.trigger) c.args.queues.now.entries _ (sym c.in-None.ensures.value))
