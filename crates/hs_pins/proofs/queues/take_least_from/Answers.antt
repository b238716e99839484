use Rattle.std.proofs.Common.{Option, [], length, drop, sym, ap, ◌∙◌}
use Rattle.hs_pins.proofs.Prelude.{slice_get, unwrap_or, set_value, Groups, same_id}
use Rattle.hs_pins.proofs.QueueLemmas.{total-least, nothing-taken}
use Rattle.hs_pins.proofs.queues.take_least_from.Goals as goal

pub returns-clause-count : goal.returns-clause-count
returns-clause-count g c =
    total-least c.take_least.result (λ least. length least.1.items) (same_id c.args.trigger) c.args.queues.now.entries _ c.in-Some.pinned.now c.take_least.new.self (sym c.in-Some.ensures.value)
    (c.get_mut.follows.holds c.take_least.new.self).0 c.take_least.ensures.count

pub returns-clause-none : goal.returns-clause-none
returns-clause-none g c =
    nothing-taken c.take_least.result (same_id c.args.trigger) c.args.queues.now.entries _ c.in-Some.pinned.now c.take_least.new.self (sym c.in-Some.ensures.value)
    (c.get_mut.follows.holds c.take_least.new.self).0 c.take_least.ensures.none

pub returns-clause-least : goal.returns-clause-least
returns-clause-least g c = c.take_least.ensures.least ∙ ap (λ (o : Option (Groups g.row.L.Denot)). slice_get (unwrap_or o []) 0) c.in-Some.ensures.value

pub returns-clause-rest : goal.returns-clause-rest
returns-clause-rest g c =
    (c.get_mut.follows.holds c.take_least.new.self).0
    ∙ ap (set_value (same_id c.args.trigger) c.args.queues.now.entries) (c.take_least.ensures.rest ∙ ap (λ (o : Option (Groups g.row.L.Denot)). drop 1 (unwrap_or o [])) c.in-Some.ensures.value)

pub returns-clause-some : goal.returns-clause-some
returns-clause-some g c = c.take_least.ensures.some
