use Rattle.std.proofs.Common.{sym, ap, ◌∙◌}
use Rattle.std.proofs.lemmas.Result.{IfOk-weaker}
use Rattle.hs_pins.proofs.Prelude.{is_some, lookup, set_value, set_value_same, Queues, same_id}
use Rattle.hs_pins.proofs.GroupLemmas.{nothing-lost}
use Rattle.hs_pins.proofs.Opened.{set_set, lookup_set}
use Rattle.hs_base.proofs.Options.{on_ok_always}
use Rattle.hs_pins.proofs.QueueLemmas.{total-opened}
use Rattle.hs_pins.proofs.queues.open_queue.Goals as goal

pub returns-clause-back : goal.returns-clause-back
returns-clause-back g c =
    let test = same_id c.args.trigger in
    let es = c.args.queues.now.entries in
    IfOk-weaker c.open.result _ _
    (λ opened same. ap (λ (qs : Queues g.row.L.Denot). set_value test qs opened.groups) (c.get_mut.follows.holds c.open.new.self).0 ∙ set_set test es c.open.new.self opened.groups
    ∙ ap (set_value test es) same ∙ set_value_same test es c.in-Some.pinned.now (sym c.in-Some.ensures.value)) c.open.ensures.groups

pub returns-clause-declared : goal.returns-clause-declared
returns-clause-declared g c =
    let test = same_id c.args.trigger in
    let es = c.args.queues.now.entries in
    on_ok_always c.open.result
    (ap (λ (qs : Queues g.row.L.Denot). is_some (lookup test qs)) (c.get_mut.follows.holds c.open.new.self).0 ∙ ap is_some (lookup_set test es c.open.new.self c.requires))

pub returns-clause-count : goal.returns-clause-count
returns-clause-count g c =
    total-opened c.open.result (λ opened. opened.groups) (same_id c.args.trigger) c.args.queues.now.entries _ c.in-Some.pinned.now c.open.new.self (sym c.in-Some.ensures.value)
    (c.get_mut.follows.holds c.open.new.self).0 c.open.ensures.none c.open.ensures.groups

pub returns-clause-err : goal.returns-clause-err
returns-clause-err g c =
    nothing-lost c.open.result (same_id c.args.trigger) c.args.queues.now.entries _ c.in-Some.pinned.now c.open.new.self (sym c.in-Some.ensures.value)
    (c.get_mut.follows.holds c.open.new.self).0 c.open.ensures.err
