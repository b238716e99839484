use Rattle.std.proofs.Common.{[], Some, drop, sym, ap, ◌∙◌, is_some}
use Rattle.hs_compare.proofs.Prelude.{unwrap_or}
use Rattle.hs_compare.proofs.Queued.{changed}
use Rattle.hs_compare.proofs.record_queue.leave.Goals as goal

pub returns-in-Some : goal.returns-in-Some
returns-in-Some c =
    let new = (c.get_mut.follows.lender c.pop.new.self).entries in
    let updates = (c.get_mut.follows.holds c.pop.new.self).3 (ap is_some (sym c.in-Some.ensures.value)) in
    changed (drop 1) c.args.queues.now.entries new c.args.trace (Some c.pop.new.self) updates.0 (c.pop.ensures.rest ∙ ap (λ o. drop 1 (unwrap_or o [])) c.in-Some.ensures.value)
