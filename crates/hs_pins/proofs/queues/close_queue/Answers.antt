use Rattle.std.proofs.Common.{sym, ap, ◌∙◌, arith}
use Rattle.hs_pins.proofs.Prelude.{same_id, total_of, count_of, Groups}
use Rattle.hs_pins.proofs.QueueLemmas.{total-set}
use Rattle.hs_pins.proofs.queues.close_queue.Goals as goal

pub returns-clause-count : goal.returns-clause-count
returns-clause-count g c =
    let t = total-set (same_id c.args.trigger) c.args.queues.now.entries c.in-Some.pinned.now c.replace-before.new.dest (sym c.in-Some.ensures.value) in
    let written = ap total_of (c.get_mut.follows.holds c.replace-before.new.dest).0 in
    let before = c.chunks.ensures ∙ ap (λ (gs : Groups g.row.L.Denot). count_of gs) c.replace-before.ensures.value in
    let after = ap (λ (gs : Groups g.row.L.Denot). count_of gs) (c.replace-before.ensures.after ∙ c.close.ensures) in
    omega (arith, t, written, before, after)
