use Rattle.std.proofs.Common.{sym, arith}
use Rattle.hs_pins.proofs.Prelude.{same_id}
use Rattle.hs_pins.proofs.QueueLemmas.{count-total, total-more}
use Rattle.hs_pins.proofs.GroupLemmas.{nothing-lost}
use Rattle.hs_pins.proofs.queues.pin_chunk.Goals as goal

pub pin_one-requires : goal.pin_one-requires
pin_one-requires g c = let h = count-total (same_id c.args.trigger) c.args.queues.now.entries c.in-Some.pinned.now (sym c.in-Some.ensures.value) in let few = c.requires.few in omega arith

pub returns-clause-count : goal.returns-clause-count
returns-clause-count g c =
    total-more c.pin_one.result (same_id c.args.trigger) c.args.queues.now.entries _ c.in-Some.pinned.now c.pin_one.new.self 1 (sym c.in-Some.ensures.value)
    (c.get_mut.follows.holds c.pin_one.new.self).0 c.pin_one.ensures.count

pub returns-clause-err : goal.returns-clause-err
returns-clause-err g c =
    nothing-lost c.pin_one.result (same_id c.args.trigger) c.args.queues.now.entries _ c.in-Some.pinned.now c.pin_one.new.self (sym c.in-Some.ensures.value)
    (c.get_mut.follows.holds c.pin_one.new.self).0 c.pin_one.ensures.err
