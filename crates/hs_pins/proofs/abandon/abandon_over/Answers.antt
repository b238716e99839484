use Rattle.std.proofs.Common.{map, arith}
use Rattle.hs_pins.proofs.Prelude.{pin_of}
use Rattle.hs_pins.proofs.Leaving.{goes_on, ends_kept, ends_dropped}
use Rattle.hs_pins.proofs.abandon.abandon_over.Goals as goal

pub loop-queues-preserved : goal.loop-queues-preserved
loop-queues-preserved g c = (
  let room = c.abandon_next.ensures.room in let chunks = c.abandon_next.ensures.chunks in omega (arith, c.loop-queues.invariant.0),
  let groups = c.abandon_next.ensures.groups in let fewer = c.abandon_next.ensures.fewer in omega (arith, c.loop-queues.invariant.1),
  λ memory most h.
      let on = c.loop-queues.invariant.2 memory most h in
      goes_on memory c.loop-queues.queues c.abandon_next.new.queues c.loop-queues.abandoned.keys c.abandon_next.new.abandoned.keys (map pin_of c.args.dropped.now.items) (map pin_of c.loop-queues.dropped.items) (map pin_of c.abandon_next.new.dropped.items)
      on (let test = c.loop-queues-test.true in let is = c.chunks.ensures in omega (arith, test, is, most)) (c.abandon_next.ensures.goes on.later on.kept),
)

pub returns-clause-after : goal.returns-clause-after
returns-clause-after g c = λ memory most h.
    ends_kept memory c.loop-queues.queues c.loop-queues.abandoned.keys (map pin_of c.args.dropped.now.items) (map pin_of c.loop-queues.dropped.items) (c.loop-queues.invariant.2 memory most h)
    (let test = c.loop-queues-test.false in let is = c.chunks.ensures in omega (arith, test, is, most))

pub returns-clause-drops : goal.returns-clause-drops
returns-clause-drops g c = λ memory most h.
    ends_dropped memory c.loop-queues.queues c.loop-queues.abandoned.keys (map pin_of c.args.dropped.now.items) (map pin_of c.loop-queues.dropped.items) (c.loop-queues.invariant.2 memory most h)
    (let test = c.loop-queues-test.false in let is = c.chunks.ensures in omega (arith, test, is, most))
