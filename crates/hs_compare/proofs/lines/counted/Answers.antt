use Rattle.std.proofs.Common.{take, get_or, length-take, arith}
use Rattle.hs_compare.proofs.Counted.{few_times}
use Rattle.hs_compare.proofs.lines.counted.Goals as goal

pub count_one-requires : goal.count_one-requires
count_one-requires c =
    let traces = c.args.traces.now in
    let place = c.loop-place.place in
    omega (arith, few_times (take place traces) c.loop-place.counts.entries (get_or traces place (record { 0 = 0 })) c.loop-place.invariant, length-take place traces)
