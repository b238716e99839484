use Rattle.std.proofs.Common.{length, arith}
use Rattle.hs_compare.proofs.Counted.{line_is, once_few}
use Rattle.hs_compare.proofs.lines.counted_line.Goals as goal

pub overflow_cast-result-2 : goal.overflow_cast-result-2
overflow_cast-result-2 c = omega (arith, c.len.ensures, c.requires.counted.count, once_few c.args.kept.now, c.requires.kept)

pub returns : goal.returns
returns c = λ traces has.
    line_is traces c.args.named.now c.args.kept.now c.args.all.now.entries c.args.counts.now.entries c.args.shipped (length c.args.kept.now) c.len.result c.count_whole.result has c.requires.counted
    (omega arith) (omega arith) c.count_whole.ensures
