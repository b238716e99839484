use Rattle.std.proofs.Common.{arith}
use Rattle.hs_base.proofs.Loops.{loop_more, loop_all}
use Rattle.hs_report.proofs.Loops.{record_lines, record_lines_join}
use Rattle.hs_report.proofs.text.push_records.Goals as goal

pub loop-whole-preserved : goal.loop-whole-preserved
loop-whole-preserved c =
    λ entries are. loop_more (record_lines entries) (record_lines_join entries) c.args.records.now c.loop-whole.whole-index c.whole-item.result c.args.out.now.items c.loop-whole.out.items c.push_shown.new.out.items
    (omega arith) c.whole-item.is (c.loop-whole.invariant entries are) (c.in_ok-push_shown.ensures entries are)

pub returns : goal.returns
returns c =
    λ entries are. loop_all (record_lines entries) c.args.records.now c.loop-whole.whole-index c.args.out.now.items c.loop-whole.out.items (omega arith) (c.loop-whole.invariant entries are)
