use Rattle.std.proofs.Common.{arith}
use Rattle.hs_base.proofs.Loops.{loop_more_at, loop_all}
use Rattle.hs_report.proofs.Loops.{gap_lines, gap_lines_join}
use Rattle.hs_report.proofs.text.push_gaps.Goals as goal

pub loop-entry-preserved : goal.loop-entry-preserved
loop-entry-preserved c =
    loop_more_at (gap_lines c.args.version) (gap_lines_join c.args.version) c.args.entries.now c.loop-entry.entry-index _ c.args.out.now.items c.loop-entry.out.items c.push_unreported.new.out.items
    (omega arith) c.loop-entry.invariant c.in_ok-push_unreported.ensures

pub returns : goal.returns
returns c = loop_all (gap_lines c.args.version) c.args.entries.now c.loop-entry.entry-index c.args.out.now.items c.loop-entry.out.items (omega arith) c.loop-entry.invariant
