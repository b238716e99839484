use Rattle.std.proofs.Common.{arith}
use Rattle.hs_base.proofs.Loops.{loop_more_at, loop_all}
use Rattle.hs_report.proofs.Loops.{trace_lines, trace_lines_join, one_report}
use Rattle.hs_report.proofs.text.push_reports.Goals as goal

pub loop-trace-preserved : goal.loop-trace-preserved
loop-trace-preserved c =
    λ entries records hold. loop_more_at (trace_lines c.args.version entries records) (trace_lines_join c.args.version entries records) c.args.traces.now c.loop-trace.trace-index _
    c.args.out.now.items c.loop-trace.out.items c.push_report.new.out.items (omega arith) (c.loop-trace.invariant entries records hold)
    (one_report c.args.version entries records _ c.loop-trace.out.items c.push_report.new.out.items (c.in_ok-push_report.ensures entries records hold))

pub returns : goal.returns
returns c =
    λ entries records hold. loop_all (trace_lines c.args.version entries records) c.args.traces.now c.loop-trace.trace-index c.args.out.now.items c.loop-trace.out.items (omega arith)
    (c.loop-trace.invariant entries records hold)
