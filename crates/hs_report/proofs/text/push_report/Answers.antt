use Rattle.hs_report.proofs.Prelude.{on_ok_weaker}
use Rattle.hs_report.proofs.Reports.{report_written}
use Rattle.hs_report.proofs.text.push_report.Goals as goal

pub returns : goal.returns
returns c =
    on_ok_weaker c.push_gaps.result
    (λ written entries records hold.
    report_written c.args.version entries records c.args.trace c.of.result.now c.args.out.now.items c.extend_from_slice.new.self.items c.push_spaced_trace.new.out.items c.end_line.new.out.items c.push_collected.new.out.items
    c.push_gaps.new.out.items c.in_ok-extend_from_slice.ensures.items c.in_ok-push_spaced_trace.ensures c.in_ok-end_line.ensures (c.in_ok-push_collected.ensures entries records hold) (c.of.ensures entries hold.are) written)
    c.push_gaps.ensures
