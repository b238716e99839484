use Rattle.std.proofs.Common.{◌∙◌}
use Rattle.hs_report.proofs.KeptLemmas.{among_more}
use Rattle.hs_report.proofs.kept.set_of.Goals as goal

pub loop-trace-preserved : goal.loop-trace-preserved
loop-trace-preserved c = λ trace.
    c.in_ok-insert.ensures.updates.0 trace ∙ among_more c.args.traces.now c.loop-trace.trace-index _ trace _ c.loop-trace-test.true (c.loop-trace.invariant trace)
