use Rattle.std.proofs.Common.{ℕ, ◌-◌, ◌^◌}
use Rattle.hs_run.proofs.Prelude.{PlainWorkload, RunState, AllSents, ClosingAt}
use Rattle.hs_run.specs.Closings.{ClosingPaid}
use Rattle.hs_run.proofs.closing.close_down.Given as goal

abbrev pub invariant-passes : goal.invariant-passes
invariant-passes l =
    record {
      paid : ClosingPaid l.made l.nodes.items l.coordinator;
      by : (W : PlainWorkload) (rounds : ℕ) (m : RunState) (sents : AllSents) → ClosingAt W rounds m sents l.initial.nodes.items l.initial.coordinator → ClosingAt W rounds m sents l.nodes.items l.coordinator;
    }

abbrev pub decreases-passes : goal.decreases-passes
decreases-passes l = 2 ^ 32 - l.made
