use Rattle.std.proofs.Common.{ℕ, ◌+◌, ◌-◌, ◌*◌, ◌≤◌, length}
use Rattle.hs_base.specs.declared.limits.TheConstants.{MIN_SIZE}
use Rattle.tests_with.specs.Pairs.{CanCall, KeepsClient}
use Rattle.tests_threads.proofs.live_calls.do_calls.Given as goal

-- so many calls are left as the table has behind this one
abbrev pub invariant-loop-call : goal.invariant-loop-call
invariant-loop-call l = record {
  left : (n : ℕ) → CanCall MIN_SIZE (2 * length l.calls + n) l.initial.client → CanCall MIN_SIZE (2 * (length l.calls - l.call-index) + n) l.client;
  same : KeepsClient l.initial.client l.client;
  few : l.others ≤ l.call-index;
}
