use Rattle.std.proofs.Common.{◌≡◌, IsSome}
use Rattle.hs_base.specs.declared.limits.TheConstants.{MIN_SIZE}
use Rattle.hs_sched.specs.Turns.{share_of}
use Rattle.tests_parts.proofs.sched.turns_share_by_weight.Given as goal

abbrev pub invariant-loop-turn : goal.invariant-loop-turn
invariant-loop-turn l = record { size : l.scheduler.size ≡ MIN_SIZE; one : IsSome (share_of l.scheduler 1); two : IsSome (share_of l.scheduler 2) }
