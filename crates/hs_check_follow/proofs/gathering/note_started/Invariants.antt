use Rattle.std.proofs.Common.{◌≡◌, ◌++◌}
use Rattle.hs_check_follow.proofs.Prelude.{replicate}
use Rattle.hs_check_follow.proofs.gathering.note_started.Given as goal

abbrev pub invariant-loop-noted : goal.invariant-loop-noted
invariant-loop-noted l = l.started.items ≡ l.initial.started.items ++ replicate l.noted l.number
