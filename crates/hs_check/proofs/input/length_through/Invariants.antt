use Rattle.std.proofs.Common.{◌≡◌, ◌+◌, ◌≤◌, length}
use Rattle.hs_check.proofs.Prelude.{length_with}
use Rattle.hs_check.proofs.input.length_through.Given as goal

abbrev pub invariant-loop-line : goal.invariant-loop-line
invariant-loop-line l = record { within : length l.rest ≤ length l.text; left : length_with l.word l.text + length l.rest ≡ length l.text + length_with l.word l.rest }

abbrev pub decreases-loop-line : goal.decreases-loop-line
decreases-loop-line l = length l.rest
