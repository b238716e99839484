use Rattle.std.proofs.Common.{length}
use Rattle.hs_settings.specs.Forward.{past_of}
use Rattle.hs_settings.proofs.Reading.{IsAt}
use Rattle.hs_settings.proofs.reader.read_settings.Given as goal

abbrev pub invariant-loop-line : goal.invariant-loop-line
invariant-loop-line l = IsAt l.text l.rest l.lines (past_of l.reader)

abbrev pub decreases-loop-line : goal.decreases-loop-line
decreases-loop-line l = length l.rest
