use Rattle.std.proofs.Common.{length}
use Rattle.hs_live.proofs.Prelude.{writing_in}
use Rattle.hs_live.proofs.Cuts.{IsCutTo}
use Rattle.hs_live.proofs.writer.Writer.point.Given as goal

abbrev pub invariant-loop-rest : goal.invariant-loop-rest
invariant-loop-rest l = IsCutTo l.moment l.payload l.rest (writing_in l.initial.self) (writing_in l.self)

abbrev pub decreases-loop-rest : goal.decreases-loop-rest
decreases-loop-rest l = length l.rest
