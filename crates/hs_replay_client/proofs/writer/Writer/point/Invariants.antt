use Rattle.std.proofs.Common.{length}
use Rattle.hs_replay_client.proofs.Prelude.{writing_in}
use Rattle.hs_replay_client.proofs.Cuts.{IsCutTo}
use Rattle.hs_replay_client.proofs.writer.Writer.point.Given as goal

abbrev pub invariant-loop-rest : goal.invariant-loop-rest
invariant-loop-rest g l = IsCutTo g.W.Well.way l.moment l.payload l.rest (writing_in l.initial.self) (writing_in l.self) l.initial.well l.well

abbrev pub decreases-loop-rest : goal.decreases-loop-rest
decreases-loop-rest g l = length l.rest
