use Rattle.std.proofs.Common.{ℕ, length}
use Rattle.hs_replay.proofs.Prelude.{Machine, PlainWorkload, IsGiving, StandsStill}
use Rattle.hs_replay.proofs.node.ReplayNode.give_all.Given as goal

abbrev pub invariant-gives : goal.invariant-gives
invariant-gives l = (W : PlainWorkload) (m : Machine) (n : ℕ) (still : StandsStill W m n l.initial.self) → (given : ℕ) × IsGiving W m n still.at.run given l.self

abbrev pub decreases-gives : goal.decreases-gives
decreases-gives l = length l.self.agent.kept.hand
