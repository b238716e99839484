use Rattle.std.proofs.Common.{ℕ}
use Rattle.hs_run.proofs.Prelude.{NodeWork, PlainWorkload, NodeActorsStand, HaveMet}
use Rattle.hs_run.proofs.node_actors.NodeActors.meet.Given as goal

abbrev pub invariant-loop-number : goal.invariant-loop-number
invariant-loop-number l = (W : PlainWorkload) (node : ℕ) (work : NodeWork) → NodeActorsStand W node work l.initial.self → HaveMet W node work l.number l.initial.self l.self
