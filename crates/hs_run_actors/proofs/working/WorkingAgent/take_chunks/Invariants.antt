use Rattle.hs_run_actors.proofs.Prelude.{PlainWorkload, plain_working_agent, AgentCanTake, NodeWork}
use Rattle.hs_run_actors.proofs.Loops.{ChunksSoFar}
use Rattle.hs_run_actors.proofs.working.WorkingAgent.take_chunks.Given as goal

abbrev pub invariant-loop-count : goal.invariant-loop-count
invariant-loop-count g l = (W : PlainWorkload) (work : NodeWork) → AgentCanTake W work l.client (plain_working_agent l.initial.self) (g.E.IntakeEnds.sees l.initial.ends)
    → ChunksSoFar W work l.client (g.E.IntakeEnds.sees l.initial.ends) l.count (g.E.IntakeEnds.sees l.ends) (plain_working_agent l.self)
