use Rattle.hs_run_actors.proofs.Prelude.{PlainWorkload, plain_working_agent, Intakes, WorkingAgentStands, NodeWork}
use Rattle.hs_run_actors.proofs.Loops.{AsksSoFar}
use Rattle.hs_run_actors.proofs.working.WorkingAgent.take_asks.Given as goal

abbrev pub invariant-loop-count : goal.invariant-loop-count
invariant-loop-count g l = (W : PlainWorkload) (work : NodeWork) (lines : Intakes) → WorkingAgentStands W work (plain_working_agent l.initial.self) lines → AsksSoFar W work (plain_working_agent l.initial.self) lines l.count (plain_working_agent l.self)
