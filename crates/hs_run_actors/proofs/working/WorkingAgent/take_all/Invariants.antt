use Rattle.hs_run_actors.proofs.Prelude.{PlainWorkload, plain_working_agent, CanPass, TakesFirst, NodeWork}
use Rattle.hs_run_actors.proofs.working.WorkingAgent.take_all.Given as goal

abbrev pub invariant-loop-client : goal.invariant-loop-client
invariant-loop-client g l = (W : PlainWorkload) (work : NodeWork) → CanPass W work l.clients (plain_working_agent l.initial.self) (g.E.IntakeEnds.sees l.initial.ends)
    → TakesFirst W work l.client (g.E.IntakeEnds.sees l.initial.ends) (g.E.IntakeEnds.sees l.ends) (plain_working_agent l.self)
