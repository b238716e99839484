use Rattle.std.proofs.Common.{◌-◌, length}
use Rattle.hs_run_actors.proofs.Prelude.{MAX_PUBLISHED, PlainWorkload, answers_in, plain_working_agent, WorkingAgentStands, NodeWork}
use Rattle.hs_run_actors.proofs.Offers.{OffersSoFar}
use Rattle.hs_run_actors.proofs.working.WorkingAgent.offer_all.Given as goal

abbrev pub invariant-offers : goal.invariant-offers
invariant-offers g l = (W : PlainWorkload) (work : NodeWork) → WorkingAgentStands W work (plain_working_agent l.initial.self) (g.E.IntakeEnds.sees l.initial.ends) → OffersSoFar W work (g.E.IntakeEnds.sees l.initial.ends) (g.E.IntakeEnds.sees l.ends) (plain_working_agent l.self)

-- answers with a stamp are few
abbrev pub decreases-offers : goal.decreases-offers
decreases-offers g l = MAX_PUBLISHED - length (answers_in (g.E.IntakeEnds.sees l.ends).giver.turns)
