use Rattle.hs_ring.specs.Parts.{Leased}
use Rattle.hs_agent.specs.Runs.{AgentRun}
use Rattle.hs_intake.specs.Intakes.{Stands}
use Rattle.hs_intake.proofs.Asks.{SoAsked}
use Rattle.hs_intake.proofs.intake.Intake.take_asks.Given as goal

abbrev pub invariant-loop-count : goal.invariant-loop-count
invariant-loop-count l = record { so_far : (run : AgentRun Leased) → Stands run l.initial.self → SoAsked run l.initial.self l.count l.self }
