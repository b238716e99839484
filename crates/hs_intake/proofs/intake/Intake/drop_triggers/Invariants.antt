use Rattle.std.proofs.Common.{◌≡◌}
use Rattle.hs_ring.specs.Parts.{Leased}
use Rattle.hs_agent.specs.Runs.{AgentRun}
use Rattle.hs_intake.specs.Intakes.{Stands}
use Rattle.hs_intake.proofs.Fronts.{SoDropped}
use Rattle.hs_intake.proofs.intake.Intake.drop_triggers.Given as goal

abbrev pub invariant-loop-count : goal.invariant-loop-count
invariant-loop-count l =
    record {
      clients : l.self.clients ≡ l.initial.self.clients;
      so_far : (run : AgentRun Leased) → Stands run l.initial.self → SoDropped run l.client l.initial.self l.count l.self;
    }
