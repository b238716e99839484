use Rattle.std.proofs.Common.{◌≡◌, None}
use Rattle.hs_ring.specs.Parts.{Leased}
use Rattle.hs_agent.specs.Runs.{AgentRun}
use Rattle.hs_intake.specs.Intakes.{Stands, late_line}
use Rattle.hs_intake.proofs.Many.{SoFar}
use Rattle.hs_intake.proofs.intake.Intake.take_lates.Given as goal

abbrev pub invariant-loop-count : goal.invariant-loop-count
invariant-loop-count l =
    record {
      clients : l.self.clients ≡ l.initial.self.clients;
      front : l.self.back ≡ None;
      so_far : (run : AgentRun Leased) → Stands run l.initial.self → SoFar run late_line l.client l.initial.self l.count l.self;
    }
