use Rattle.hs_ring.specs.Parts.{Leased}
use Rattle.hs_agent.specs.Runs.{AgentRun}
use Rattle.hs_intake.specs.Intakes.{Stands}
use Rattle.hs_node.specs.Nodes.{GoesOn}
use Rattle.hs_node.specs.Passing.{Each, HearsFrom}
use Rattle.hs_node.proofs.node.Node.hear_each.Given as goal

abbrev pub invariant-loop-client : goal.invariant-loop-client
invariant-loop-client l =
    record {
      on : (run : AgentRun Leased) → Stands run l.initial.self.intake → GoesOn run l.initial.self l.self;
      does : (run : AgentRun Leased) → Stands run l.initial.self.intake → Each HearsFrom l.client run l.initial.self l.self;
    }
