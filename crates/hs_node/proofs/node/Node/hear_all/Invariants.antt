use Rattle.std.proofs.Common.{true}
use Rattle.hs_ring.specs.Parts.{Leased}
use Rattle.hs_agent.specs.Runs.{AgentRun}
use Rattle.hs_intake.specs.Intakes.{Stands}
use Rattle.hs_node.specs.Nodes.{GoesOn}
use Rattle.hs_node.specs.Passing.{Each, Hears}
use Rattle.hs_node.proofs.node.Node.hear_all.Given as goal

abbrev pub invariant-loop : goal.invariant-loop
invariant-loop l =
    record {
      on : (run : AgentRun Leased) → Stands run l.initial.self.intake → GoesOn run l.initial.self l.self;
      does : (run : AgentRun Leased) → Stands run l.initial.self.intake → Each (λ n. (Hears l.client) true) l.counter run l.initial.self l.self;
    }
