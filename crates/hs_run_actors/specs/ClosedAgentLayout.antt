-- How an agent whose links are closed lies in its fields, and how it is joined of them.
use Rattle.std.specs.Prelude.{◌≡◌, ℕ, map, Result, Ok}
use Rattle.hs_base.specs.declared.ids.Memory.{Memory}
use Rattle.hs_run_actors.specs.declared.closed.ClosedAgent.TheInside.{Inside}
use Rattle.hs_run_actors.specs.declared.rests.Rests.{Rests}
use Rattle.hs_run_actors.specs.declared.working.WorkingAgent.{WorkingAgent}
use Rattle.hs_run_actors.specs.ClosedAgents.{PlainClosedAgent, remaining}

abbrev pub closed_agent_in : Inside → PlainClosedAgent
closed_agent_in s =
    record {
      agent = s.desk.agent;
      giver = s.rests.giver;
      chunks = map remaining s.rests.chunks.items;
      crumbs = s.rests.crumbs.items;
      triggers = s.rests.triggers.items;
      asks = s.desk.asks.items;
      said = s.desk.said.items;
      clients = s.clients;
    }

-- It has these parts.
pub record IsJoined (desk : WorkingAgent) (left : Result Rests Memory) (clients : ℕ) (shut : PlainClosedAgent) : Type 0 where
  pub rests : Rests
  pub left_is : left ≡ Ok rests
  pub is : shut ≡ closed_agent_in (record { desk = desk; rests = rests; clients = clients })
