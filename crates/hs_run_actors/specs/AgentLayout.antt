-- How an agent of the rounds lies in its fields.
use Rattle.hs_run_actors.specs.declared.agent.AgentActor.TheInside.{Inside}
use Rattle.hs_run_actors.specs.AgentActors.{PlainAgentActor}

abbrev pub agent_actor_in : Inside → PlainAgentActor
agent_actor_in s = record { agent = s.desk.agent; port = s.port; asks = s.desk.asks.items; said = s.desk.said.items; clients = s.clients }
