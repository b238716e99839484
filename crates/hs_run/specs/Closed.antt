-- A node whose links are closed, by what its clients left.
use Rattle.std.specs.Prelude.{◌≡◌, map, Result, Ok}
use Rattle.hs_base.specs.declared.ids.Memory.{Memory}
use Rattle.hs_live.specs.Live.{outgoing}
use Rattle.hs_records.specs.Plain.{PlainWorkload}
use Rattle.hs_run_actors.specs.AgentActors.{PlainAgentActor, IsAgentActor}
use Rattle.hs_run_actors.specs.ClosedAgents.{AreMatesOf, IsClosedAgent, all_sent}
use Rattle.hs_run_actors.specs.Work.{NodeWork}
use Rattle.hs_run_actors.specs.declared.apart.PartedClients.{PartedClients}
use Rattle.hs_run.specs.declared.shutting.ClosedNode.{ClosedNode}

-- What the clients left are the other ends of the agent's links.
pub record AreEndsLeft (actor : PlainAgentActor) (parted : PartedClients) : Type 0 where
  pub chunks : AreMatesOf (map outgoing parted.chunks.items) actor.port.chunks
  pub crumbs : AreMatesOf parted.crumbs.items actor.port.crumbs
  pub triggers : AreMatesOf parted.triggers.items actor.port.triggers

-- The node has what its clients left, and the agent is the same one with closed links.
pub record IsClosedWith (actor : PlainAgentActor) (parted : PartedClients) (closed : ClosedNode) : Type 0 where
  pub books : closed.books ≡ parted.books
  pub drawers : closed.drawers ≡ parted.drawers
  pub stands : (W : PlainWorkload) (work : NodeWork) → IsAgentActor W work actor → IsClosedAgent W work (all_sent (map outgoing parted.chunks.items) parted.crumbs.items parted.triggers.items) closed.node
  pub giver : closed.node.giver ≡ actor.port.giver
  pub asks : closed.node.asks ≡ actor.asks
  pub said : closed.node.said ≡ actor.said
  pub agent : closed.node.agent ≡ actor.agent

-- The clients were taken apart, and the node has what they left.
pub record IsClosedOf (actor : PlainAgentActor) (parted : Result PartedClients Memory) (closed : ClosedNode) : Type 0 where
  pub left : PartedClients
  pub left_is : parted ≡ Ok left
  pub is : IsClosedWith actor left closed
