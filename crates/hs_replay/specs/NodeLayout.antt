-- How a node lies in its fields.
use Rattle.hs_replay.specs.declared.node.ReplayNode.TheInside.{Inside}
use Rattle.hs_replay.specs.Parts.{PlainReplayNode}

abbrev pub replay_node_in : Inside → PlainReplayNode
replay_node_in a = record { pool = a.pool; players = a.players.items; agent = a.agent; asks = a.asks.items; said = a.said.items }
