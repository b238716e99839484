-- How a node lies in memory: it has an end for the notes of each client.
use Rattle.std.specs.Prelude.{◌≡◌, length}
use Rattle.hs_node.specs.declared.node.Node.TheInside.{Inside}
use Rattle.hs_node.specs.Nodes.{PlainNode}

abbrev pub node_in : Inside → PlainNode
node_in n = record { intake = n.intake; notes = n.notes; segments = n.segments.items; clients = n.clients; limit = n.limit; limited = n.limited }

pub record IsNode (n : Inside) : Type 0 where
  pub segments : length n.segments.items ≡ n.clients
