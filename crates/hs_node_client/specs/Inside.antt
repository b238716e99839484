-- How a client of a service lies in its fields, and what is true of these between calls.
use Rattle.std.specs.Prelude.{◌≡◌, ◌+◌, ◌*◌, ◌^◌, ◌<◌, ◌≤◌, map, None, IsSome}
use Rattle.hs_base.specs.Rules.{fired_by}
use Rattle.hs_base.specs.declared.limits.TheConstants.{PIECE_COST, MAX_SIZE, MOST_NODES}
use Rattle.hs_client.specs.Core.{Core}
use Rattle.hs_ring.specs.Parts.{Leased}
use Rattle.hs_node_client.specs.declared.client.NodeClient.TheInside.{Inside}
use Rattle.hs_node_client.specs.declared.limits.TheConstants.{MIN_CALLS}
use Rattle.hs_node_client.specs.Clients.{PlainNodeClient}
use Rattle.hs_node_client.specs.Known.{AreDeclared, rules_in}

abbrev pub node_client_of : Inside → PlainNodeClient
node_client_of s = record { live = s.live; late = s.late; notebook = s.notebook; tally = s.tally }

-- An open trace has a call left, and as many as its page may still have pieces, so that what fits the page is counted.
pub record HasCalls (core : Core Leased) : Type 0 where
  pub left : core.counted < core.calls
  pub room : core.size + PIECE_COST + PIECE_COST * core.counted ≤ core.used + PIECE_COST * core.calls

pub record IsNodeClient (s : Inside) : Type 0 where
  pub declared : AreDeclared s.live.triggers.key.rules s.declared
  pub fires : map fired_by (rules_in s.live) ≡ s.fires.items
  pub nodes : s.live.crumbs.key.nodes ≡ s.nodes
  pub late : s.late.key.nodes ≡ s.nodes
  pub most : s.nodes ≤ MOST_NODES
  pub calls : s.live.core.calls ≡ s.calls
  pub enough : MIN_CALLS ≤ s.calls
  pub size : s.live.core.size ≤ MAX_SIZE
  pub has : IsSome s.live.core.trace → HasCalls s.live.core
  pub counted : s.tally.here.points ≤ s.live.core.counted
  pub none : s.live.core.trace ≡ None → s.tally.here.points ≡ 0
  -- a trace that was opened has a number left for the note of its end
  pub number : IsSome s.live.core.trace → s.notebook.number + 1 < 2 ^ 64
