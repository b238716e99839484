-- What all items of a client's links have in common. Each chunk is of the client's pool and has a page of that client in it,
-- each crumb leads to one of the nodes, and each trigger has an id that is declared.
use Rattle.std.specs.Prelude.{◌≡◌, ℕ, ◌<◌, true, List, Some}
use Rattle.hs_base.specs.declared.ids.ClientId.{ClientId}
use Rattle.hs_base.specs.declared.settings.TriggerRule.{TriggerRule}
use Rattle.hs_base.specs.declared.told.Crumb.{Crumb}
use Rattle.hs_base.specs.declared.told.Trigger.{Trigger}
use Rattle.hs_base.specs.Rules.{is_declared}
use Rattle.hs_words.specs.declared.page.Header.{Header}
use Rattle.hs_words.specs.Pools.{PoolName}
use Rattle.hs_words.specs.Chunks.{header_in}
use Rattle.hs_words.specs.Buffers.{Buffer}
use Rattle.hs_ring.specs.Parts.{Leased}

-- a client, its node's pool with the size of the chunks, how many nodes there are, and the rules of the trigger ids
pub record Key : Type 0 where
  pub client : ClientId
  pub pool : PoolName
  pub size : ℕ
  pub nodes : ℕ
  pub rules : List TriggerRule

-- A chunk of the key's pool, with a page of its client.
pub record IsChunkOf (key : Key) (buffer : Buffer Leased) : Type 0 where
  pub pool : buffer.lease.pool ≡ key.pool
  pub size : buffer.chunk.size ≡ key.size
  pub header : Header
  pub started : header_in buffer.chunk ≡ Some header
  pub owner : header.client ≡ key.client

abbrev pub IsCrumbOf : Key → Crumb → Type 0
IsCrumbOf key crumb = crumb.node.0 < key.nodes

abbrev pub IsTriggerOf : Key → Trigger → Type 0
IsTriggerOf key trigger = is_declared key.rules trigger.trigger ≡ true
