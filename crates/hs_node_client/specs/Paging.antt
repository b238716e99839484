-- Where pages of a client come: each core writes pages with numbers from 0 on, and each renewal brings a new core. A page's header has the
-- number of the page, and the lease of its buffer that of the core.
use Rattle.std.specs.Prelude.{◌≡◌, ℕ, ◌+◌, ◌^◌, ◌<◌, ◌≤◌, List, [], ◌∷◌, ◌++◌, length, None, IsSome}
use Rattle.hs_base.specs.declared.limits.TheConstants.{MIN_SIZE}
use Rattle.hs_client.specs.Core.{Core, NeedsPage, all_pages}
use Rattle.hs_live.specs.Done.{HasDone}
use Rattle.hs_live.specs.Live.{PlainClient}
use Rattle.hs_live.specs.Writing.{Made}
use Rattle.hs_records.specs.Plain.{Operation, Point, End}
use Rattle.hs_records.specs.Records.{piece_count}
use Rattle.hs_ring.specs.Parts.{Leased}
use Rattle.hs_node_client.specs.declared.paged.NextPage.{NextPage}

-- where the next page of a core comes that keeps no page: behind those that ended
abbrev pub place_in : Core Leased → NextPage
place_in core = record { core = core.renewed; page = length core.pages }

-- the same of any core: behind the page that is kept, too
abbrev pub place_behind : Core Leased → NextPage
place_behind core = record { core = core.renewed; page = length (all_pages core) }

-- The place is behind all pages of the client's core. As many calls were counted at least. The client did some operations since its core
-- came, and where a trace is open that has no page, none of its bytes was used.
pub record IsBehind (place : NextPage) (live : PlainClient) : Type 0 where
  pub made : Made
  pub ops : List Operation
  pub done : HasDone made ops live
  pub core : place.core ≡ live.core.renewed
  pub page : place.page ≡ length (all_pages live.core)
  pub within : place.page ≤ live.core.counted
  pub few : live.core.calls < 2 ^ 32
  pub ready : IsSome live.core.trace → live.core.current ≡ None → live.core.used ≡ 0

-- ---- what operations take

-- So many pages came to those of the core.
pub record TakesPages (old new : PlainClient) (pages : ℕ) : Type 0 where
  pub pages_are : length (all_pages new.core) ≡ length (all_pages old.core) + pages
  pub renewed : new.core.renewed ≡ old.core.renewed

-- A point that needs a page takes one for each of its pieces.
abbrev pub PointsTakePages : Type 0
PointsTakePages =
    (moment : ℕ) (payload : List ℕ) (made : Made) (ops : List Operation) (old new : PlainClient) → HasDone made ops old → HasDone made (ops ++ Point moment payload ∷ []) new
    → IsSome old.core.trace → NeedsPage old.core (length payload) → (old.core.current ≡ None → old.core.used ≡ 0) → MIN_SIZE ≤ old.core.size
    → old.core.counted + piece_count old.core.size (length payload) ≤ old.core.calls → TakesPages old new (piece_count old.core.size (length payload))

-- An end takes none.
abbrev pub EndsTakeNone : Type 0
EndsTakeNone = (made : Made) (ops : List Operation) (old new : PlainClient) → HasDone made ops old → HasDone made (ops ++ End ∷ []) new → TakesPages old new 0
