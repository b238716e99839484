-- The null pages of a client's whole life, and what its counts say of them. Each page of a core had a draw; where the draw got no buffer the page is
-- null, and has no chunk.
use Rattle.std.specs.Prelude.{◌≡◌, ℕ, ◌+◌, min, List, [], ◌∷◌, ◌++◌, length, count_by, refl}
use Rattle.std.specs.Option.{option_to_list}
use Rattle.hs_client.specs.Core.{handed, is_null}
use Rattle.hs_link.specs.Contents.{sent}
use Rattle.hs_live.specs.Writing.{Made, draws_by}
use Rattle.hs_records.specs.Pages.{pages_of}
use Rattle.hs_words.specs.Ends.{Answer}
use Rattle.hs_words.specs.PoolHistory.{Got, Empty}
use Rattle.hs_node_client.specs.Clients.{PlainNodeClient, nulls_of}
use Rattle.hs_node_client.specs.Counting.{all_counts}
use Rattle.hs_node_client.specs.Lives.{CoreLife, ClientLife, HasLife}

-- ---- null pages

-- how many of these draws got no buffer
abbrev pub nulls_by : List Answer → ℕ
nulls_by answers = count_by is_null (draws_by answers)

-- the pages of all cores of a life
abbrev pub page_count : ClientLife → ℕ
page_count [] = 0
page_count (core ∷ cores) = page_count cores + length (pages_of core.made.size core.ops)

-- a count of 64 bits, which stays at its greatest number once it is there
abbrev pub capped : ℕ → ℕ
capped count = min count 18446744073709551615

-- ---- a life

-- The first core came with a drawer that had drawn nothing.
abbrev pub IsFromStart : ClientLife → Type 0
IsFromStart [] = ⊥
IsFromStart (core ∷ []) = core.made.answers ≡ []
IsFromStart (core ∷ earlier ∷ cores) = IsFromStart (earlier ∷ cores)

-- the null pages of the cores before the last
abbrev pub nulls_before : ClientLife → ℕ
nulls_before [] = 0
nulls_before (core ∷ cores) = nulls_by core.made.answers

-- This is the client's life from its start, and the null pages of its earlier cores are summed up.
pub record HasCounted (life : ClientLife) (client : PlainNodeClient) : Type 0 where
  pub lives : HasLife life client.live
  pub start : IsFromStart life
  pub past : client.tally.past.null_pages ≡ capped (nulls_before life)

-- A call leaves the sum of these as it was.
abbrev pub KeepsNulls : PlainNodeClient → PlainNodeClient → Type 0
KeepsNulls old new = new.tally.past.null_pages ≡ old.tally.past.null_pages

-- ---- what holds in a life

-- So many draws of the client got no buffer: these are the pages of its life, over all its cores, but for those whose chunks were sent or are
-- written. And its counts say this number of null pages.
pub record NullsAreCounted (life : ClientLife) (client : PlainNodeClient) : Type 0 where
  pub pages : nulls_by client.live.drawer.answers + length (sent client.live.chunks ++ option_to_list (handed client.live.core)) ≡ page_count life
  pub count : (all_counts (nulls_of client.live.core) client.tally).null_pages ≡ capped (nulls_by client.live.drawer.answers)

-- ---- examples

-- a buffer was got, and then none twice
two_nulls : nulls_by (record { stamp = 4; event = Empty; draw = 0 } ∷ record { stamp = 3; event = Empty; draw = 0 } ∷ record { stamp = 2; event = Got 7; draw = 0 } ∷ []) ≡ 2
two_nulls = refl

-- of a life of two cores those of the last are not yet summed up
abbrev core_of : Made → CoreLife
core_of made = record { made = made; ops = [] }

of_earlier_cores : (a b : Made) → (nulls_before (core_of b ∷ core_of a ∷ []) ≡ nulls_by b.answers) × (page_count (core_of b ∷ core_of a ∷ []) ≡ 0)
of_earlier_cores a b = (refl, refl)
