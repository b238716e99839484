-- How much operations take of a client: calls of its core, draws and chunks at most as often as `client_pieces` counts them, a crumb
-- for each crumb, and at most a trigger for each trigger and each sample.
use Rattle.std.specs.Prelude.{◌≡◌, ℕ, ◌+◌, ◌≤◌, List, [], ◌∷◌, length, replicate, refl}
use Rattle.hs_link.specs.Contents.{Outgoing, sent}
use Rattle.hs_live.specs.Live.{PlainClient, GoesOn}
use Rattle.hs_live.specs.Writing.{DrawsOn}
use Rattle.hs_records.specs.Plain.{Operation, Begin, Point, Crumb, End, Fire, Sample}
use Rattle.hs_client.specs.Samples.{begin, crumb, fire}
use Rattle.hs_records.specs.Validity.{operation_pieces, client_pieces}

abbrev pub crumbs_in : Operation → ℕ
crumbs_in (Begin trace) = 0
crumbs_in (Point moment payload) = 0
crumbs_in (Crumb node) = 1
crumbs_in End = 0
crumbs_in (Fire trigger) = 0
crumbs_in (Sample moment auto value) = 0

abbrev pub triggers_in : Operation → ℕ
triggers_in (Begin trace) = 0
triggers_in (Point moment payload) = 0
triggers_in (Crumb node) = 0
triggers_in End = 0
triggers_in (Fire trigger) = 1
triggers_in (Sample moment auto value) = 1

abbrev pub crumbs_of : List Operation → ℕ
crumbs_of [] = 0
crumbs_of (operation ∷ operations) = crumbs_in operation + crumbs_of operations

abbrev pub triggers_of : List Operation → ℕ
triggers_of [] = 0
triggers_of (operation ∷ operations) = triggers_in operation + triggers_of operations

-- ---- what is used

-- The sender went on, and was given so many items at most.
pub record SendsFew {T F : Type 0} (items : ℕ) (s t : Outgoing T F) : Type 0 where
  pub goes : GoesOn s t
  pub few : length (sent t) ≤ length (sent s) + items

-- The client is the same one. So many calls were counted at most, as many draws made and chunks sent, and so many crumbs and
-- triggers sent at most.
pub record UsesUp (calls crumbs triggers : ℕ) (old new : PlainClient) : Type 0 where
  pub owner : new.core.client ≡ old.core.client
  pub size : new.core.size ≡ old.core.size
  pub calls_are : new.core.calls ≡ old.core.calls
  pub counted : new.core.counted ≤ old.core.counted + calls
  pub draws : DrawsOn old.drawer new.drawer
  pub left : old.drawer.left ≤ new.drawer.left + calls
  pub chunks : SendsFew calls old.chunks new.chunks
  pub crumbs_are : SendsFew crumbs old.crumbs new.crumbs
  pub triggers_are : SendsFew triggers old.triggers new.triggers

-- what one operation uses, and what some do
abbrev pub Uses : Operation → PlainClient → PlainClient → Type 0
Uses op old new = UsesUp (operation_pieces old.core.size op) (crumbs_in op) (triggers_in op) old new

abbrev pub UseAll : List Operation → PlainClient → PlainClient → Type 0
UseAll ops old new = UsesUp (client_pieces old.core.size ops) (crumbs_of ops) (triggers_of ops) old new

-- ---- examples

-- a point of 70 bytes counts three times on pages of 64
abbrev some_operations : List Operation
some_operations = begin 1 ∷ crumb 0 ∷ Point 7 (replicate 70 0) ∷ Sample 8 0 5 ∷ crumb 1 ∷ End ∷ fire 9 1 1 ∷ []

counted : (client_pieces 64 some_operations ≡ 9) × (crumbs_of some_operations ≡ 2) × (triggers_of some_operations ≡ 2)
counted = (refl, refl, refl)

nothing_counted : (crumbs_of [] ≡ 0) × (triggers_of [] ≡ 0)
nothing_counted = (refl, refl)
