-- The one place of each buffer of a pool between threads, as the rule of its table knows it, and what a lease says.
use Rattle.std.specs.Prelude.{◌≡◌, ℕ, ◌<◌, List}
use Rattle.hs_words.specs.Ends.{Deed, IsGot, NoneSince}

-- A buffer's one place: in the queue, under the number with which it leaves; with a drawer that drew it or collected it; with the lease
-- of a seat; with the giver.
pub data Spot : Type 0 where
  in_queue : ℕ → Spot
  with_drawer : ℕ → Spot
  leased : ℕ → Spot
  with_giver : Spot

-- the buffer of the draw with this stamp has this place, and no event has it since
abbrev pub HasLease : ℕ → List Deed → (ℕ → Spot) → ℕ → ℕ → Spot → Type 0
HasLease n log spots buffer draw spot = (spots buffer ≡ spot) × IsGot log draw buffer × NoneSince buffer draw log × (buffer < n)
