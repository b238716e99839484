-- A list in which one item changed.
use Rattle.std.specs.Prelude.{◌≡◌, ℕ, List, Some, slice_get, slice_set}

-- The item at a place became another one, of which this holds, and no other item changed.
pub record ChangesAt {A : Type 0} (place : ℕ) (old new : List A) (Became : A → A → Type 0) : Type 0 where
  pub before : A
  pub stood : slice_get old place ≡ Some before
  pub now : A
  pub set : new ≡ slice_set old place now
  pub became : Became before now
