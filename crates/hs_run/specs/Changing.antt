-- Lists whose items changed, each as a relation of its place says.
use Rattle.std.specs.Prelude.{◌≡◌, ℕ, ◌<◌, ◌≤◌, List, length, slice_get, Some}

module _ {A : Type 0} where
  -- Each item changed so.
  pub record EachChanged (Changes : ℕ → A → A → Type 0) (old new : List A) : Type 0 where
    pub many : length new ≡ length old
    pub each : (place : ℕ) (x y : A) → slice_get old place ≡ Some x → slice_get new place ≡ Some y → Changes place x y

  -- The first so many items changed so, and the others are as they were.
  pub record FirstChanged (Changes : ℕ → A → A → Type 0) (count : ℕ) (old new : List A) : Type 0 where
    pub many : length new ≡ length old
    pub first : (place : ℕ) (x y : A) → place < count → slice_get old place ≡ Some x → slice_get new place ≡ Some y → Changes place x y
    pub others : (place : ℕ) → count ≤ place → slice_get new place ≡ slice_get old place
