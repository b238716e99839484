-- The seats of drawers: of which pool each is, and which number it has there.
use Rattle.std.specs.Prelude.{◌≡◌, ℕ, List, length, get_or, ◌<◌}
use Rattle.hs_ring.specs.Parts.{Drawing}

-- the drawers after their draws, each in the seat that it had
pub record HaveSeats (old new : List Drawing) : Type 0 where
  pub count : length new ≡ length old
  pub pools : (place : ℕ) (d : Drawing) → place < length old → (get_or new place d).pool ≡ (get_or old place d).pool
  pub numbers : (place : ℕ) (d : Drawing) → place < length old → (get_or new place d).number ≡ (get_or old place d).number
