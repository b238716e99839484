-- The seats at a table that threads share, as the list of what each of them knows.
use Rattle.std.specs.Prelude.{◌≡◌, ℕ, List}
use mathlib.Core.Option.{some}
use lib.ListN.{get_elem?}

module _ {V : Type 0} where
  -- the seat j is one of which this holds
  abbrev pub AtSeat : List V → (V → Type 0) → ℕ → Type 0
  AtSeat views P j = (v : V) × (get_elem? views j ≡ some v) × P v
