-- What a call that was cut short wrote: a front of its text.
use Rattle.std.specs.Prelude.{◌≡◌, ℕ, List, ◌++◌, Option}
use Rattle.hs_base.specs.Outside.{Gains}

-- The sink gained a front of this text.
abbrev pub GainsFront : Option (List ℕ) → Option (List ℕ) → List ℕ → Type 0
GainsFront old new text = (front rest : List ℕ) × (text ≡ front ++ rest) × Gains old new front
