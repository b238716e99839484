-- What a read, a write and a fault do to what a source has left, what a sink has written, and their counts.
-- A source or a sink that does not tell its bytes claims nothing of them.
use Rattle.std.specs.Prelude.{◌≡◌, ℕ, ◌-◌, ◌^◌, ◌<◌, ◌≤◌, List, ◌++◌, Option, Some, None, ◌⊎◌}

-- A count rose where it is greater than before, or stands at the end of its type.
abbrev pub Rose : ℕ → ℕ → Type 0
Rose before after = (before < after) ⊎ (2 ^ 64 - 1 ≤ after)

-- The known bytes begin with these, and lose them.
abbrev pub Loses : Option (List ℕ) → Option (List ℕ) → List ℕ → Type 0
Loses None new bytes = new ≡ None
Loses (Some old) None bytes = ⊥
Loses (Some old) (Some new) bytes = old ≡ bytes ++ new

-- The known bytes gain these at their end.
abbrev pub Gains : Option (List ℕ) → Option (List ℕ) → List ℕ → Type 0
Gains None new bytes = new ≡ None
Gains (Some old) None bytes = ⊥
Gains (Some old) (Some new) bytes = new ≡ old ++ bytes
