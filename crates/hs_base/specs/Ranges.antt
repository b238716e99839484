-- A range of numbers, from its least to its most.
use Rattle.std.specs.Prelude.{ℕ, ◌≤◌, ◌||◌, Bool, nat_lt}

abbrev pub Within : ℕ → ℕ → ℕ → Type 0
Within least most number = (least ≤ number) × (number ≤ most)

-- whether a number is out of the range
abbrev pub is_out : ℕ → ℕ → ℕ → Bool
is_out least most number = nat_lt number least || nat_lt most number
