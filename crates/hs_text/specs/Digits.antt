-- Digits of a number, so many of them, the highest first: where it has fewer, zeros stand in front.
use Rattle.std.specs.Prelude.{◌≡◌, ℕ, ◌+◌, ◌/◌, ◌%◌, List, [], ◌∷◌, ◌++◌, codes, refl}

-- the two digits of a number below 100
abbrev pub two_digits : ℕ → List ℕ
two_digits n = (48 + n / 10) ∷ (48 + n % 10) ∷ []

-- the four digits of a number below 10000
abbrev pub four_digits : ℕ → List ℕ
four_digits n = two_digits (n / 100) ++ two_digits (n % 100)

-- worked examples
digits_of_numbers : (two_digits 7 ≡ codes "07") × (two_digits 42 ≡ codes "42") × (four_digits 305 ≡ codes "0305")
digits_of_numbers = (refl, refl, refl)
