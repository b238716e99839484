-- Whether nothing is wrong with any line of a text by itself: each byte prints or ends a line, and no two of the bytes between
-- words or lines stand side by side. The text's start is taken for such a byte.
use Rattle.std.specs.Prelude.{◌≡◌, ℕ, Bool, true, false, not, ◌||◌, ◌&&◌, ◌==◌, nat_lt, List, [], ◌∷◌, ◌++◌, codes, refl}
use Rattle.std.specs.List.{list_all, zip}

-- whether a byte ends a word or a line
abbrev pub is_separator : ℕ → Bool
is_separator b = b == 32 || b == 10

-- whether a byte neither prints nor ends a line
abbrev pub is_stray : ℕ → Bool
is_stray b = (nat_lt b 32 && not (b == 10)) || nat_lt 126 b

-- whether two bytes that stand side by side do not both end a word or a line
abbrev pub are_apart : ℕ × ℕ → Bool
are_apart beside = not (is_separator beside.0 && is_separator beside.1)

abbrev pub is_tidy : List ℕ → Bool
is_tidy text = list_all (λ b. not (is_stray b)) text && list_all are_apart (zip (10 ∷ text) text)

-- worked examples
texts_tidied : (is_tidy (codes "ask" ++ 10 ∷ codes "got 1 2" ++ 10 ∷ []) ≡ true) × (is_tidy (codes "ask " ++ 10 ∷ []) ≡ false) × (is_tidy (codes "ask" ++ 10 ∷ 10 ∷ []) ≡ false)
    × (is_tidy (codes " ask") ≡ false) × (is_tidy (codes "got  1") ≡ false) × (is_tidy (codes "ask" ++ 13 ∷ 10 ∷ []) ≡ false) × (is_tidy [] ≡ true)
texts_tidied = (refl, refl, refl, refl, refl, refl, refl)
