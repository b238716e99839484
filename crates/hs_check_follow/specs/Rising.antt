-- Whether stamps rise, behind one that came before them or behind none.
use Rattle.std.specs.Prelude.{◌≡◌, ℕ, Bool, true, ◌&&◌, nat_lt, List, [], ◌∷◌, Option, Some, None, refl}
use Rattle.hs_law_journal.specs.Shape.{rise, rise_above}

-- whether a stamp may stand behind
abbrev pub is_above : Option ℕ → ℕ → Bool
is_above None stamp = true
is_above (Some before) stamp = nat_lt before stamp

-- whether these rise behind it
abbrev pub rise_behind : Option ℕ → List ℕ → Bool
rise_behind None stamps = rise stamps
rise_behind (Some before) stamps = rise_above before stamps

behind_some : (rise_behind (Some 3) (4 ∷ 9 ∷ []) ≡ true) × (is_above (Some 3) 4 ≡ true) × (is_above None 0 ≡ true)
behind_some = (refl, refl, refl)
