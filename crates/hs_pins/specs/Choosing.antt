-- The least of some things by a comparison, and lists in order: each of them a choice that a rule makes.
use Rattle.std.specs.Prelude.{Bool, List, [], ◌∷◌, Option, Some, None, if◌then◌else◌}
use Rattle.std.specs.Option.{option_map_or}
use Rattle.std.specs.declared.cmp.Ordering.{Ordering}
use Rattle.std.specs.Ordering.{is_le}

-- the least by a comparison, the first among equals
abbrev pub least : {X : Type 0} → (X → X → Ordering) → List X → Option X
least cmp [] = None
least cmp (x ∷ xs) = Some (option_map_or (λ y. if is_le (cmp x y) then x else y) (least cmp xs) x)

-- x stands before the first of these that need not stand before it
abbrev pub put_by : {X : Type 0} → (X → X → Bool) → X → List X → List X
put_by goes_behind x [] = x ∷ []
put_by goes_behind x (y ∷ ys) = if goes_behind y x then x ∷ y ∷ ys else y ∷ put_by goes_behind x ys

-- in order, and those that may stand either way as they stood
abbrev pub ordered_by : {X : Type 0} → (X → X → Bool) → List X → List X
ordered_by goes_behind [] = []
ordered_by goes_behind (x ∷ xs) = put_by goes_behind x (ordered_by goes_behind xs)
