-- Tests over groups that lie in two slices.
use Rattle.std.proofs.Common.{◌≡◌, ℕ, zero, suc, ◌-◌, ◌<◌, ◌≤◌, Bool, true, false, ◌&&◌, ◌||◌, List, [], ◌∷◌, ◌++◌, length, filter, refl, ap, ◌∙◌, arith}
use Rattle.std.specs.Prelude.{slice_get}
use Rattle.std.specs.List.{list_any, list_all}
use Rattle.std.proofs.lemmas.List.Elements.{filter-append}

pub any_of_both : {X : Type 0} (p : X → Bool) (xs ys : List X) → list_any p (xs ++ ys) ≡ (list_any p xs || list_any p ys)
any_of_both p [] ys = refl
any_of_both p (x ∷ xs) ys = by_head (p x) (any_of_both p xs ys)
  where
    by_head : (b : Bool) → list_any p (xs ++ ys) ≡ (list_any p xs || list_any p ys) → (b || list_any p (xs ++ ys)) ≡ ((b || list_any p xs) || list_any p ys)
    by_head true e = refl
    by_head false e = e

pub all_of_both : {X : Type 0} (p : X → Bool) (xs ys : List X) → list_all p (xs ++ ys) ≡ (list_all p xs && list_all p ys)
all_of_both p [] ys = refl
all_of_both p (x ∷ xs) ys = by_head (p x) (all_of_both p xs ys)
  where
    by_head : (b : Bool) → list_all p (xs ++ ys) ≡ (list_all p xs && list_all p ys) → (b && list_all p (xs ++ ys)) ≡ ((b && list_all p xs) && list_all p ys)
    by_head true e = e
    by_head false e = refl

in_front : {X : Type 0} (xs ys : List X) (i : ℕ) → i < length xs → slice_get (xs ++ ys) i ≡ slice_get xs i
in_front [] ys i within = absurd (omega (arith, within))
in_front (x ∷ xs) ys zero within = refl
in_front (x ∷ xs) ys (suc i) within = in_front xs ys i (omega (arith, within))

behind : {X : Type 0} (xs ys : List X) (i : ℕ) → length xs ≤ i → slice_get (xs ++ ys) i ≡ slice_get ys (i - length xs)
behind [] ys i past = let all : i ≡ i - 0 = omega arith in ap (slice_get ys) all
behind (x ∷ xs) ys zero past = absurd (omega (arith, past))
behind (x ∷ xs) ys (suc i) past =
    let less : i - length xs ≡ suc i - length (x ∷ xs) = omega arith in
    behind xs ys i (omega (arith, past)) ∙ ap (slice_get ys) less

-- of those that pass, the one at a place is in the first slice, or behind those of it in the other
pub passes_in_front : {X : Type 0} (p : X → Bool) (xs ys : List X) (i : ℕ) → i < length (filter p xs) → slice_get (filter p (xs ++ ys)) i ≡ slice_get (filter p xs) i
passes_in_front p xs ys i within = ap (λ zs. slice_get zs i) (filter-append p xs ys) ∙ in_front (filter p xs) (filter p ys) i within

pub passes_behind : {X : Type 0} (p : X → Bool) (xs ys : List X) (i : ℕ) → length (filter p xs) ≤ i → slice_get (filter p (xs ++ ys)) i ≡ slice_get (filter p ys) (i - length (filter p xs))
passes_behind p xs ys i past = ap (λ zs. slice_get zs i) (filter-append p xs ys) ∙ behind (filter p xs) (filter p ys) i past
