-- A stable sort keeps what any test passes whose elements tie.
use Rattle.std.proofs.Common.{◌≡◌, Bool, true, false, cond, List, [], ◌∷◌, sym, ap, ◌∙◌, refl, ◌⊎◌, inl, inr}
use Rattle.std.specs.List.{filter}
use Rattle.std.specs.List.Sorted.{ties, IsStableBy}
use Rattle.hs_base.proofs.Filters.{filter_weaker}

first_more : {X : Type 0} (test : X → Bool) (z : X) (zs : List X) (a : Bool) → test z ≡ a → (filter test zs ≡ []) ⊎ ((x : X) × (test x ≡ true)) → (filter test (z ∷ zs) ≡ []) ⊎ ((x : X) × (test x ≡ true))
first_more test z zs true is rest = inr (z, is)
first_more test z zs false is (inl none) = inl (ap (λ t. cond t (z ∷ filter test zs) (filter test zs)) is ∙ none)
first_more test z zs false is (inr one) = inr one

-- an element that passes, or none
first_passing : {X : Type 0} (test : X → Bool) (zs : List X) → (filter test zs ≡ []) ⊎ ((x : X) × (test x ≡ true))
first_passing test [] = inl refl
first_passing test (z ∷ zs) = first_more test z zs (test z) refl (first_passing test zs)

by_one : {X : Type 0} (lt : X → X → Bool) (test : X → Bool) (xs ys : List X) → ((x y : X) → test x ≡ true → test y ≡ true → ties lt x y ≡ true) → IsStableBy lt xs ys → (x : X) → test x ≡ true
    → filter test ys ≡ filter test xs
by_one lt test xs ys tie stable x is =
    sym (filter_weaker test (ties lt x) (λ y passes. tie x y is passes) ys) ∙ ap (filter test) (stable x) ∙ filter_weaker test (ties lt x) (λ y passes. tie x y is passes) xs

by_any : {X : Type 0} (lt : X → X → Bool) (test : X → Bool) (xs ys : List X) → ((x y : X) → test x ≡ true → test y ≡ true → ties lt x y ≡ true) → IsStableBy lt xs ys
    → (filter test xs ≡ []) ⊎ ((x : X) × (test x ≡ true)) → (filter test ys ≡ []) ⊎ ((x : X) × (test x ≡ true)) → filter test ys ≡ filter test xs
by_any lt test xs ys tie stable (inr one) other = by_one lt test xs ys tie stable one.0 one.1
by_any lt test xs ys tie stable (inl none) (inr one) = by_one lt test xs ys tie stable one.0 one.1
by_any lt test xs ys tie stable (inl none) (inl neither) = neither ∙ sym none

pub stable_keeps : {X : Type 0} (lt : X → X → Bool) (test : X → Bool) (xs ys : List X) → ((x y : X) → test x ≡ true → test y ≡ true → ties lt x y ≡ true) → IsStableBy lt xs ys
    → filter test ys ≡ filter test xs
stable_keeps lt test xs ys tie stable = by_any lt test xs ys tie stable (first_passing test xs) (first_passing test ys)
