-- Tests that hold together, and lists that are mapped, filtered and joined.
use Rattle.std.proofs.Common.{◌≡◌, Bool, true, false, cond, List, [], ◌∷◌, refl, filter}
use Rattle.hs_law_outcome.proofs.Prelude.{AllByRecursion}

-- ---- items that have a property

module _ {X : Type 0} where
  passes_case : (test : X → Bool) (x : X) (xs : List X) (b : Bool) → test x ≡ b → AllByRecursion (λ y. test y ≡ true) xs → AllByRecursion (λ y. test y ≡ true) (cond b (x ∷ xs) xs)
  passes_case test x xs true h all = (h, all)
  passes_case test x xs false h all = all

  pub filter_passes : (test : X → Bool) (xs : List X) → AllByRecursion (λ y. test y ≡ true) (filter test xs)
  filter_passes test [] = tt
  filter_passes test (x ∷ xs) = passes_case test x (filter test xs) (test x) refl (filter_passes test xs)
