-- What holds of each item of a list.
use Rattle.std.proofs.Common.{◌≡◌, Bool, true, false, cond, List, [], ◌∷◌, filter, refl}
use Rattle.hs_agent.proofs.Prelude.{AllByRecursion}

module _ {X : Type 0} where
  -- what a test keeps
  pub all-passing : (p : X → Bool) (P Q : X → Type 0) → ((x : X) → p x ≡ true → P x → Q x) → (xs : List X) → AllByRecursion P xs → AllByRecursion Q (filter p xs)
  all-passing p P Q w [] h = tt
  all-passing p P Q w (x ∷ xs) h = by (p x) refl (all-passing p P Q w xs h.1)
    where
      by : (b : Bool) → p x ≡ b → AllByRecursion Q (filter p xs) → AllByRecursion Q (cond b (x ∷ filter p xs) (filter p xs))
      by true e rest = (w x e h.0, rest)
      by false e rest = rest

  pub all-filter : (p : X → Bool) (P : X → Type 0) (xs : List X) → AllByRecursion P xs → AllByRecursion P (filter p xs)
  all-filter p P xs h = all-passing p P P (λ x e q. q) xs h
