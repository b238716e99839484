-- Lists: what holds of the items that pass a test.
use Rattle.std.proofs.Common.{◌≡◌, Bool, true, false, cond, List, [], ◌∷◌, refl, sym, ◌∙◌, filter}
use Rattle.hs_law_journal.proofs.Prelude.{AllByRecursion}

pub all_passing : {X : Type 0} (P : X → Type 0) (p : X → Bool) (xs : List X) → AllByRecursion P (filter p xs) → AllByRecursion (λ x. p x ≡ true → P x) xs
all_passing P p [] all = tt
all_passing P p (x ∷ xs) all = either (p x) refl all (λ rest. all_passing P p xs rest)
  where
    either : (b : Bool) → p x ≡ b → AllByRecursion P (cond b (x ∷ filter p xs) (filter p xs)) → (AllByRecursion P (filter p xs) → AllByRecursion (λ x. p x ≡ true → P x) xs) → (p x ≡ true → P x) × AllByRecursion (λ x. p x ≡ true → P x) xs
    either true e all rest = (λ _. all.0, rest all.1)
    either false e all rest = (λ is. let no : true ≡ false = sym is ∙ e in absurd cc, rest all)
