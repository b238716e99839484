-- What stands first among those that pass a test is what is found by it.
use Rattle.std.proofs.Common.{◌≡◌, Bool, true, false, cond, List, [], ◌∷◌, Some, None, refl, sym, ap, ◌∙◌}
use Rattle.std.specs.Prelude.{filter, find, ◌&&◌}

pub find-first : {X : Type 0} (test other : X → Bool) → ((x : X) → other x ≡ test x) → (xs : List X) (first : X) (rest : List X) → filter other xs ≡ first ∷ rest → find test xs ≡ Some first
find-first test other same [] first rest e = let never : [] ≡ first ∷ rest = e in absurd cc
find-first {X} test other same (x ∷ xs) first rest e = at (test x) (sym (ap (λ b. cond b (x ∷ filter other xs) (filter other xs)) (same x)) ∙ e) (find-first test other same xs first rest)
  where
    at : (b : Bool) → cond b (x ∷ filter other xs) (filter other xs) ≡ first ∷ rest → (filter other xs ≡ first ∷ rest → find test xs ≡ Some first) → cond b (Some x) (find test xs) ≡ Some first
    at true e more = cc
    at false e more = more e

pub find-none : {X : Type 0} (test other : X → Bool) → ((x : X) → other x ≡ test x) → (xs : List X) → filter other xs ≡ [] → find test xs ≡ None
find-none test other same [] e = refl
find-none {X} test other same (x ∷ xs) e = at (test x) (sym (ap (λ b. cond b (x ∷ filter other xs) (filter other xs)) (same x)) ∙ e) (find-none test other same xs)
  where
    at : (b : Bool) → cond b (x ∷ filter other xs) (filter other xs) ≡ [] → (filter other xs ≡ [] → find test xs ≡ None) → cond b (Some x) (find test xs) ≡ None
    at true e more = let never : x ∷ filter other xs ≡ [] = e in absurd cc
    at false e more = more e

pub and_true : (b : Bool) → (b && true) ≡ b
and_true true = refl
and_true false = refl
