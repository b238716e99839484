-- What stands last.
use Rattle.std.proofs.Common.{◌≡◌, ℕ, ◌+◌, ◌<◌, List, [], ◌∷◌, ◌++◌, sym, subst, arith}
use Rattle.std.specs.Prelude.{Result, Ok, Err, OnOk, OnErr}
use Rattle.hs_base.specs.declared.ids.Memory.{Memory}
use Rattle.hs_board.specs.declared.progress.Progress.{Progress}
use Rattle.hs_board.specs.Shown.{IsLast}
use Rattle.tests_threads.specs.Shown.{EndsBelow}

same_last : (xs ys : List Progress) (x y : Progress) → xs ++ x ∷ [] ≡ ys ++ y ∷ [] → x ≡ y
same_last [] [] x y e = let h : x ∷ [] ≡ y ∷ [] = e in cc
same_last [] (b ∷ []) x y e = let h : x ∷ [] ≡ b ∷ y ∷ [] = e in absurd cc
same_last [] (b ∷ c ∷ ys) x y e = let h : x ∷ [] ≡ b ∷ c ∷ (ys ++ y ∷ []) = e in absurd cc
same_last (a ∷ []) [] x y e = let h : a ∷ x ∷ [] ≡ y ∷ [] = e in absurd cc
same_last (a ∷ c ∷ xs) [] x y e = let h : a ∷ c ∷ (xs ++ x ∷ []) ≡ y ∷ [] = e in absurd cc
same_last (a ∷ xs) (b ∷ ys) x y e =
    let h : a ∷ (xs ++ x ∷ []) ≡ b ∷ (ys ++ y ∷ []) = e in
    let tails : xs ++ x ∷ [] ≡ ys ++ y ∷ [] = cc in
    same_last xs ys x y tails

-- What ends with this ends below any number that is above its rounds.
pub one_more : (all : List Progress) (x : Progress) (most : ℕ) → x.rounds < most → EndsBelow (all ++ x ∷ []) most
one_more all x most low last (before, e) = subst (λ (p : Progress). p.rounds < most) (same_last all before x last e) low

-- Whether it was published or not, what is shown ends below the next number.
pub goes_on : (result : Result Unit Memory) (old new : List Progress) (x : Progress) (n : ℕ) → OnOk result (new ≡ old ++ x ∷ []) → OnErr result (new ≡ old) → x.rounds ≡ n
    → EndsBelow old n → EndsBelow new (n + 1)
goes_on (Ok done) old new x n ok err is below =
    subst (λ (l : List Progress). EndsBelow l (n + 1)) (sym ok) (one_more old x (n + 1) (omega (arith, is)))
goes_on (Err none) old new x n ok err is below = λ last at.
    let low : last.rounds < n = below last (subst (λ (l : List Progress). IsLast last l) err at) in omega (arith, low)
