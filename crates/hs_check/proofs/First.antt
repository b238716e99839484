-- The first of some clauses that fails, where these are asked one after another.
use Rattle.std.proofs.Common.{◌≡◌, ℕ, Bool, true, false, not, cond, List, [], ◌∷◌, ◌++◌, Option, Some, None, refl, ap}
use Rattle.hs_check.proofs.Prelude.{option_map, AllByRecursion, Played, first_among}
use Rattle.std.specs.Prelude.{find}
use Rattle.hs_law_journal.specs.Lawful.{Clause}

-- the number of the clause that was found
abbrev number_in : Option Clause → Option ℕ
number_in found = option_map (λ (clause : Clause). clause.number) found

module _ (p : Played) where
  abbrev fails : Clause → Bool
  fails clause = not (clause.holds p)

  pub holds_next : (clause : Clause) (more : List Clause) → clause.holds p ≡ true → first_among (clause ∷ more) p ≡ first_among more p
  holds_next clause more holds = ap (λ (b : Bool). number_in (cond (not b) (Some clause) (find fails more))) holds

  pub fails_here : (clause : Clause) (more : List Clause) → clause.holds p ≡ false → first_among (clause ∷ more) p ≡ Some clause.number
  fails_here clause more fails_so = ap (λ (b : Bool). number_in (cond (not b) (Some clause) (find fails more))) fails_so

  -- where one of the first fails, it is the first of all
  pub front_fails : (first more : List Clause) (n : ℕ) → first_among first p ≡ Some n → first_among (first ++ more) p ≡ Some n
  front_fails [] more n is = let never : None ≡ Some n = is in absurd cc
  front_fails (clause ∷ first) more n is = at (clause.holds p) (front_fails first more n) is
    where
      at : (b : Bool) → (first_among first p ≡ Some n → first_among (first ++ more) p ≡ Some n) → number_in (cond (not b) (Some clause) (find fails first)) ≡ Some n
          → number_in (cond (not b) (Some clause) (find fails (first ++ more))) ≡ Some n
      at true rest is = rest is
      at false rest is = is

  -- where none of them fails, it is the first of the rest
  pub front_holds : (first more : List Clause) → first_among first p ≡ None → first_among (first ++ more) p ≡ first_among more p
  front_holds [] more is = refl
  front_holds (clause ∷ first) more is = at (clause.holds p) (front_holds first more) is
    where
      at : (b : Bool) → (first_among first p ≡ None → first_among (first ++ more) p ≡ first_among more p) → number_in (cond (not b) (Some clause) (find fails first)) ≡ None
          → number_in (cond (not b) (Some clause) (find fails (first ++ more))) ≡ first_among more p
      at true rest is = rest is
      at false rest is = let never : Some clause.number ≡ None = is in absurd cc

  -- all of these hold
  abbrev pub AllHold : List Clause → Type 0
  AllHold these = AllByRecursion (λ (clause : Clause). clause.holds p ≡ true) these

  pub none_fails : (these : List Clause) → first_among these p ≡ None → AllHold these
  none_fails [] is = tt
  none_fails (clause ∷ these) is = at (clause.holds p) (none_fails these) refl is
    where
      at : (b : Bool) → (first_among these p ≡ None → AllHold these) → clause.holds p ≡ b → number_in (cond (not b) (Some clause) (find fails these)) ≡ None → AllHold (clause ∷ these)
      at true rest holds is = (holds, rest is)
      at false rest fails_so is = let never : Some clause.number ≡ None = is in absurd cc
