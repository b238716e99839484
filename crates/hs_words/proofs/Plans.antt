-- What the sizes of a plan come to.
use Rattle.std.proofs.Common.{◌≡◌, ℕ, ◌+◌, List, [], ◌∷◌, refl, arith}
use Rattle.std.specs.Prelude.{sum}
use Rattle.std.proofs.lemmas.List.Recursion.{is_sum_by}
use Rattle.hs_words.specs.Plans.{first_of, rest_of, total}

pub total_parts : (l : List ℕ) → total (rest_of l) + first_of l ≡ total l
total_parts [] = refl
total_parts (x ∷ xs) = omega arith

pub total_is_sum : (l : List ℕ) → total l ≡ sum l
total_is_sum l = is_sum_by total (λ x. x) refl (λ x xs. refl) l
