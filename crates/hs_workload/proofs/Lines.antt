-- Lines that end with a number and a reason.
use Rattle.std.proofs.Common.{◌≡◌, ◌++◌, ℕ, List, [], ◌∷◌, sym, ◌∙◌, append_assoc}
use Rattle.std.proofs.lemmas.List.{append-nil}

-- the line's end, taken apart and put together
pub regrouped : (number reason : List ℕ) → number ++ 32 ∷ (reason ++ 10 ∷ []) ≡ ((number ++ 32 ∷ reason) ++ 10 ∷ []) ++ []
regrouped number reason = sym (append-nil _ ∙ append_assoc number (32 ∷ reason) (10 ∷ []))
