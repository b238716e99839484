-- Turns that come later take back nothing of what meetings told, and meetings answer no draw.
use Rattle.std.proofs.Common.{◌≡◌, ℕ, Bool, true, false, ◌||◌, List, [], ◌∷◌, ◌++◌, refl, ap, ◌∙◌, append_assoc, map, reverse}
use Rattle.hs_base.proofs.Parts.{reverse_cons}
use Rattle.std.specs.List.{list_any}
use Rattle.std.proofs.lemmas.List.Folds.{list_any-append}
use Rattle.hs_words.specs.Ends.{GiverTurn, answered, unread, met, answers_in, told_in}

pub any_behind : {X : Type 0} (q : X → Bool) (xs ys : List X) → list_any q ys ≡ true → list_any q (xs ++ ys) ≡ true
any_behind q xs ys h = list_any-append q xs ys ∙ or_right (list_any q xs) (list_any q ys) h
  where
    or_right : (a b : Bool) → b ≡ true → (a || b) ≡ true
    or_right true b h = refl
    or_right false b h = h

pub told_more : (q : ℕ → Bool) (later earlier : List GiverTurn) → list_any q (told_in earlier) ≡ true → list_any q (told_in (later ++ earlier)) ≡ true
told_more q [] earlier h = h
told_more q (answered a ∷ later) earlier h = told_more q later earlier h
told_more q (unread ∷ later) earlier h = told_more q later earlier h
told_more q (met stamps ∷ later) earlier h = any_behind q stamps (told_in (later ++ earlier)) (told_more q later earlier h)

pub answers_behind : {X : Type 0} (told : X → List ℕ) (callers : List X) (turns : List GiverTurn) → answers_in (reverse (map (λ caller. met (told caller)) callers) ++ turns) ≡ answers_in turns
answers_behind told [] turns = refl
answers_behind told (caller ∷ callers) turns =
    ap (λ front. answers_in (front ++ turns)) (reverse_cons (met (told caller)) (map (λ caller. met (told caller)) callers))
    ∙ ap answers_in (append_assoc (reverse (map (λ caller. met (told caller)) callers)) (met (told caller) ∷ []) turns) ∙ answers_behind told callers (met (told caller) ∷ turns)
