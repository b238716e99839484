-- A loop that appends for each element what a function of lists gives of it.
use Rattle.std.proofs.Common.{◌≡◌, ◌+◌, ◌<◌, ◌≤◌, ℕ, List, [], ◌∷◌, ◌++◌, length, get_or, take, sym, ap, ◌∙◌, append_assoc}
use Rattle.std.proofs.lemmas.List.{take_more, take_all}

-- the function of two lists behind each other is what it gives of both
abbrev pub Joins : {X Y : Type 0} → (List X → List Y) → Type 0
Joins {X} {Y} F = (xs ys : List X) → F (xs ++ ys) ≡ F xs ++ F ys

pub loop_more : {X Y : Type 0} (F : List X → List Y) → Joins F → (xs : List X) (i : ℕ) (x : X) (before now next : List Y) → i < length xs → x ≡ get_or xs i x → now ≡ before ++ F (take i xs)
    → next ≡ now ++ F (x ∷ []) → next ≡ before ++ F (take (i + 1) xs)
loop_more F joins xs i x before now next lt is so more =
    more ∙ ap (λ t. t ++ F (x ∷ [])) so ∙ append_assoc before (F (take i xs)) (F (x ∷ []))
    ∙ ap (λ t. before ++ t) (sym (joins (take i xs) (x ∷ [])) ∙ ap (λ y. F (take i xs ++ y ∷ [])) is ∙ ap F (sym (take_more xs i x lt)))

-- the same where the element is read by its place
pub loop_more_at : {X Y : Type 0} (F : List X → List Y) → Joins F → (xs : List X) (i : ℕ) (d : X) (before now next : List Y) → i < length xs → now ≡ before ++ F (take i xs)
    → next ≡ now ++ F (get_or xs i d ∷ []) → next ≡ before ++ F (take (i + 1) xs)
loop_more_at F joins xs i d before now next lt so more =
    more ∙ ap (λ t. t ++ F (get_or xs i d ∷ [])) so ∙ append_assoc before (F (take i xs)) (F (get_or xs i d ∷ []))
    ∙ ap (λ t. before ++ t) (sym (joins (take i xs) (get_or xs i d ∷ [])) ∙ ap F (sym (take_more xs i d lt)))

pub loop_all : {X Y : Type 0} (F : List X → List Y) (xs : List X) (i : ℕ) (before now : List Y) → length xs ≤ i → now ≡ before ++ F (take i xs) → now ≡ before ++ F xs
loop_all F xs i before now le so = so ∙ ap (λ t. before ++ F t) (take_all i xs le)
