-- Chunks that are moved one after another: behind others, or to where there were none.
use Rattle.std.proofs.Common.{◌≡◌, ℕ, ◌+◌, ◌≤◌, ◌<◌, List, [], ◌∷◌, ◌++◌, length, map, sym, ap, ap₂, ◌∙◌, arith}
use Rattle.std.proofs.lemmas.List.{append_assoc, length-append, length-map, map-append}

-- One more was moved behind others.
pub joined_more : {A B : Type 0} (f : A → B) (old : List B) (xs xs' yielded : List A) (x : A) → xs' ≡ xs ++ x ∷ [] → map f xs ≡ old ++ map f yielded → map f xs' ≡ old ++ map f (yielded ++ x ∷ [])
joined_more f old xs xs' yielded x pushed is =
    ap (map f) pushed ∙ map-append f xs (x ∷ []) ∙ ap (λ l. l ++ f x ∷ []) is ∙ append_assoc old (map f yielded) (f x ∷ []) ∙ ap (λ l. old ++ l) (sym (map-append f yielded (x ∷ [])))

-- There is room for it.
pub joined_room : {A B : Type 0} (f : A → B) (xs old yielded all : List A) (chunks : List B) (room : ℕ) → map f all ≡ chunks → length yielded < length all → map f xs ≡ map f old ++ map f yielded
    → length old + length chunks ≤ room → length xs < room
joined_room f xs old yielded all chunks room seen left is fits =
    omega (arith, ap length seen, ap length is, length-append (map f old) (map f yielded), length-map xs f, length-map old f, length-map yielded f, length-map all f, left, fits)

-- One more went.
pub gone_more : {A B C D : Type 0} (h : A → C) (k : B → C) (f : D → B) (xs xs' : List A) (x : A) (yielded : List D) (y : D) → xs' ≡ xs ++ x ∷ [] → h x ≡ k (f y) → map h xs ≡ map k (map f yielded)
    → map h xs' ≡ map k (map f (yielded ++ y ∷ []))
gone_more h k f xs xs' x yielded y pushed same is =
    ap (map h) pushed ∙ map-append h xs (x ∷ []) ∙ ap₂ (λ l z. l ++ z ∷ []) is same ∙ sym (ap (map k) (map-append f yielded (y ∷ [])) ∙ map-append k (map f yielded) (f y ∷ []))

-- There is room for it.
pub gone_room : {A B C D : Type 0} (h : A → C) (k : B → C) (f : D → B) (xs : List A) (yielded all : List D) (chunks : List B) (room : ℕ) → map f all ≡ chunks → length yielded < length all
    → map h xs ≡ map k (map f yielded) → length chunks ≤ room → length xs < room
gone_room h k f xs yielded all chunks room seen left is fits =
    omega (arith, ap length seen, ap length is, length-map xs h, length-map (map f yielded) k, length-map yielded f, length-map all f, left, fits)
