-- The end of a list, rotated in place.
use Rattle.std.proofs.Common.{◌≡◌, ℕ, ◌+◌, ◌-◌, ◌≤◌, List, [], ◌++◌, map, take, drop, length, sym, ap, ◌∙◌, arith, length-append, length-drop, length-take}
use Rattle.hs_collect.proofs.Prelude.{append-nil, append_assoc, take-append-le, map-append, take-map, drop-map}
use Rattle.std.proofs.lemmas.List.{take_all, take_rest, drop_all, drop-drop}
use borrow.Rule.Slice.PartMut.{put_mid, mid_of}

rotated_part : {A : Type 0} (items part : List A) (place middle : ℕ) → place ≤ middle
    → part ≡ drop (middle - place) (mid_of place (length items - place) items) ++ take (middle - place) (mid_of place (length items - place) items)
    → put_mid place (length items - place) items part ≡ take place items ++ drop middle items ++ take (middle - place) (drop place items)
rotated_part items part place middle le is =
    let whole : mid_of place (length items - place) items ≡ drop place items = take_rest items place in
    let none : drop (length items - place) (drop place items) ≡ [] = drop_all (length items - place) (drop place items) (omega (arith, length-drop place items)) in
    let here : place + (middle - place) ≡ middle = omega arith in
    ap (λ rest. take place items ++ (part ++ rest)) none
    ∙ ap (λ rest. take place items ++ rest)
    (append-nil part ∙ is ∙ ap (λ mid. drop (middle - place) mid ++ take (middle - place) mid) whole
    ∙ ap (λ front. front ++ take (middle - place) (drop place items)) (drop-drop (middle - place) place items ∙ ap (λ n. drop n items) here))
    ∙ sym (append_assoc (take place items) (drop middle items) (take (middle - place) (drop place items)))

length-rotated : {A : Type 0} (items : List A) (place middle : ℕ) → place ≤ middle → middle ≤ length items → length (take place items ++ drop middle items ++ take (middle - place) (drop place items)) ≡ length items
length-rotated items place middle le within =
    simp (length-append, length-take, length-drop) (omega arith)

-- the list that lent its items for the rotation, as records
pub rotated : {A B : Type 0} (f : A → B) (items lent part : List A) (place middle : ℕ) → lent ≡ items → place ≤ middle → middle ≤ length items
    → part ≡ drop (middle - place) (mid_of place (length lent - place) lent) ++ take (middle - place) (mid_of place (length lent - place) lent)
    → map f (take (length items) (put_mid place (length lent - place) lent part ++ drop (length (put_mid place (length lent - place) lent part)) items))
    ≡ take place (map f items) ++ drop middle (map f items) ++ take (middle - place) (drop place (map f items))
rotated f items lent part place middle same le within is =
    let turned = take place items ++ drop middle items ++ take (middle - place) (drop place items) in
    let now : put_mid place (length lent - place) lent part ≡ turned =
    ap (λ l. put_mid place (length l - place) l part) same
    ∙ rotated_part items part place middle le (is ∙ ap (λ l. drop (middle - place) (mid_of place (length l - place) l) ++ take (middle - place) (mid_of place (length l - place) l)) same) in
    let long : length turned ≡ length items = length-rotated items place middle le within in
    ap (λ l. map f (take (length items) (l ++ drop (length l) items))) now
    ∙ ap (map f) (take-append-le (length items) turned (drop (length turned) items) (omega (arith, long)) ∙ take_all (length items) turned (omega (arith, long)))
    ∙ map-append f (take place items ++ drop middle items) (take (middle - place) (drop place items))
    ∙ ap (λ l. l ++ map f (take (middle - place) (drop place items))) (map-append f (take place items) (drop middle items))
    ∙ ap (λ l. l ++ map f (drop middle items) ++ map f (take (middle - place) (drop place items))) (sym (take-map f place items))
    ∙ ap (λ l. take place (map f items) ++ l ++ map f (take (middle - place) (drop place items))) (sym (drop-map f middle items))
    ∙ ap (λ l. take place (map f items) ++ drop middle (map f items) ++ l) (sym (take-map f (middle - place) (drop place items)) ∙ ap (take (middle - place)) (sym (drop-map f place items)))
