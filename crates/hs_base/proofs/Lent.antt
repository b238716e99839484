-- Lists of which an item or the whole was lent and written.
use Rattle.std.proofs.Common.{◌≡◌, ℕ, ◌<◌, List, ◌++◌, take, length, set, drop, sym, length-set, ap, ◌∙◌, Some, get_or, slice_get}
use Rattle.std.proofs.Math.Seq.{take-append_seam}
use Rattle.std.proofs.lemmas.List.{take_at}
use Rattle.std.proofs.lemmas.Option.{slice_get-get_or}

-- the list behind the loan, as the loan says it
abbrev pub lent : {A : Type 0} → List A → List A → ℕ → A → List A
lent items now place item = take (length items) (set now place item ++ drop (length (set now place item)) items)

pub lent_is : {A : Type 0} (items now : List A) (place : ℕ) (item : A) → now ≡ items → lent items now place item ≡ set items place item
lent_is {A = A} items now place item same =
    let zs = set now place item in
    let count : length items ≡ length zs = sym (length-set now place item ∙ ap length same) in
    ap (λ n. take n (zs ++ drop (length zs) items)) count ∙ take-append_seam zs (drop (length zs) items) ∙ ap (λ (l : List A). set l place item) same

-- a whole list that was lent
abbrev pub lent_whole : {A : Type 0} → List A → List A → List A
lent_whole items new = take (length items) (new ++ drop (length new) items)

pub lent_whole_is : {A : Type 0} (items new : List A) → length new ≡ length items → lent_whole items new ≡ new
lent_whole_is items new count = ap (λ n. take n (new ++ drop (length new) items)) (sym count) ∙ take-append_seam new (drop (length new) items)

-- the item that was lent
pub lent_from : {A : Type 0} (items now : List A) (place : ℕ) (default : A) → now ≡ items → place < length items → slice_get items place ≡ Some (get_or now place default)
lent_from {A = A} items now place default same within = slice_get-get_or items place default within ∙ ap (λ (l : List A). Some (get_or l place default)) (sym same)

-- the item at an index
pub indexed : {A : Type 0} (items now : List A) (place : ℕ) (x : A) → now ≡ items → place < length items → x ≡ get_or now place x → slice_get items place ≡ Some x
indexed items now place x same within e = slice_get-get_or items place x within ∙ ap (λ (l : List _). Some (get_or l place x)) (sym same) ∙ ap (λ y. Some y) (sym e)

-- a slice that was lent out and written at a place, as its owner has it back
pub written_back : {X : Type 0} (old lent : List X) (i : ℕ) (v : X) → lent ≡ old → take (length old) (set lent i v ++ drop (length (set lent i v)) old) ≡ set old i v
written_back old lent i v is =
    take_at (set lent i v) (drop (length (set lent i v)) old) (length old) (length-set lent i v ∙ ap length is)
    ∙ ap (λ xs. set xs i v) is
