-- The ids of reported records, one entry after another.
use Rattle.std.proofs.Common.{◌≡◌, ℕ, ◌+◌, ◌<◌, Bool, ◌&&◌, ◌||◌, true, false, List, [], ◌∷◌, ◌++◌, length, get_or, take, cond, sym, ap, ◌∙◌, refl}
use Rattle.hs_report.proofs.Prelude.{list_any, take_more, RecordId, is_same, Entry, is_reported, was_reported}
use Rattle.std.proofs.Math.Bool.{or-false}

or_assoc : (a b c : Bool) → (a || (b || c)) ≡ ((a || b) || c)
or_assoc true b c = refl
or_assoc false b c = refl

any_append : (test : Entry → Bool) (xs ys : List Entry) → list_any test (xs ++ ys) ≡ (list_any test xs || list_any test ys)
any_append test [] ys = refl
any_append test (x ∷ xs) ys = ap (λ t. test x || t) (any_append test xs ys) ∙ or_assoc (test x) (list_any test xs) (list_any test ys)

pub was_more : (entries : List Entry) (i : ℕ) (d : Entry) (id : RecordId) → i < length entries
    → was_reported (take (i + 1) entries) id ≡ (was_reported (take i entries) id || (is_same (get_or entries i d).id id && is_reported (get_or entries i d).fate))
was_more entries i d id lt =
    let test : Entry → Bool = λ entry. is_same entry.id id && is_reported entry.fate in
    ap (list_any test) (take_more entries i d lt) ∙ any_append test (take i entries) (get_or entries i d ∷ []) ∙ ap (λ t. list_any test (take i entries) || t) (or-false (test (get_or entries i d)))

-- an id that is put, and one that is not
pub put_one : (same old was reported : Bool) → old ≡ was → reported ≡ true → cond same true old ≡ (was || (same && reported))
put_one true old true reported is sure = refl
put_one true old false reported is sure = sym sure
put_one false old true reported is sure = is
put_one false old false reported is sure = is

pub left_out : (was same reported : Bool) → reported ≡ false → was ≡ (was || (same && reported))
left_out true same reported lost = refl
left_out false true reported lost = sym lost
left_out false false reported lost = refl
