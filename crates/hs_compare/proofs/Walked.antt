-- Happenings that are taken in turn.
use Rattle.std.proofs.Common.{◌≡◌, ℕ, suc, ◌+◌, ◌<◌, ◌≤◌, cond, ◌==◌, Bool, true, false, List, [], ◌∷◌, ◌++◌, length, get_or, drop, filter, refl, sym, ap, ◌∙◌, subst, arith, append_assoc, ⊎_elim}
use Rattle.hs_compare.proofs.Prelude.{flat_map, range_with_len, drop-cons, eqb-true, eqb-false, ne_eqb, cases_lt, append-nil, length_push, flat_map-append, range_append, NumberedEvent, Script, AreInTurn, AreLeft, IsScript, events_in, events_of, both_of, events_from, run_of, rest_of}
use Rattle.std.proofs.Math.Seq.{get_or-append_seam}
use Rattle.std.proofs.Math.ListN.{drop_of_length-le}
use Rattle.std.proofs.lemmas.List.{get_or_append_left}

-- what is of a later operation than n is not of n
none_at : (n from : ℕ) (hs : List NumberedEvent) → AreInTurn from hs → n < from → events_of hs n ≡ []
none_at n from [] turn less = refl
none_at n from (h ∷ hs) turn less =
    let apart : (h.number == n) ≡ false = ne_eqb h.number n (λ same. omega (arith, same, turn.0, less)) in
    ap (λ b. events_in (cond b (h ∷ filter (λ (h : NumberedEvent). h.number == n) hs) (filter (λ (h : NumberedEvent). h.number == n) hs))) apart ∙ none_at n h.number hs turn.1 (omega (arith, turn.0, less))

-- what stands first of an operation is all of it
pub run_is : (n : ℕ) (hs : List NumberedEvent) → AreInTurn n hs → events_in (run_of n hs) ≡ events_of hs n
run_is n [] turn = refl
run_is n (h ∷ hs) turn = by (h.number == n) refl (λ same. run_is n hs (subst (λ k. AreInTurn k hs) same turn.1))
  where
    by : (b : Bool) → (h.number == n) ≡ b → (h.number ≡ n → events_in (run_of n hs) ≡ events_of hs n)
        → events_in (cond b (h ∷ run_of n hs) []) ≡ events_in (cond b (h ∷ filter (λ (h : NumberedEvent). h.number == n) hs) (filter (λ (h : NumberedEvent). h.number == n) hs))
    by true e rest = ap (λ es. h.event ∷ es) (rest (eqb-true h.number n e))
    by false e rest = let other = eqb-false h.number n e in sym (none_at n h.number hs turn.1 (omega (arith, turn.0, other)))

from_higher : (a b : ℕ) (hs : List NumberedEvent) → AreInTurn b hs → a ≤ b → AreInTurn a hs
from_higher a b [] turn le = tt
from_higher a b (h ∷ hs) turn le = (omega (arith, turn.0, le), turn.1)

rest_turn : (n : ℕ) (hs : List NumberedEvent) → AreInTurn n hs → AreInTurn (n + 1) (rest_of n hs)
rest_turn n [] turn = tt
rest_turn n (h ∷ hs) turn = by (h.number == n) refl (λ same. rest_turn n hs (subst (λ k. AreInTurn k hs) same turn.1))
  where
    by : (b : Bool) → (h.number == n) ≡ b → (h.number ≡ n → AreInTurn (n + 1) (rest_of n hs)) → AreInTurn (n + 1) (cond b (rest_of n hs) (h ∷ hs))
    by true e rest = rest (eqb-true h.number n e)
    by false e rest = let other = eqb-false h.number n e in (omega (arith, turn.0, other), turn.1)

rest_same : (n m : ℕ) (hs : List NumberedEvent) → n < m → events_of (rest_of n hs) m ≡ events_of hs m
rest_same n m [] less = refl
rest_same n m (h ∷ hs) less = by (h.number == n) refl (rest_same n m hs less)
  where
    by : (b : Bool) → (h.number == n) ≡ b → events_of (rest_of n hs) m ≡ events_of hs m → events_of (cond b (rest_of n hs) (h ∷ hs)) m ≡ events_of (h ∷ hs) m
    by true e rest =
        let same = eqb-true h.number n e in
        let apart : (h.number == m) ≡ false = ne_eqb h.number m (λ other. omega (arith, same, other, less)) in
        rest ∙ sym (ap (λ b. events_in (cond b (h ∷ filter (λ (h : NumberedEvent). h.number == m) hs) (filter (λ (h : NumberedEvent). h.number == m) hs))) apart)
    by false e rest = refl

pub left_all : (hs : List NumberedEvent) → AreInTurn 0 hs → AreLeft hs hs 0
left_all hs turn = record { turn = turn; same = λ m le. refl }

pub left_next : (all left next : List NumberedEvent) (n : ℕ) → AreLeft all left n → next ≡ rest_of n left → AreLeft all next (n + 1)
left_next all left next n are is =
    record {
      turn = subst (AreInTurn (n + 1)) (sym is) (rest_turn n left are.turn);
      same = λ m le. ap (λ hs. events_of hs m) is ∙ rest_same n m left (omega arith) ∙ are.same m (omega arith);
    }

pub run_left : (all left : List NumberedEvent) (n : ℕ) → AreLeft all left n → events_in (run_of n left) ≡ events_of all n
run_left all left n are = run_is n left are.turn ∙ are.same n (omega arith)

-- ---- one happening taken

-- the happening at a place is of the operation
pub run_step : (hs : List NumberedEvent) (next n : ℕ) (d : NumberedEvent) → next < length hs → ((get_or hs next d).number == n) ≡ true
    → (events_in (run_of n (drop next hs)) ≡ (get_or hs next d).event ∷ events_in (run_of n (drop (next + 1) hs))) × (rest_of n (drop next hs) ≡ rest_of n (drop (next + 1) hs))
run_step hs next n d within is =
    let here : drop next hs ≡ get_or hs next d ∷ drop (next + 1) hs = drop-cons hs next d within ∙ ap (λ k. get_or hs next d ∷ drop k hs) (let e : suc next ≡ next + 1 = omega arith in e) in (
      ap (λ xs. events_in (run_of n xs)) here ∙ ap (λ b. events_in (cond b (get_or hs next d ∷ run_of n (drop (next + 1) hs)) [])) is,
      ap (rest_of n) here ∙ ap (λ b. cond b (rest_of n (drop (next + 1) hs)) (get_or hs next d ∷ drop (next + 1) hs)) is,
    )

-- it is of another operation
pub run_stops : (hs : List NumberedEvent) (next n : ℕ) (d : NumberedEvent) → next < length hs → ((get_or hs next d).number == n) ≡ false
    → (events_in (run_of n (drop next hs)) ≡ []) × (rest_of n (drop next hs) ≡ drop next hs)
run_stops hs next n d within is =
    let here : drop next hs ≡ get_or hs next d ∷ drop (next + 1) hs = drop-cons hs next d within ∙ ap (λ k. get_or hs next d ∷ drop k hs) (let e : suc next ≡ next + 1 = omega arith in e) in (
      ap (λ xs. events_in (run_of n xs)) here ∙ ap (λ b. events_in (cond b (get_or hs next d ∷ run_of n (drop (next + 1) hs)) [])) is,
      ap (rest_of n) here ∙ ap (λ b. cond b (rest_of n (drop (next + 1) hs)) (get_or hs next d ∷ drop (next + 1) hs)) is ∙ sym here,
    )

-- there is none
pub run_ends : (hs : List NumberedEvent) (next n : ℕ) → length hs ≤ next → (events_in (run_of n (drop next hs)) ≡ []) × (rest_of n (drop next hs) ≡ drop next hs)
run_ends hs next n past = let none : drop next hs ≡ [] = past_end hs next past in (ap (λ xs. events_in (run_of n xs)) none, ap (rest_of n) none ∙ sym none)
  where
    past_end : (xs : List NumberedEvent) (k : ℕ) → length xs ≤ k → drop k xs ≡ []
    past_end xs k h = drop_of_length-le xs h

-- ---- one operation more

pub events-append : (points names : List NumberedEvent) (a m n : ℕ) → events_from points names a (m + n) ≡ events_from points names a m ++ events_from points names (a + m) n
events-append points names a m n = ap (flat_map (both_of points names)) (range_append a m n) ∙ flat_map-append (both_of points names) (range_with_len a m) (range_with_len (a + m) n)

pub events_more : (points names : List NumberedEvent) (n : ℕ) → events_from points names 0 (n + 1) ≡ events_from points names 0 n ++ both_of points names n
events_more points names n =
    events-append points names 0 n 1 ∙ ap (λ k. events_from points names 0 n ++ events_from points names k 1) (let e : 0 + n ≡ n = omega arith in e)
    ∙ ap (λ es. events_from points names 0 n ++ es) (append-nil (both_of points names n))

pub script_next : (points names : List NumberedEvent) (n : ℕ) (script next : Script) → IsScript points names n script → next.events.items ≡ (script.events.items ++ events_of points n) ++ events_of names n
    → next.ends.items ≡ script.ends.items ++ length next.events.items ∷ [] → IsScript points names (n + 1) next
script_next points names n script next is more ends =
    let events : next.events.items ≡ events_from points names 0 (n + 1) =
    more ∙ append_assoc script.events.items (events_of points n) (events_of names n) ∙ ap (λ es. es ++ both_of points names n) is.events ∙ sym (events_more points names n) in
    record {
      events = events;
      ends = λ m low.
          ⊎_elim
          (λ (old : m < n + 1).
          let within : m < length script.ends.items = omega (arith, is.count) in
          ap (λ xs. get_or xs m 0) ends ∙ get_or_append_left script.ends.items (length next.events.items ∷ []) 0 m within ∙ is.ends m (omega arith))
          (λ (new : n + 1 ≤ m).
          let at : m ≡ length script.ends.items = omega (arith, is.count) in
          let same : n + 1 ≡ m = omega arith in
          ap (λ xs. get_or xs m 0) ends ∙ ap (λ k. get_or (script.ends.items ++ length next.events.items ∷ []) k 0) at
          ∙ get_or-append_seam script.ends.items (length next.events.items) [] 0
          ∙ ap length events ∙ ap (λ k. length (events_from points names 0 k)) same)
          (cases_lt m (n + 1));
      count = omega (arith, ap length ends, length_push script.ends.items (length next.events.items), is.count);
    }
