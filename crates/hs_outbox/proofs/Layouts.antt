-- An outbox in memory and the queue that it holds.
use Rattle.std.proofs.Common.{◌≡◌, ℕ, zero, suc, ◌<◌, ◌≤◌, ◌^◌, true, List, [], ◌∷◌, ◌++◌, length, Option, slice_get, get_or, refl, sym, ap, subst, ◌∙◌, arith}
use Rattle.std.specs.List.{list_any, remove}
use Rattle.std.proofs.lemmas.Bool.{cond-true, and_from, le-leb, lt-ltb}
use Rattle.hs_base.proofs.Parts.{length_map}
use Rattle.hs_outbox.specs.Slots.{Written}
use Rattle.hs_outbox.specs.Queue.{Pending, Queue, Puts, after, with, may_put, is_numbered, has_number}
use Rattle.hs_outbox.specs.Lives.{Rises}
use Rattle.hs_outbox.specs.Layout.{entry_of, waiting_in, slots_of, place_of, AreRising, HaveRoom}
use Rattle.hs_outbox.specs.declared.outbox.OutboxEntry.{OutboxEntry}
use Rattle.hs_outbox.proofs.Rising.{rises_to}
use Rattle.hs_outbox.proofs.Places.{waits_is}

pub same_queue : (a b : Queue) → a.pending ≡ b.pending → a.handed ≡ b.handed → a.fresh ≡ b.fresh → a.places ≡ b.places → a.room ≡ b.room → a ≡ b
same_queue a b pending handed fresh places room = λ k. record { pending = pending k; handed = handed k; fresh = fresh k; places = places k; room = room k }

-- entries that were lent as a slice rise as they do in their list
pub rising_seen : (seen es : List OutboxEntry) (fresh : ℕ) → seen ≡ es → fresh ≤ 2 ^ 64 → Rises 0 fresh (waiting_in es) → AreRising (waiting_in seen)
rising_seen seen es fresh same le rise =
    subst (λ (xs : List OutboxEntry). AreRising (waiting_in xs)) (sym same) (rises_to (waiting_in es) 0 fresh (2 ^ 64) le rise)

-- what stands at the place of a number
pub seen_at : (seen again es : List OutboxEntry) (place n : ℕ) → seen ≡ es → again ≡ es → place ≡ place_of n (waiting_in seen)
    → slice_get (waiting_in again) place ≡ slice_get (waiting_in es) (place_of n (waiting_in es))
seen_at seen again es place n same also is =
    let at : place ≡ place_of n (waiting_in es) = is ∙ ap (λ (xs : List OutboxEntry). place_of n (waiting_in xs)) same in
    λ k. slice_get (waiting_in (also k)) (at k)

-- whether a message of a number waits, by what stands at its place
pub waits_seen : (seen again es : List OutboxEntry) (place m n fresh : ℕ) → seen ≡ es → again ≡ es → place ≡ place_of m (waiting_in seen) → m ≡ n → Rises 0 fresh (waiting_in es)
    → has_number (slice_get (waiting_in again) place) n ≡ list_any (is_numbered n) (waiting_in es)
waits_seen seen again es place m n fresh same also is number rise =
    let at = seen_at seen again es place n same also (is ∙ ap (λ k. place_of k (waiting_in seen)) number) in
    ap (λ (o : Option Pending). has_number o n) at ∙ waits_is n (waiting_in es) 0 fresh rise

-- a place where a number stands is within
pub within_by : (ps : List Pending) (i n : ℕ) → has_number (slice_get ps i) n ≡ true → i < length ps
within_by [] i n there = absurd cc
within_by (p ∷ ps) zero n there = omega arith
within_by (p ∷ ps) (suc i) n there = let rest = within_by ps i n there in omega arith

-- ---- slots

pub room_push : (room : ℕ) (slots : List Written) (slot : Written) → HaveRoom room slots → slot.room ≡ room → HaveRoom room (slots ++ slot ∷ [])
room_push room [] slot all one = (one, tt)
room_push room (s ∷ slots) slot all one = (all.0, room_push room slots slot all.1 one)

pub room_front : (room : ℕ) (slots more : List Written) → HaveRoom room (slots ++ more) → HaveRoom room slots
room_front room [] more all = tt
room_front room (s ∷ slots) more all = (all.0, room_front room slots more all.1)

pub room_last : (room : ℕ) (slots : List Written) (slot : Written) → HaveRoom room (slots ++ slot ∷ []) → slot.room ≡ room
room_last room [] slot all = all.0
room_last room (s ∷ slots) slot all = room_last room slots slot all.1

pub entry_push : (room : ℕ) (es : List OutboxEntry) (e : OutboxEntry) → HaveRoom room (slots_of es) → e.slot.room ≡ room → HaveRoom room (slots_of (es ++ e ∷ []))
entry_push room [] e all one = (one, tt)
entry_push room (x ∷ es) e all one = (all.0, entry_push room es e all.1 one)

pub entry_gone : (room : ℕ) (es : List OutboxEntry) (i : ℕ) → HaveRoom room (slots_of es) → HaveRoom room (slots_of (remove es i))
entry_gone room [] zero all = tt
entry_gone room [] (suc i) all = tt
entry_gone room (x ∷ es) zero all = all.1
entry_gone room (x ∷ es) (suc i) all = (all.0, entry_gone room es i all.1)

pub entry_at : (room : ℕ) (es : List OutboxEntry) (i : ℕ) (d : OutboxEntry) → HaveRoom room (slots_of es) → i < length es → (get_or es i d).slot.room ≡ room
entry_at room [] i d all within = absurd (omega arith)
entry_at room (x ∷ es) zero d all within = all.0
entry_at room (x ∷ es) (suc i) d all within = entry_at room es i d all.1 (omega arith)

pub waiting_push : (es : List OutboxEntry) (e : OutboxEntry) → waiting_in (es ++ e ∷ []) ≡ waiting_in es ++ entry_of e ∷ []
waiting_push [] e = refl
waiting_push (x ∷ es) e = ap (λ (ps : List Pending). entry_of x ∷ ps) (waiting_push es e)

pub as_many : (es : List OutboxEntry) → length (waiting_in es) ≡ length es
as_many es = length_map entry_of es

-- ---- a put

pub put_is : (q : Queue) (p : Pending) → q.fresh ≤ p.number → length q.pending < q.places → length p.bytes ≤ q.room → after q (Puts p) ≡ with q p
put_is q p fresh place fits =
    cond-true (may_put q p) (with q p) q
    (and_from _ _ (and_from _ _ (le-leb q.fresh p.number fresh) (lt-ltb (length q.pending) q.places place)) (le-leb (length p.bytes) q.room fits))
