-- What the seat of a drawer knows as its turn comes and goes.
use Rattle.std.proofs.Common.{◌≡◌, ℕ, suc, ◌-◌, ◌<◌, ◌≤◌, [], ◌∷◌, refl, sym, ap, ◌∙◌, subst, arith}
use Rattle.hs_locked.proofs.Prelude.{TableId, PoolEvent, Answer, all_of, HasSize, waiting, IsSameSeat, Store, next_draw, GoesOn, DrawerSeat, nothing, away, inside, drawing, drawer_seat_of, drawer_seat_after, hand_after, size_of, event_of, having_left, PoolSeat, StandsInside, stand_of}
use Rattle.atomic_table.specs.Table.{rest}
use Rattle.hs_ring.specs.Parts.{AllBelow}
use Rattle.hs_locked.specs.Views.{floor_of, standing}
use Rattle.hs_locked.specs.Steps.{Finds}
use Rattle.hs_locked.specs.Seats.{IsIdle, IsDrawerSeat}
use Rattle.hs_locked.proofs.Turns.{Held}
use Rattle.hs_locked.proofs.Owed.{Mine}
use Rattle.hs_locked.proofs.Making.{at_there}

pub same_seat : (s t u : PoolSeat) → IsSameSeat s t → IsSameSeat t u → IsSameSeat s u
same_seat s t u one two = (two.0 ∙ one.0, two.1 ∙ one.1)

first_in : Store → Held → Store
first_in none [] = none
first_in none ((i, store) ∷ others) = store

-- the slot that a seat carries alone
pub slot_is : (held : Held) (x y : Store) → held ≡ (0, x) ∷ rest held → held ≡ (0, y) ∷ [] → x ≡ y
unfolding first_in
slot_is held x y one other = ap (λ (h : Held). first_in x h) (sym one ∙ other)

-- the seat as its turn comes
pub drawer_inside : (s t : PoolSeat) (store : Store) → IsIdle s → t.me ≡ (standing s.me.0 (inside store), (0, store) ∷ []) → t.me ≡ (drawing (drawer_seat_of s.me.0) nothing (inside store), (0, store) ∷ [])
drawer_inside s t store idle found = found ∙ ap (λ (m : Mine). let n : Mine = (standing m.0 (inside store), (0, store) ∷ []) in n) idle

-- a draw is one event
pub drawer_event : (s t : PoolSeat) (store old new : Store) (event : PoolEvent) → IsIdle s → t.me ≡ (standing s.me.0 (inside store), (0, store) ∷ []) → Finds s.me.0 store → t.me.1 ≡ (0, old) ∷ rest t.me.1
    → event ≡ next_draw (waiting old.pool) → ((size : ℕ) → HasSize size old.pool → GoesOn size old event new)
    → (x : Store) × (x' : Store) × StandsInside x (stand_of t.me.0) × (◌≡◌ {A = Held} ((0, new) ∷ rest t.me.1) ((0, x') ∷ [])) × GoesOn (size_of t.me.0) x (event_of t.me.0) x'
drawer_event s t store old new event idle found finds slot event_is goes =
    let D = drawer_seat_of s.me.0 in
    let there = drawer_inside s t store idle found in
    let same : old ≡ store = slot_is t.me.1 old store slot (ap (λ (m : Mine). m.1) there) in
    let sized : HasSize D.size store.pool = subst (λ (m : Mine). HasSize (size_of m.0) store.pool) idle finds.sized in
    let from_old : GoesOn D.size old (next_draw (waiting old.pool)) new =
    subst (λ (e : PoolEvent). GoesOn D.size old e new) event_is (goes D.size (subst (λ (o : Store). HasSize D.size o.pool) (sym same) sized)) in
    let from_store : GoesOn D.size store (next_draw (waiting store.pool)) new = subst (λ (o : Store). GoesOn D.size o (next_draw (waiting o.pool)) new) same from_old in (
      store,
      new,
      subst (λ (m : Mine). StandsInside store (stand_of m.0)) (sym there) refl,
      ap (λ (m : Mine). let h : Held = (0, new) ∷ rest m.1 in h) there,
      subst (λ (m : Mine). GoesOn (size_of m.0) store (event_of m.0) new) (sym there) from_store,
    )

-- the seat as its turn is over
pub drawer_left : (s t u : PoolSeat) (store : Store) → IsIdle s → t.me ≡ (standing s.me.0 (inside store), (0, store) ∷ []) → u.me ≡ (having_left t.me.0, [])
    → u.me ≡ (drawing (drawer_seat_after (drawer_seat_of s.me.0) store.pool.events (next_draw (waiting store.pool))) (hand_after (next_draw (waiting store.pool)) store.pool.events) away, [])
drawer_left s t u store idle found left = left ∙ ap (λ (m : Mine). let n : Mine = (having_left m.0, []) in n) (drawer_inside s t store idle found)

-- a drawer's seat after an answer
pub drawer_seat : (table : TableId) (s t : PoolSeat) (left stamp : ℕ) (event : PoolEvent) → IsDrawerSeat table s left → IsSameSeat s t → (drawer_seat_of s.me.0).floor ≤ stamp
    → t.me ≡ (drawing (drawer_seat_after (drawer_seat_of s.me.0) stamp event) nothing away, []) → IsDrawerSeat table t (left - 1)
drawer_seat table s t left stamp event seat same floor is =
    let D' = drawer_seat_after (drawer_seat_of s.me.0) stamp event in
    let there : drawer_seat_of t.me.0 ≡ D' = ap (λ (m : Mine). drawer_seat_of m.0) is in
    record {
      at = at_there table s t seat.at same;
      idle = is ∙ ap (λ (d : DrawerSeat). let m : Mine = (drawing d nothing away, []) in m) (sym there);
      left_is = ap (λ (n : ℕ). n - 1) seat.left_is ∙ ap (λ (d : DrawerSeat). d.left) (sym there);
      above = subst (λ (d : DrawerSeat). AllBelow d.floor d.answers) (sym there)
          ((let less : stamp < suc stamp = omega arith in less), all_of (drawer_seat_of s.me.0).answers (λ (a : Answer) (less : a.stamp < (drawer_seat_of s.me.0).floor). omega arith) seat.above);
    }

-- the floor that a drawer's seat knows
pub floor_there : (s : PoolSeat) (store : Store) → IsIdle s → Finds s.me.0 store → (drawer_seat_of s.me.0).floor ≤ store.pool.events
floor_there s store idle finds = subst (λ (m : Mine). floor_of m.0 ≤ store.pool.events) idle finds.floor
