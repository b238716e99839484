-- What is known as the drawers of a locked pool are closed.
use Rattle.std.proofs.Common.{◌≡◌, ℕ, suc, ◌+◌, List, [], ◌∷◌, ◌++◌, length, refl, sym, ap, ◌∙◌, subst, arith, length-append}
use Rattle.hs_locked.proofs.Prelude.{TableId, Joins, PoolName, Plan, Drawing, answers_of_all, name_of, answers_length, nothing, GiverSeat, away, nobody, drawing, drawer_seat_of, giver_seat_of, having_closed, LockedRule, PoolSeat, IsFree, drawing_of, closed_giver_seat}
use Rattle.hs_ring.specs.Parts.{AreInOrder}
use Rattle.hs_ring.proofs.Closings.{one_table, in_order_at}
use Rattle.hs_locked.proofs.Owed.{Mine, closes_at}

-- ---- names

-- the table with this name
back : PoolName → TableId
back (w ∷ s ∷ v ∷ a ∷ b ∷ o ∷ names) = record { words = w; slots = s; views_name = v; atom = a; block = b; offset = o; slot_names = names }
back _ = record { words = 0; slots = 0; views_name = 0; atom = 0; block = 0; offset = 0; slot_names = [] }

back_name : (t : TableId) → back (name_of t) ≡ t
unfolding back
back_name t = refl

-- ---- the drawers, the last first

-- the last drawer that is still open
pub record IsLast (table : TableId) (seat : PoolSeat) (closed made : ℕ) : Type 0 where
  pub table_is : seat.table_id ≡ table
  pub last : suc (drawer_seat_of seat.me.0).number + closed ≡ made

pub is_last : (table : TableId) (seat : PoolSeat) (all xs : List Drawing) (d : Drawing) (done : List Drawing) (post first : GiverSeat) → AreInOrder (name_of table) 0 all → length all ≡ first.made
    → (xs ++ d ∷ []) ++ done ≡ all → post ≡ closed_giver_seat first (answers_of_all done) → drawing_of seat.table_id (drawer_seat_of seat.me.0) ≡ d → IsLast table seat (length post.closed) post.made
is_last table seat all xs d done post first order many parts post_is view =
    let here = in_order_at (name_of table) 0 xs d done (subst (AreInOrder (name_of table) 0) (sym parts) order) in
    let number : (drawer_seat_of seat.me.0).number ≡ 0 + length xs = ap (λ (x : Drawing). x.number) view ∙ here.1 in
    let closed : length post.closed ≡ length done = ap (λ (p : GiverSeat). length p.closed) post_is ∙ answers_length done in
    let made : post.made ≡ first.made = ap (λ (p : GiverSeat). p.made) post_is in
    record {
      table_is = one_table seat.table_id table (ap (λ (x : Drawing). x.pool) view ∙ here.0);
      last = (let l = ap (λ (l : List Drawing). length l) parts in let a = length-append (xs ++ d ∷ []) done in let b = length-append xs (d ∷ []) in omega arith);
    }

pub closes_last : (plan : Plan) (table : TableId) (s seat : PoolSeat) → IsFree s → seat.me ≡ (drawing (drawer_seat_of seat.me.0) nothing away, []) → IsLast table seat (length (giver_seat_of s.me.0).closed) (giver_seat_of s.me.0).made
    → Joins (LockedRule plan) s.id s.me.0 seat.id seat.me.0 (having_closed s.me.0 seat.me.0) nobody
closes_last plan table s seat free idle last =
    closes_at plan s.id s.me.0 (giver_seat_of s.me.0) seat.id seat.me.0 (drawer_seat_of seat.me.0) (ap (λ (m : Mine). m.0) free) (ap (λ (m : Mine). m.0) idle) last.last
