-- What is known at the end of a ring.
use Rattle.std.proofs.Common.{◌≡◌, ℕ, suc, ◌+◌, ◌-◌, ◌*◌, List, [], ◌∷◌, ◌++◌, length, refl, sym, ap, ◌∙◌, subst, arith, length-append}
use Rattle.hs_ring.proofs.Prelude.{count_by, TableId, Joins, PoolName, is_missed, is_empty, Deed, events_of, is_any_got, is_any_given, drawn_kinds, given_kinds, Plan, Drawing, answers_of_all, nothing, GiverSeat, bare, View, nobody, giving, drawing, drawer_seat_of, giver_seat_of, having_closed, drawn_of, published_of, Over, RingRule, PoolSeat, IsFree, name_of, drawing_of, closed_giver_seat}
use Rattle.hs_words.specs.Ends.{IsTogether}
use Rattle.hs_ring.specs.Parts.{AreInOrder, GivesInTurn}
use Rattle.hs_ring.specs.Steps.{IsOver}
use Rattle.hs_ring.proofs.Owed.{Mine, closes_at}

-- ---- names

-- the table with this name
back : PoolName → TableId
back (w ∷ s ∷ v ∷ a ∷ b ∷ o ∷ names) = record { words = w; slots = s; views_name = v; atom = a; block = b; offset = o; slot_names = names }
back _ = record { words = 0; slots = 0; views_name = 0; atom = 0; block = 0; offset = 0; slot_names = [] }

back_name : (t : TableId) → back (name_of t) ≡ t
unfolding back
back_name t = refl

-- two tables with one name are one
pub one_table : (t u : TableId) → name_of t ≡ name_of u → t ≡ u
one_table t u e = sym (back_name t) ∙ ap back e ∙ back_name u

-- ---- the drawers, the last first

pub answers_length : (drawers : List Drawing) → length (answers_of_all drawers) ≡ length drawers
answers_length [] = refl
answers_length (x ∷ xs) = ap suc (answers_length xs)

pub in_order_at : (pool : PoolName) (number : ℕ) (xs : List Drawing) (d : Drawing) (done : List Drawing) → AreInOrder pool number ((xs ++ d ∷ []) ++ done) → (d.pool ≡ pool) × (d.number ≡ number + length xs)
in_order_at pool number [] d done order = (order.0, (let e = order.1 in omega arith))
in_order_at pool number (x ∷ xs) d done order = let r = in_order_at pool (suc number) xs d done order.2 in (r.0, (let e = r.1 in omega arith))

-- the last drawer that is still open
pub record IsLast (table : TableId) (seat : PoolSeat) (closed made : ℕ) : Type 0 where
  pub table_is : seat.table_id ≡ table
  pub last : suc (drawer_seat_of seat.me.0).number + closed ≡ made

pub is_last : (table : TableId) (seat : PoolSeat) (buffers left : ℕ) (all xs : List Drawing) (d : Drawing) (done : List Drawing) (post first : GiverSeat) → AreInOrder (name_of table) 0 all → length all ≡ first.made
    → (xs ++ d ∷ []) ++ done ≡ all → post ≡ closed_giver_seat first (answers_of_all done) → drawing_of seat.table_id buffers (drawer_seat_of seat.me.0) ≡ d → IsLast table seat (length post.closed) post.made
is_last table seat buffers left all xs d done post first order many parts post_is view =
    let here = in_order_at (name_of table) 0 xs d done (subst (AreInOrder (name_of table) 0) (sym parts) order) in
    let number : (drawer_seat_of seat.me.0).number ≡ 0 + length xs = ap (λ (x : Drawing). x.number) view ∙ here.1 in
    let closed : length post.closed ≡ length done = ap (λ (p : GiverSeat). length p.closed) post_is ∙ answers_length done in
    let made : post.made ≡ first.made = ap (λ (p : GiverSeat). p.made) post_is in
    record {
      table_is = one_table seat.table_id table (ap (λ (x : Drawing). x.pool) view ∙ here.0);
      last = (let l = ap (λ (l : List Drawing). length l) parts in let a = length-append (xs ++ d ∷ []) done in let b = length-append xs (d ∷ []) in omega arith);
    }

pub closes_last : (plan : Plan) (table : TableId) (s seat : PoolSeat) → IsFree s → seat.me ≡ (drawing (drawer_seat_of seat.me.0) nothing, []) → IsLast table seat (length (giver_seat_of s.me.0).closed) (giver_seat_of s.me.0).made
    → Joins (RingRule plan) s.id s.me.0 seat.id seat.me.0 (having_closed s.me.0 seat.me.0) nobody
closes_last plan table s seat free idle last =
    closes_at plan s.id s.me.0 (giver_seat_of s.me.0) bare seat.id seat.me.0 (drawer_seat_of seat.me.0) (ap (λ (m : Mine). m.0) free) (ap (λ (m : Mine). m.0) idle) last.last

-- the giver's seat after it
pub closed_one : (s t seat : PoolSeat) (buffers : ℕ) (d : Drawing) (done : List Drawing) (first : GiverSeat) → IsFree s → seat.me ≡ (drawing (drawer_seat_of seat.me.0) nothing, []) → t.me ≡ (having_closed s.me.0 seat.me.0, s.me.1)
    → giver_seat_of s.me.0 ≡ closed_giver_seat first (answers_of_all done) → drawing_of seat.table_id buffers (drawer_seat_of seat.me.0) ≡ d → IsFree t × (giver_seat_of t.me.0 ≡ closed_giver_seat first (answers_of_all (d ∷ done)))
closed_one s t seat buffers d done first free idle did post_is view =
    let P = giver_seat_of s.me.0 in
    let D = drawer_seat_of seat.me.0 in
    let v : having_closed s.me.0 seat.me.0 ≡ having_closed (giving P bare) (drawing D nothing) =
    ap (λ (m : Mine). having_closed m.0 seat.me.0) free ∙ ap (λ (m : Mine). having_closed (giving P bare) m.0) idle in
    let now : t.me ≡ (having_closed (giving P bare) (drawing D nothing), []) = did ∙ ap (λ (w : View). let m : Mine = (w, s.me.1) in m) v ∙ ap (λ (m : Mine). let n : Mine = (having_closed (giving P bare) (drawing D nothing), m.1) in n) free in
    let post : giver_seat_of t.me.0 ≡ closed_giver_seat P (D.answers ∷ P.closed) = ap (λ (m : Mine). giver_seat_of m.0) now in (
      now ∙ ap (λ (p : GiverSeat). let m : Mine = (giving p bare, []) in m) (sym post),
      post ∙ ap (λ (p : GiverSeat). closed_giver_seat p (D.answers ∷ p.closed)) post_is ∙ ap (λ (x : Drawing). closed_giver_seat first (x.answers ∷ answers_of_all done)) view,
    )

-- ---- the tally

-- what is known at the last look, in numbers of the pool
pub record Ending (buffers misses word : ℕ) (post : GiverSeat) (log : List Deed) : Type 0 where
  pub together : IsTogether buffers post.turns post.closed log
  pub drawn : drawn_of word ≡ count_by is_any_got (events_of log) + count_by is_empty (events_of log)
  pub published : published_of word ≡ buffers + (count_by is_any_given (events_of log) + count_by is_missed (events_of log))
  pub misses_are : misses ≡ count_by is_missed (events_of log)
  pub empties : misses + (drawn_of word - published_of word) ≡ count_by is_empty (events_of log)
  pub gives : GivesInTurn (events_of log)

pub ends : (entries buffers misses word : ℕ) (v : View) (post : GiverSeat) → v ≡ giving post bare → Over entries word v → 2 * buffers ≡ entries → misses ≡ post.misses → post.made ≡ length post.closed
    → (log : List Deed) × Ending buffers misses word post log
ends entries buffers misses word v post is over half misses_are all =
    let known : (n : ℕ) × (log : List Deed) × IsOver entries word post n log = subst (Over entries word) is over all in
    let n = known.0 in
    let log = known.1 in
    let o = known.2 in
    let same : n ≡ buffers = (let b = o.buffers in omega arith) in
    let dk = drawn_kinds log in
    let gk = given_kinds log in (
      log,
      record {
        together = subst (λ (m : ℕ). IsTogether m post.turns post.closed log) same o.together;
        drawn = o.drawn ∙ dk;
        published = (let p = o.published in omega arith);
        misses_are = misses_are ∙ o.misses;
        empties = (let v = o.voids in let d = o.drawn in let p = o.published in let m = o.misses in omega arith);
        gives = o.gives;
      },
    )
