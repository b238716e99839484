-- The table of a new locked pool is as the rule wants it, and so are its drawers.
use Rattle.std.proofs.Common.{◌≡◌, ℕ, suc, ◌+◌, ◌≤◌, List, [], ◌∷◌, ◌++◌, length, map, refl, sym, ap, ap₂, ◌∙◌, subst, arith, add-one}
use Rattle.hs_locked.proofs.Prelude.{sum, AllByRecursion, range_with_len, opening, Splits, TableId, MOST_AHEAD, Contents, clear_chunks, PoolName, Tally, Plan, Within, IsAfter, Drawing, new_drawers, name_of, IsSameSeat, Store, GiverSeat, bare, away, giving, drawer_seat_of, giver_seat_of, new_drawer, StoreOk, LockedRule, first_giver_seat, first_view, PoolSeat, IsFree, drawing_of, IsMaking}
use Rattle.hs_base.specs.declared.limits.TheConstants.{MOST_BUFFERS}
use Rattle.hs_words.specs.Chunks.{clear_chunk}
use Rattle.hs_words.proofs.Plans.{total_is_sum}
use Rattle.hs_locked.specs.Views.{with_drawer}
use Rattle.hs_locked.specs.Seats.{IsSeatAt}
use Rattle.hs_locked.specs.Making.{making_giver_seat}
use Rattle.hs_locked.proofs.Owed.{Mine, makes_at}
use Rattle.hs_locked.proofs.Life.{starts}

pub post_there : (s : PoolSeat) (post : GiverSeat) → s.me ≡ (giving post bare away, []) → giver_seat_of s.me.0 ≡ post
post_there s post is = ap (λ (m : Mine). giver_seat_of m.0) is

pub free_there : (s : PoolSeat) (post : GiverSeat) → s.me ≡ (giving post bare away, []) → IsFree s
free_there s post is = is ∙ ap (λ (p : GiverSeat). let m : Mine = (giving p bare away, []) in m) (sym (post_there s post is))

pub at_there : (table : TableId) (s t : PoolSeat) → IsSeatAt table s → IsSameSeat s t → IsSeatAt table t
at_there table s t at same = (same.0 ∙ at.0, at.1, at.2)

-- ---- the start

all_sized : (size : ℕ) (numbers : List ℕ) → AllByRecursion (λ (chunk : Contents). chunk.size ≡ size) (map (clear_chunk size) numbers)
all_sized size [] = tt
all_sized size (x ∷ xs) = (refl, all_sized size xs)

abbrev pub no_tally : Tally
no_tally = record { gots = 0; empties = 0; gives = 0; misses = 0 }

-- what is known of a new store
pub record IsNew (chunks : List Contents) (store : Store) : Type 0 where
  pub after : IsAfter [] store.pool
  pub queue : store.pool.queue ≡ chunks
  pub buffers : store.pool.buffers ≡ length chunks
  pub tally : store.tally ≡ no_tally

-- A new table keeps the rule.
pub new_locked : (plan : Plan) (words : List ℕ) (slots : List Store) (store : Store) (chunks : List Contents) → 1 ≤ length chunks → length chunks ≤ MOST_BUFFERS → plan.buffers ≡ length chunks → sum plan.allowances ≤ MOST_AHEAD
    → chunks ≡ clear_chunks (length chunks) plan.size → IsNew chunks store → words ≡ 0 ∷ 0 ∷ [] → slots ≡ store ∷ [] → LockedRule plan (opening words slots (first_view plan))
new_locked plan words slots store chunks some_there few buffers draws clear new words_are slots_are =
    let within : Within plan = record { some_there = omega arith; few = omega arith; draws = (let t = total_is_sum plan.allowances in omega arith) } in
    let ok : StoreOk plan [] store =
    record {
      buffers = new.buffers ∙ sym buffers;
      after = new.after;
      sized = subst (λ (l : List Contents). AllByRecursion (λ (chunk : Contents). chunk.size ≡ plan.size) l) (sym (new.queue ∙ clear)) (all_sized plan.size (range_with_len 0 (length chunks)));
      counted =
          record {
            gots = ap (λ (t : Tally). t.gots) new.tally;
            empties = ap (λ (t : Tally). t.empties) new.tally;
            gives = ap (λ (t : Tally). t.gives) new.tally;
            misses = ap (λ (t : Tally). t.misses) new.tally;
          };
      none_missed = ap (λ (t : Tally). t.misses) new.tally;
    } in
    subst (λ (ws : List ℕ). LockedRule plan (opening ws slots (first_view plan))) (sym words_are) (subst (λ (xs : List Store). LockedRule plan (opening (0 ∷ 0 ∷ []) xs (first_view plan))) (sym slots_are) (starts plan within store ok))

-- the giver's seat at a new table
pub new_making : (table : TableId) (s : PoolSeat) (plan : Plan) (buffers size : ℕ) (allowances : List ℕ) → s.table_id ≡ table → table.words ≡ 2 → table.slots ≡ 1 → s.me ≡ (first_view plan, [])
    → plan.buffers ≡ buffers → plan.size ≡ size → plan.allowances ≡ allowances → IsMaking table s buffers size 0 allowances
new_making table s plan buffers size allowances at words slots me buffers_are size_is allowances_are =
    let post : giver_seat_of s.me.0 ≡ first_giver_seat plan = post_there s (first_giver_seat plan) me in
    record {
      at = (at, words, slots);
      free = free_there s (first_giver_seat plan) me;
      post_is = post ∙ ap₂ (λ (n : ℕ) (z : ℕ). making_giver_seat n z 0 plan.allowances) buffers_are size_is ∙ ap (λ (l : List ℕ). making_giver_seat buffers size 0 l) allowances_are;
    }

-- ---- drawers

abbrev pub new_drawer_of : PoolName → ℕ → ℕ → ℕ → ℕ → Drawing
new_drawer_of pool buffers size number left = record { pool = pool; buffers = buffers; size = size; number = number; most = left; left = left; floor = 0; answers = [] }

pub new_drawers_and : (pool : PoolName) (buffers size number : ℕ) (lefts : List ℕ) (left : ℕ)
    → new_drawers pool buffers size number (lefts ++ left ∷ []) ≡ new_drawers pool buffers size number lefts ++ new_drawer_of pool buffers size (number + length lefts) left ∷ []
new_drawers_and pool buffers size number [] left = ap (λ (k : ℕ). new_drawer_of pool buffers size k left ∷ []) (let e : number ≡ number + 0 = omega arith in e)
new_drawers_and pool buffers size number (x ∷ xs) left =
    ap (λ (l : List Drawing). new_drawer_of pool buffers size number x ∷ l)
    (new_drawers_and pool buffers size (suc number) xs left ∙ ap (λ (k : ℕ). new_drawers pool buffers size (suc number) xs ++ new_drawer_of pool buffers size k left ∷ []) (let e : suc number + length xs ≡ number + suc (length xs) = omega arith in e))

there : (table : TableId) (s : PoolSeat) (buffers size made : ℕ) (spare : List ℕ) → IsMaking table s buffers size made spare → s.me ≡ (giving (making_giver_seat buffers size made spare) bare away, [])
there table s buffers size made spare is = is.free ∙ ap (λ (p : GiverSeat). let m : Mine = (giving p bare away, []) in m) is.post_is

pub makes_one : (plan : Plan) (table : TableId) (s : PoolSeat) (buffers size made : ℕ) (spare : List ℕ) → IsMaking table s buffers size made spare → Splits (LockedRule plan) s.id s.me.0 (with_drawer s.me.0) (new_drawer s.me.0)
makes_one plan table s buffers size made spare is =
    makes_at plan s.id s.me.0 (making_giver_seat buffers size made spare) (ap (λ (m : Mine). m.0) (there table s buffers size made spare is)) refl

pub made_one : (table : TableId) (s t r : PoolSeat) (buffers size made left : ℕ) (spare : List ℕ) → IsMaking table s buffers size made (left ∷ spare)
    → t.table_id ≡ s.table_id → t.me ≡ (with_drawer s.me.0, s.me.1) → r.table_id ≡ s.table_id → r.me ≡ (new_drawer s.me.0, [])
    → IsMaking table t buffers size (made + 1) spare × (drawing_of r.table_id (drawer_seat_of r.me.0) ≡ new_drawer_of (name_of table) buffers size made left)
made_one table s t r buffers size made left spare is table_t me_t table_r me_r =
    let was = there table s buffers size made (left ∷ spare) is in
    let now : t.me ≡ (giving (making_giver_seat buffers size (suc made) spare) bare away, []) = me_t ∙ ap (λ (m : Mine). let n : Mine = (with_drawer m.0, m.1) in n) was in
    let drawer : r.me ≡ (new_drawer (giving (making_giver_seat buffers size made (left ∷ spare)) bare away), []) = me_r ∙ ap (λ (m : Mine). let n : Mine = (new_drawer m.0, []) in n) was in (
      record {
        at = (table_t ∙ is.at.0, is.at.1, is.at.2);
        free = free_there t (making_giver_seat buffers size (suc made) spare) now;
        post_is = post_there t (making_giver_seat buffers size (suc made) spare) now ∙ ap (λ (k : ℕ). making_giver_seat buffers size k spare) (sym (add-one made));
      },
      ap₂ (λ (z : TableId) (m : Mine). drawing_of z (drawer_seat_of m.0)) (table_r ∙ is.at.0) drawer,
    )
