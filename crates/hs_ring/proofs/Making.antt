-- The words and the slots of a new table are as the rule wants them.
use Rattle.std.proofs.Common.{◌≡◌, ℕ, zero, suc, ◌+◌, ◌*◌, ◌<◌, ◌≤◌, List, [], ◌∷◌, ◌++◌, length, map, get_or, replicate, Some, None, refl, sym, ap, ap₂, ◌∙◌, subst, arith, length-append, add-one}
use Rattle.hs_ring.proofs.Prelude.{some, get_elem?, length-map, length-replicate, Option, sum, slice_get, range_with_len, length-range_with_len, opening, Splits, TableId, MOST_AHEAD, MOST_BUFFERS, Contents, clear_chunk, clear_chunks, PoolName, Plan, Within, Drawing, new_drawers, GiverSeat, bare, giving, drawer_seat_of, giver_seat_of, new_drawer, RingRule, first_view, PoolSeat, name_of, drawing_of, IsMaking}
use Rattle.hs_words.proofs.Plans.{total_is_sum}
use Rattle.hs_ring.specs.Views.{with_drawer}
use Rattle.hs_ring.specs.Making.{first_words, first_slots}
use Rattle.hs_ring.proofs.Owed.{Mine, makes_at}
use Rattle.hs_ring.proofs.Givers.{post_there, free_there}
use Rattle.hs_ring.proofs.Life.{IsLaidOut, starts}

pub range_and : (a n : ℕ) → range_with_len a (n + 1) ≡ range_with_len a n ++ (a + n) ∷ []
range_and a n = ap (range_with_len a) (add-one n) ∙ go a n
  where
    go : (a n : ℕ) → range_with_len a (suc n) ≡ range_with_len a n ++ (a + n) ∷ []
    go a zero = ap (λ (x : ℕ). x ∷ []) (let e : a ≡ a + 0 = omega arith in e)
    go a (suc n) = ap (λ (l : List ℕ). a ∷ l) (go (a + 1) n ∙ ap (λ (x : ℕ). range_with_len (a + 1) n ++ x ∷ []) (let e : a + 1 + n ≡ a + suc n = omega arith in e))

low_word : (a n m e : ℕ) → e < n → get_or (range_with_len a n ++ replicate m 0) e 0 ≡ a + e
low_word a zero m e low = absurd (omega arith)
low_word a (suc n) m zero low = omega arith
low_word a (suc n) m (suc e) low = let r = low_word (a + 1) n m e (omega arith) in omega arith

zeros_there : (m e : ℕ) → get_or (replicate {A = ℕ} m 0) e 0 ≡ 0
zeros_there zero e = refl
zeros_there (suc m) zero = refl
zeros_there (suc m) (suc e) = zeros_there m e

high_word : (a n m e : ℕ) → n ≤ e → get_or (range_with_len a n ++ replicate m 0) e 0 ≡ 0
high_word a zero m e high = zeros_there m e
high_word a (suc n) m zero high = absurd (omega arith)
high_word a (suc n) m (suc e) high = high_word (a + 1) n m e (omega arith)

abbrev made_slots : ℕ → ℕ → ℕ → ℕ → List (Option Contents)
made_slots size a n m = map (λ (chunk : Contents). Some chunk) (map (clear_chunk size) (range_with_len a n)) ++ replicate m None

low_slot : (size a n m e : ℕ) → e < n → get_elem? (made_slots size a n m) e ≡ some (Some (clear_chunk size (a + e)))
low_slot size a zero m e low = absurd (omega arith)
low_slot size a (suc n) m zero low = ap (λ (x : ℕ). some (Some (clear_chunk size x))) (let e : a ≡ a + 0 = omega arith in e)
low_slot size a (suc n) m (suc e) low = low_slot size (a + 1) n m e (omega arith) ∙ ap (λ (x : ℕ). some (Some (clear_chunk size x))) (let e : a + 1 + e ≡ a + suc e = omega arith in e)

nones_there : (m e : ℕ) → e < m → get_elem? (replicate {A = Option Contents} m None) e ≡ some None
nones_there zero e low = absurd (omega arith)
nones_there (suc m) zero low = refl
nones_there (suc m) (suc e) low = nones_there m e (omega arith)

high_slot : (size a n m e : ℕ) → n ≤ e → e < n + m → get_elem? (made_slots size a n m) e ≡ some None
high_slot size a zero m e high low = nones_there m e (omega arith)
high_slot size a (suc n) m zero high low = absurd (omega arith)
high_slot size a (suc n) m (suc e) high low = high_slot size (a + 1) n m e (omega arith) (omega arith)

slots_length : (size a n m : ℕ) → length (made_slots size a n m) ≡ n + m
slots_length size a zero m = length-replicate m None ∙ (let e : m ≡ 0 + m = omega arith in e)
slots_length size a (suc n) m = let r = slots_length size (a + 1) n m in omega arith

laid_out : (plan : Plan) → IsLaidOut plan (first_words plan.buffers) (made_slots plan.size 0 plan.buffers plan.buffers)
laid_out plan =
    let n = plan.buffers in
    record {
      words = (let l = length-append (range_with_len 1 n) (replicate n 0) in let r = length-range_with_len 1 n in let z = length-replicate {A = ℕ} n 0 in omega arith);
      slots = (let l = slots_length plan.size 0 n n in omega arith);
      counts = refl;
      numbers = λ e low. let w = low_word 1 n n e low in omega arith;
      zeros = λ e high low. high_word 1 n n e high;
      chunks = λ e low. low_slot plan.size 0 n n e low ∙ ap (λ (x : ℕ). some (Some (clear_chunk plan.size x))) (let z : 0 + e ≡ e = omega arith in z);
      nones = λ e high low. high_slot plan.size 0 n n e high (omega arith);
    }

-- A new table keeps the rule.
pub new_ring : (plan : Plan) (words : List ℕ) (slots : List (Option Contents)) (chunks : List Contents) → 1 ≤ length chunks → length chunks ≤ MOST_BUFFERS → plan.buffers ≡ length chunks → sum plan.allowances ≤ MOST_AHEAD
    → chunks ≡ clear_chunks (length chunks) plan.size → words ≡ first_words plan.buffers → slots ≡ first_slots chunks → RingRule plan (opening words slots (first_view plan))
new_ring plan words slots chunks some_there few buffers draws clear words_are slots_are =
    let n = plan.buffers in
    let within : Within plan = record { some_there = omega arith; few = omega arith; draws = (let t = total_is_sum plan.allowances in omega arith) } in
    let made : slots ≡ made_slots plan.size 0 n n =
    slots_are ∙ ap₂ (λ (l : List Contents) (m : ℕ). map (λ (chunk : Contents). Some chunk) l ++ replicate m None) (clear ∙ ap (λ (m : ℕ). clear_chunks m plan.size) (sym buffers)) (sym buffers) in
    subst (λ (ws : List ℕ). RingRule plan (opening ws slots (first_view plan))) (sym words_are)
    (subst (λ (xs : List (Option Contents)). RingRule plan (opening (first_words n) xs (first_view plan))) (sym made) (starts plan (first_words n) (made_slots plan.size 0 n n) within (laid_out plan)))

pub first_size : (chunks : List Contents) (size : ℕ) (first : Contents) → chunks ≡ clear_chunks (length chunks) size → 1 ≤ length chunks → Some first ≡ slice_get chunks 0 → first.size ≡ size
first_size chunks size first clear some_there is = go (length chunks) some_there (is ∙ ap (λ (l : List Contents). slice_get l 0) clear)
  where
    go : (n : ℕ) → 1 ≤ n → Some first ≡ slice_get (clear_chunks n size) 0 → first.size ≡ size
    go zero one e = absurd (omega arith)
    go (suc n) one e = let same : first ≡ clear_chunk size 0 = cc in ap (λ (c : Contents). c.size) same

-- the giver's seat at a new table
pub new_making : (table : TableId) (s : PoolSeat) (plan : Plan) (chunks : List Contents) (size : ℕ) (allowances : List ℕ) → s.table_id ≡ table → plan.buffers ≡ length chunks → table.words ≡ length (first_words plan.buffers)
    → table.slots ≡ length (first_slots chunks) → s.me ≡ (first_view plan, []) → plan.size ≡ size → plan.allowances ≡ allowances → 1 ≤ length chunks → length chunks ≤ MOST_BUFFERS
    → IsMaking table s size 0 allowances × (table.slots ≡ 2 * length chunks)
new_making table s plan chunks size allowances at buffers words slots me size_is allowances_are some_there few =
    let n = plan.buffers in
    let words' : table.words ≡ suc (2 * n) =
    (let l = length-append (range_with_len 1 n) (replicate n 0) in let r = length-range_with_len 1 n in let z = length-replicate {A = ℕ} n 0 in omega arith) in
    let slots' : table.slots ≡ 2 * length chunks =
    (let l = length-append (map (λ (chunk : Contents). Some chunk) chunks) (replicate (length chunks) None) in let m = length-map chunks (λ (chunk : Contents). Some chunk) in let z = length-replicate {A = Option Contents} (length chunks) None in omega arith) in
    let post : giver_seat_of s.me.0 ≡ record { size = plan.size; spare = plan.allowances; made = 0; closed = []; floor = 0; misses = 0; turns = [] } = ap (λ (m : Mine). giver_seat_of m.0) me in (
      record {
        at = (at, omega arith, omega arith, omega arith);
        free = me ∙ ap (λ (p : GiverSeat). let m : Mine = (giving p bare, []) in m) (sym post);
        post_is = post ∙ ap₂ (λ (z : ℕ) (l : List ℕ). let p : GiverSeat = record { size = z; spare = l; made = 0; closed = []; floor = 0; misses = 0; turns = [] } in p) size_is allowances_are;
      },
      slots',
    )

-- ---- drawers

abbrev pub new_drawer_of : PoolName → ℕ → ℕ → ℕ → ℕ → Drawing
new_drawer_of pool buffers size number left = record { pool = pool; buffers = buffers; size = size; number = number; most = left; left = left; floor = 0; answers = [] }

pub new_drawers_and : (pool : PoolName) (buffers size number : ℕ) (lefts : List ℕ) (left : ℕ)
    → new_drawers pool buffers size number (lefts ++ left ∷ []) ≡ new_drawers pool buffers size number lefts ++ new_drawer_of pool buffers size (number + length lefts) left ∷ []
new_drawers_and pool buffers size number [] left = ap (λ (k : ℕ). new_drawer_of pool buffers size k left ∷ []) (let e : number ≡ number + 0 = omega arith in e)
new_drawers_and pool buffers size number (x ∷ xs) left =
    ap (λ (l : List Drawing). new_drawer_of pool buffers size number x ∷ l)
    (new_drawers_and pool buffers size (suc number) xs left ∙ ap (λ (k : ℕ). new_drawers pool buffers size (suc number) xs ++ new_drawer_of pool buffers size k left ∷ []) (let e : suc number + length xs ≡ number + suc (length xs) = omega arith in e))

abbrev making_post : ℕ → ℕ → List ℕ → GiverSeat
making_post size made spare = record { size = size; spare = spare; made = made; closed = []; floor = 0; misses = 0; turns = [] }

there : (table : TableId) (s : PoolSeat) (size made : ℕ) (spare : List ℕ) → IsMaking table s size made spare → s.me ≡ (giving (making_post size made spare) bare, [])
there table s size made spare is = is.free ∙ ap (λ (p : GiverSeat). let m : Mine = (giving p bare, []) in m) is.post_is

pub makes_one : (plan : Plan) (table : TableId) (s : PoolSeat) (size made : ℕ) (spare : List ℕ) → IsMaking table s size made spare → Splits (RingRule plan) s.id s.me.0 (with_drawer s.me.0) (new_drawer s.me.0)
makes_one plan table s size made spare is =
    makes_at plan s.id s.me.0 (making_post size made spare) bare (ap (λ (m : Mine). m.0) (there table s size made spare is)) refl

pub made_one : (table : TableId) (s t r : PoolSeat) (buffers size made left : ℕ) (spare : List ℕ) → IsMaking table s size made (left ∷ spare)
    → t.table_id ≡ s.table_id → t.me ≡ (with_drawer s.me.0, s.me.1) → r.table_id ≡ s.table_id → r.me ≡ (new_drawer s.me.0, [])
    → IsMaking table t size (made + 1) spare × (drawing_of r.table_id buffers (drawer_seat_of r.me.0) ≡ new_drawer_of (name_of table) buffers size made left)
made_one table s t r buffers size made left spare is table_t me_t table_r me_r =
    let was = there table s size made (left ∷ spare) is in
    let now : t.me ≡ (giving (making_post size (suc made) spare) bare, []) = me_t ∙ ap (λ (m : Mine). let n : Mine = (with_drawer m.0, m.1) in n) was in
    let drawer : r.me ≡ (new_drawer (giving (making_post size made (left ∷ spare)) bare), []) = me_r ∙ ap (λ (m : Mine). let n : Mine = (new_drawer m.0, []) in n) was in (
      record {
        at = (table_t ∙ is.at.0, is.at.1, is.at.2, is.at.3);
        free = free_there t (making_post size (suc made) spare) now;
        post_is = post_there t (making_post size (suc made) spare) now ∙ ap (λ (k : ℕ). making_post size k spare) (sym (add-one made));
      },
      ap₂ (λ (z : TableId) (m : Mine). drawing_of z buffers (drawer_seat_of m.0)) (table_r ∙ is.at.0) drawer,
    )
