-- The operation order has all operations of all clients: the rounds of a client are its operations one behind another, and each item of an
-- operation comes with its number.
use Rattle.std.proofs.Common.{◌≡◌, ℕ, zero, suc, ◌+◌, ◌-◌, ◌*◌, ◌%◌, ◌<◌, ◌≤◌, Bool, true, false, cond, List, [], ◌∷◌, ◌++◌, length, refl, sym, ap, ◌∙◌, Option, Some, None, arith, map, filter, slice_get, unwrap_or, zip, eqb, eqb-true, ltb, ltb-true, append-nil, length-append}
use Rattle.hs_compare.proofs.Prelude.{AllByRecursion, flat_map, range_with_len, eqb-false, length-map, div-add-mod', mod-lt, all_each, all_append, range_append, ClientId, TraceId, Trigger, Operation, PlainWorkload, NumberedOperation, Record, open_behind, numbered_from, numbered_of, record_at, records_of, Sent, operations_at, sent_triggers, AllTriggersAreSent, point_numbers, rounds_for, rounds_of, client_at, SamplerEvent, Comes, Names, comings_of, sent_comings, items_at, names_in, events_at, events_in_order, all_comings, named_by, named_in, brought_by}
use Rattle.std.proofs.lemmas.Grind.{flat_map-append}
use Rattle.std.proofs.Math.Nat.{suc-mul, add-mul, mul-le-mul_right}
use Rattle.hs_base.proofs.Parts.{flat_alike}
use Rattle.hs_compare.specs.Coming.{Coming, events_of}
use Rattle.hs_compare.specs.SamplerLaws.{all_names, TheOrderHasAll}
use Rattle.hs_compare.proofs.Lists.{in_map}
use Rattle.hs_compare.proofs.Same.{Same, Joins, same_from, turned_round, both, flat_same, flat_pairs, flat_none, by_columns, to_permutation}
use Rattle.hs_compare.proofs.Sent.{max_has, numbers_low}

-- ---- ranges

module _ {X : Type 0} (h : ℕ → List X) (stride : ℕ) where
  -- strides one behind another
  rounds_joined : (first rounds : ℕ) → flat_map (λ round. flat_map h (range_with_len (round * stride) stride)) (range_with_len first rounds) ≡ flat_map h (range_with_len (first * stride) (rounds * stride))
  rounds_joined first zero = let none : 0 ≡ zero * stride = omega arith in ap (λ (n : ℕ). flat_map h (range_with_len (first * stride) n)) none
  rounds_joined first (suc rounds) =
      let next : (first + 1) * stride ≡ first * stride + stride = let e = add-mul first 1 stride in omega (arith, e) in
      let more : stride + rounds * stride ≡ suc rounds * stride = let e = suc-mul rounds stride in omega (arith, e) in
      ap (λ (rest : List X). flat_map h (range_with_len (first * stride) stride) ++ rest) (rounds_joined (first + 1) rounds ∙ ap (λ (s : ℕ). flat_map h (range_with_len s (rounds * stride))) next)
      ∙ sym (flat_map-append h (range_with_len (first * stride) stride) (range_with_len (first * stride + stride) (rounds * stride)))
      ∙ ap (flat_map h) (sym (range_append (first * stride) stride (rounds * stride)))
      ∙ ap (λ (n : ℕ). flat_map h (range_with_len (first * stride) n)) more

-- ---- items by their numbers

module _ {Y : Type 0} (xs : List Y) where
  abbrev at : ℕ → ℕ → List Y
  at k n = cond (eqb k n) xs []

  at_other : (k n : ℕ) (b : Bool) → eqb k n ≡ b → k < n → cond b xs [] ≡ []
  at_other k n true e less = let same = eqb-true k n e in absurd (omega (arith, same, less))
  at_other k n false e less = refl

  none_above : (k start count : ℕ) → k < start → flat_map (at k) (range_with_len start count) ≡ []
  none_above k start zero less = refl
  none_above k start (suc count) less = ap (λ (front : List Y). front ++ flat_map (at k) (range_with_len (start + 1) count)) (at_other k start (eqb k start) refl less) ∙ none_above k (start + 1) count (omega (arith, less))

  once_case : (k start : ℕ) (rest : List Y) (b : Bool) → eqb k start ≡ b → (k ≡ start → rest ≡ []) → ((k ≡ start → ⊥) → rest ≡ xs) → cond b xs [] ++ rest ≡ xs
  once_case k start rest true e here later = ap (λ (rest : List Y). xs ++ rest) (here (eqb-true k start e)) ∙ append-nil xs
  once_case k start rest false e here later = later (eqb-false k start e)

  once : (k start count : ℕ) → start ≤ k → k < start + count → flat_map (at k) (range_with_len start count) ≡ xs
  once k start zero low high = absurd (omega (arith, low, high))
  once k start (suc count) low high =
      once_case k start (flat_map (at k) (range_with_len (start + 1) count)) (eqb k start) refl (λ same. none_above k (start + 1) count (omega (arith, same)))
      (λ other. once k (start + 1) count (above k start low other) (omega (arith, high)))
    where
      above : (k start : ℕ) → start ≤ k → (k ≡ start → ⊥) → start + 1 ≤ k
      above k start low other = omega (arith, low, other)

module _ {A Y : Type 0} (f : A → List Y) where
  item_case : (item : Sent A) (items : List (Sent A)) (b : Bool) → flat_map f (map (λ (i : Sent A). i.item) (cond b (item ∷ items) items)) ≡ cond b (f item.item) [] ++ flat_map f (map (λ (i : Sent A). i.item) items)
  item_case item items true = refl
  item_case item items false = refl

  -- each item comes with its number
  by_number : (items : List (Sent A)) (start count : ℕ) → AllByRecursion (λ (item : Sent A). (start ≤ item.number) × (item.number < start + count)) items
      → Same (flat_map (λ (item : Sent A). f item.item) items) (flat_map (λ n. flat_map f (items_at n items)) (range_with_len start count))
  by_number [] start count all = same_from [] (flat_map (λ (n : ℕ). let none : List Y = [] in none) (range_with_len start count)) (sym (flat_none (range_with_len start count)))
  by_number (item ∷ items) start count all =
      let numbers = range_with_len start count in
      let rest = flat_map (λ n. flat_map f (items_at n items)) numbers in
      let own = flat_map (at (f item.item) item.number) numbers in
      Joins (f item.item ++ flat_map (λ (item : Sent A). f item.item) items) (own ++ rest) (flat_map (λ n. flat_map f (items_at n (item ∷ items))) numbers)
      (both (f item.item) own (flat_map (λ (item : Sent A). f item.item) items) rest (same_from (f item.item) own (sym (once (f item.item) item.number start count all.0.0 all.0.1))) (by_number items start count all.1))
      (turned
      (Joins (flat_map (λ n. flat_map f (items_at n (item ∷ items))) numbers) (flat_map (λ n. at (f item.item) item.number n ++ flat_map f (items_at n items)) numbers) (own ++ rest)
      (same_from _ _
      (flat_alike (λ n. flat_map f (items_at n (item ∷ items))) (λ n. at (f item.item) item.number n ++ flat_map f (items_at n items)) numbers
      (λ n. item_case item (filter (λ (i : Sent A). eqb i.number n) items) (eqb item.number n)))) (flat_pairs (at (f item.item) item.number) (λ n. flat_map f (items_at n items)) numbers)))
    where
      turned : {xs ys : List Y} → Same xs ys → Same ys xs
      turned {xs} {ys} s = turned_round xs ys s

-- ---- events

flat_flat : {X Y Z : Type 0} (g : Y → List Z) (f : X → List Y) (xs : List X) → flat_map g (flat_map f xs) ≡ flat_map (λ x. flat_map g (f x)) xs
flat_flat g f [] = refl
flat_flat g f (x ∷ xs) = flat_map-append g (f x) (flat_map f xs) ∙ ap (λ rest. flat_map g (f x) ++ rest) (flat_flat g f xs)

module _ {Y : Type 0} (W : PlainWorkload) (g : SamplerEvent → List Y) (h : ℕ → ℕ → List Y)
    (is : (place n : ℕ) → flat_map g (events_at W.settings.autos (client_at W.settings.clients place) (operations_at W place) n) ≡ h place n)
  where
    abbrev places : List ℕ
    places = range_with_len 0 (length W.clients)

    abbrev stride : ℕ
    stride = W.settings.stride

    round_is : (round place : ℕ) → flat_map g (events_of W round place) ≡ flat_map (h place) (range_with_len (round * stride) stride)
    round_is round place =
        let at = events_at W.settings.autos (client_at W.settings.clients place) (operations_at W place) in
        flat_flat g at (range_with_len (round * stride) stride) ∙ flat_alike (λ n. flat_map g (at n)) (h place) (range_with_len (round * stride) stride) (is place)

    -- client by client, with all operations of each
    in_turns : Same (flat_map g (events_in_order W)) (flat_map (λ place. flat_map (h place) (range_with_len 0 (rounds_of W * stride))) places)
    in_turns =
        let rounds = range_with_len 0 (rounds_of W) in
        let cell : ℕ → ℕ → List Y = λ round place. flat_map (h place) (range_with_len (round * stride) stride) in
        let start : 0 * stride ≡ 0 = omega arith in
        Joins (flat_map g (events_in_order W)) (flat_map (λ round. flat_map (cell round) places) rounds) (flat_map (λ place. flat_map (h place) (range_with_len 0 (rounds_of W * stride))) places)
        (same_from _ _
        (flat_flat g (λ round. flat_map (events_of W round) places) rounds
        ∙ flat_alike (λ round. flat_map g (flat_map (events_of W round) places)) (λ round. flat_map (cell round) places) rounds
        (λ round. flat_flat g (events_of W round) places ∙ flat_alike (λ place. flat_map g (events_of W round place)) (cell round) places (round_is round))))
        (Joins (flat_map (λ round. flat_map (cell round) places) rounds) (flat_map (λ place. flat_map (λ round. cell round place) rounds) places)
        (flat_map (λ place. flat_map (h place) (range_with_len 0 (rounds_of W * stride))) places) (by_columns cell rounds places)
        (same_from _ _
        (flat_alike (λ place. flat_map (λ round. cell round place) rounds) (λ place. flat_map (h place) (range_with_len 0 (rounds_of W * stride))) places
        (λ place. rounds_joined (h place) stride 0 (rounds_of W) ∙ ap (λ (s : ℕ). flat_map (h place) (range_with_len s (rounds_of W * stride))) start))))

-- ---- what comes with an operation

comes_only : (records : List Coming) (traces : List TraceId) → flat_map brought_by (map Comes records ++ map Names traces) ≡ records
comes_only [] [] = refl
comes_only [] (trace ∷ traces) = comes_only [] traces
comes_only (c ∷ records) traces = ap (λ (rest : List Coming). c ∷ rest) (comes_only records traces)

names_only : (records : List Coming) (traces : List TraceId) → flat_map named_by (map Comes records ++ map Names traces) ≡ traces
names_only [] [] = refl
names_only [] (trace ∷ traces) = ap (λ (rest : List TraceId). trace ∷ rest) (names_only [] traces)
names_only (c ∷ records) traces = names_only records traces

single : {X : Type 0} (xs : List X) → flat_map (λ (x : X). x ∷ []) xs ≡ xs
single [] = refl
single (x ∷ xs) = ap (λ (rest : List _). x ∷ rest) (single xs)

-- ---- the numbers of points

all_one : {X : Type 0} (P : ℕ → Type 0) (n : ℕ) (xs : List X) → P n → AllByRecursion P (map (λ (_ : X). n) xs)
all_one P n [] here = tt
all_one P n (x ∷ xs) here = (here, all_one P n xs here)

abbrev numbers_of : List NumberedOperation → List ℕ
numbers_of ops = flat_map (λ (op : NumberedOperation). map (λ _. op.number) (record_at op)) ops

points_low : (k : ℕ) (trace : Option TraceId) (ops : List Operation) → AllByRecursion (λ (n : ℕ). n < k + length ops) (numbers_of (numbered_from k trace ops))
points_low k trace [] = tt
points_low k trace (op ∷ ops) =
    let P : ℕ → Type 0 = λ (n : ℕ). n < k + suc (length ops) in
    let first : NumberedOperation = record { number = k; trace = trace; operation = op } in
    let later = numbered_from (k + 1) (open_behind trace op) ops in
    all_append P (map (λ _. k) (record_at first)) (numbers_of later) (all_one P k (record_at first) (omega arith))
    (all_each (λ (n : ℕ). n < k + 1 + length ops) P (numbers_of later) (λ n low. omega (arith, low)) (points_low (k + 1) (open_behind trace op) ops))

as_many : (ops : List NumberedOperation) → length (numbers_of ops) ≡ length (flat_map record_at ops)
as_many [] = refl
as_many (op ∷ ops) =
    let a = length-append (map (λ _. op.number) (record_at op)) (numbers_of ops) in
    let b = length-append (record_at op) (flat_map record_at ops) in
    let c = length-map (record_at op) (λ _. op.number) in
    let rest = as_many ops in
    omega (arith, a, b, c, rest)

numbered_length : (k : ℕ) (records : List Record) → length (zip (range_with_len k (length records)) records) ≡ length records
numbered_length k [] = refl
numbered_length k (r ∷ records) = ap suc (numbered_length (k + 1) records)

pub beside_length : (client : ClientId) (ops : List Operation) → length (point_numbers ops) ≡ length (comings_of client ops)
beside_length client ops =
    as_many (numbered_of ops) ∙ sym (numbered_length 0 (records_of ops))
    ∙ sym
    (length-map (zip (range_with_len 0 (length (records_of ops))) (records_of ops))
    (λ (r : ℕ × Record). let coming : Coming = record { id = record { client = client; number = r.0 }; trace = r.1.trace; bytes = length r.1.payload } in coming))

abbrev sent : ℕ × Coming → Sent Coming
sent c = record { number = c.0; item = c.1 }

abbrev only : Sent Coming → List Coming
only item = item.item ∷ []

all_beside : (numbers : List ℕ) (records : List Coming) → length numbers ≡ length records → flat_map only (map sent (zip numbers records)) ≡ records
all_beside [] [] same = refl
all_beside [] (c ∷ records) same = absurd (omega (arith, same))
all_beside (n ∷ numbers) [] same = absurd (omega (arith, same))
all_beside (n ∷ numbers) (c ∷ records) same = ap (λ (rest : List Coming). c ∷ rest) (all_beside numbers records (omega (arith, same)))

low_beside : (most : ℕ) (numbers : List ℕ) (records : List Coming) → AllByRecursion (λ (n : ℕ). n < most) numbers → AllByRecursion (λ (item : Sent Coming). (0 ≤ item.number) × (item.number < 0 + most)) (map sent (zip numbers records))
low_beside most [] records all = tt
low_beside most (n ∷ numbers) [] all = tt
low_beside most (n ∷ numbers) (c ∷ records) all = let low = all.0 in ((omega arith, omega (arith, low)), low_beside most numbers records all.1)

-- ---- all operations

module _ (W : PlainWorkload) (some : 1 ≤ W.settings.stride) where
  abbrev most : ℕ
  most = rounds_of W * W.settings.stride

  enough : (operations : ℕ) → operations ≤ rounds_for W.settings.stride operations * W.settings.stride
  enough operations =
      let all = operations + (W.settings.stride - 1) in
      let whole = div-add-mod' all W.settings.stride in
      let rest : all % W.settings.stride < W.settings.stride = mod-lt all (omega (arith, some)) in
      omega (arith, some, whole, rest)

  operations_fit : (place : ℕ) (o : Option (List Operation)) → slice_get W.clients place ≡ o → length (unwrap_or o []) ≤ most
  operations_fit place None is = omega arith
  operations_fit place (Some ops) is =
      let f : List Operation → ℕ = λ ops. rounds_for W.settings.stride (length ops) in
      let has = in_map f W.clients ops (record { place = place; there = is }) in
      let few = max_has (map f W.clients) 0 has.place (f ops) has.there in
      let own = enough (length ops) in
      let all = mul-le-mul_right W.settings.stride few in
      omega (arith, own, all)

  abbrev ops_at : ℕ → List Operation
  ops_at place = operations_at W place

  abbrev client : ℕ → ClientId
  client place = client_at W.settings.clients place

  low : (place : ℕ) → length (ops_at place) ≤ most
  low place = operations_fit place (slice_get W.clients place) refl

  -- ---- records

  comings_at : (place : ℕ) → Same (comings_of (client place) (ops_at place)) (flat_map (λ n. flat_map (λ (c : Coming). c ∷ []) (items_at n (sent_comings (client place) (ops_at place)))) (range_with_len 0 most))
  comings_at place =
      let items = sent_comings (client place) (ops_at place) in
      let numbers = point_numbers (ops_at place) in
      let fit = low place in
      Joins (comings_of (client place) (ops_at place)) (flat_map only items) (flat_map (λ n. flat_map (λ (c : Coming). c ∷ []) (items_at n items)) (range_with_len 0 most))
      (same_from _ _ (sym (all_beside numbers (comings_of (client place) (ops_at place)) (beside_length (client place) (ops_at place)))))
      (by_number (λ (c : Coming). c ∷ []) items 0 most
      (low_beside most numbers (comings_of (client place) (ops_at place)) (all_each (λ (n : ℕ). n < 0 + length (ops_at place)) (λ (n : ℕ). n < most) numbers (λ n below. omega (arith, below, fit)) (points_low 0 None (ops_at place)))))

  pub all_in_order : Same (all_comings W) (flat_map brought_by (events_in_order W))
  all_in_order =
      let h : ℕ → ℕ → List Coming = λ place n. flat_map (λ (c : Coming). c ∷ []) (items_at n (sent_comings (client place) (ops_at place))) in
      let clients = range_with_len 0 (length W.clients) in
      let turns = flat_map (λ place. flat_map (h place) (range_with_len 0 most)) clients in
      Joins (all_comings W) turns (flat_map brought_by (events_in_order W)) (flat_same (λ place. comings_of (client place) (ops_at place)) (λ place. flat_map (h place) (range_with_len 0 most)) clients comings_at)
      (turned_round (flat_map brought_by (events_in_order W)) turns
      (in_turns W brought_by h
      (λ place n.
      let items = items_at n (sent_comings (client place) (ops_at place)) in
      comes_only items (flat_map names_in (items_at n (sent_triggers W.settings.autos (ops_at place)))) ∙ sym (single items))))

  -- ---- names

  module _ (sends : AllTriggersAreSent) where
    names_at : (place : ℕ)
        → Same (flat_map (λ (item : Sent Trigger). names_in item.item) (sent_triggers W.settings.autos (ops_at place)))
        (flat_map (λ n. flat_map names_in (items_at n (sent_triggers W.settings.autos (ops_at place)))) (range_with_len 0 most))
    names_at place =
        let fit = low place in
        by_number names_in (sent_triggers W.settings.autos (ops_at place)) 0 most
        (all_each (λ (item : Sent Trigger). ltb item.number (length (ops_at place)) ≡ true) (λ (item : Sent Trigger). (0 ≤ item.number) × (item.number < 0 + most)) (sent_triggers W.settings.autos (ops_at place))
        (λ item below. let less = ltb-true item.number (length (ops_at place)) below in (omega arith, omega (arith, less, fit))) (numbers_low sends W some place))

    names_in_order : Same (all_names W) (named_in W)
    names_in_order =
        let h : ℕ → ℕ → List TraceId = λ place n. flat_map names_in (items_at n (sent_triggers W.settings.autos (ops_at place))) in
        let clients = range_with_len 0 (length W.clients) in
        let turns = flat_map (λ place. flat_map (h place) (range_with_len 0 most)) clients in
        Joins (all_names W) turns (named_in W)
        (flat_same (λ place. flat_map (λ (item : Sent Trigger). names_in item.item) (sent_triggers W.settings.autos (ops_at place))) (λ place. flat_map (h place) (range_with_len 0 most)) clients names_at)
        (turned_round (named_in W) turns (in_turns W named_by h (λ place n. names_only (items_at n (sent_comings (client place) (ops_at place))) (h place n))))

pub the_order_has_all : AllTriggersAreSent → TheOrderHasAll
the_order_has_all sends W some =
    record {
      records = to_permutation (all_comings W) (flat_map brought_by (events_in_order W)) (all_in_order W some);
      names = to_permutation (all_names W) (named_in W) (names_in_order W some sends);
    }
