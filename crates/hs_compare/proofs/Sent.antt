-- What a client sends as triggers is named: an operation's trigger comes with the operation's turn, in the round of its number.
use Rattle.std.proofs.Common.{◌≡◌, ℕ, zero, suc, ◌+◌, ◌-◌, ◌*◌, ◌/◌, ◌%◌, ◌<◌, ◌≤◌, true, List, [], ◌∷◌, length, refl, sym, subst, Option, Some, None, arith, map, filter, fold, slice_get, unwrap_or, eqb, eq-eqb, ltb, ltb-true, max}
use Rattle.hs_compare.proofs.Prelude.{AllByRecursion, flat_map, range_with_len, div-add-mod', slice_get_within, mod-lt, IsIn, all_each, ClientId, TraceId, Trigger, Operation, PlainWorkload, Sent, operations_at, sent_triggers, AllTriggersAreSent, rounds_for, rounds_of, client_at, is_first, in_filter, SamplerEvent, Comes, Names, sent_comings, items_at, names_in, events_at, events_in_order, named_by, named_in}
use Rattle.std.proofs.Math.Nat.{div-lt_iff_lt-mul}
use Rattle.hs_base.proofs.Counts.{max_at_least}
use Rattle.hs_law_outcome.proofs.Among.{of_all}
use Rattle.hs_compare.specs.Coming.{events_of}
use Rattle.hs_compare.proofs.Lists.{all_filtered, all_themselves, in_back, in_flat, in_map, in_range}
use Rattle.hs_compare.proofs.Naming.{Among, among_in}

-- ---- rounds

pub max_has : (xs : List ℕ) (a place x : ℕ) → slice_get xs place ≡ Some x → x ≤ fold max a xs
max_has [] a place x h = let no : None ≡ Some x = h in absurd cc
max_has (y ∷ xs) a zero x h = let more = max_at_least xs (max a y) in let same : y ≡ x = cc in omega (arith, more, same)
max_has (y ∷ xs) a (suc place) x h = max_has xs (max a y) place x h

-- an operation stands in a round below those that its client takes
in_its_round : (stride n operations : ℕ) → 1 ≤ stride → n < operations → n / stride < rounds_for stride operations
in_its_round stride n operations some low =
    let most = operations + (stride - 1) in
    let whole = div-add-mod' most stride in
    let rest : most % stride < stride = mod-lt most (omega (arith, some)) in
    let below : n < rounds_for stride operations * stride = omega (arith, some, low, whole, rest) in
    (div-lt_iff_lt-mul {k = stride} {x = n} {y = rounds_for stride operations} (omega (arith, some))).1 below

-- ---- one client's triggers

module _ (sent : AllTriggersAreSent) (W : PlainWorkload) (some : 1 ≤ W.settings.stride) (place : ℕ) where
  abbrev ops : List Operation
  ops = operations_at W place

  abbrev triggers : List (Sent Trigger)
  triggers = sent_triggers W.settings.autos ops

  pub numbers_low : AllByRecursion (λ (item : Sent Trigger). ltb item.number (length ops) ≡ true) triggers
  numbers_low =
      subst (AllByRecursion (λ (item : Sent Trigger). ltb item.number (length ops) ≡ true)) (sent W.settings.autos ops)
      (all_filtered (IsIn triggers) (λ (item : Sent Trigger). ltb item.number (length ops) ≡ true) (λ (item : Sent Trigger). ltb item.number (length ops)) (λ item h passes. passes) triggers (all_themselves triggers))

  -- a client that has an operation is there
  client_there : (o : Option (List Operation)) (n : ℕ) → slice_get W.clients place ≡ o → n < length (unwrap_or o []) → place < length W.clients
  client_there None n is low = absurd (omega (arith, low))
  client_there (Some ops) n is low = slice_get_within W.clients place ops is

  round_there : (o : Option (List Operation)) (n : ℕ) → slice_get W.clients place ≡ o → n < length (unwrap_or o []) → n / W.settings.stride < rounds_of W
  round_there None n is low = absurd (omega (arith, low))
  round_there (Some ops) n is low =
      let f : List Operation → ℕ = λ ops. rounds_for W.settings.stride (length ops) in
      let has = in_map f W.clients ops (record { place = place; there = is }) in
      let most = max_has (map f W.clients) 0 has.place (f ops) has.there in
      let own = in_its_round W.settings.stride n (length ops) some low in
      omega (arith, most, own)

  module _ (item : Sent Trigger) (there : IsIn triggers item) where
    abbrev n : ℕ
    n = item.number

    abbrev round : ℕ
    round = n / W.settings.stride

    n_low : n < length ops
    n_low = ltb-true n (length ops) (of_all (λ (item : Sent Trigger). ltb item.number (length ops) ≡ true) triggers item numbers_low there)

    in_stride : IsIn (range_with_len (round * W.settings.stride) W.settings.stride) n
    in_stride = in_range (round * W.settings.stride) W.settings.stride (n % W.settings.stride) n (sym (div-add-mod' n W.settings.stride)) (mod-lt n (omega (arith, some)))

    abbrev client : ClientId
    client = client_at W.settings.clients place

    comes_named : (trace : TraceId) → IsIn (names_in item.item) trace → IsIn (events_at W.settings.autos client ops n) (Names trace)
    comes_named trace h =
        let own = filter (λ (item : Sent Trigger). eqb item.number n) triggers in
        let now = in_map (λ (item : Sent Trigger). item.item) own item (in_filter (λ (item : Sent Trigger). eqb item.number n) triggers item there (eq-eqb n n refl)) in
        let named = flat_map names_in (items_at n triggers) in
        in_back (map Comes (items_at n (sent_comings client ops))) (map Names named) (Names trace) (in_map Names named trace (in_flat names_in (items_at n triggers) item.item trace now h))

    trace_named : (trace : TraceId) → IsIn (names_in item.item) trace → IsIn (named_in W) trace
    trace_named trace h =
        let low = client_there (slice_get W.clients place) n refl n_low in
        let below = round_there (slice_get W.clients place) n refl n_low in
        let e : SamplerEvent = Names trace in
        let own = in_flat (events_at W.settings.autos client ops) (range_with_len (round * W.settings.stride) W.settings.stride) n e in_stride (comes_named trace h) in
        let mid = in_flat (events_of W round) (range_with_len 0 (length W.clients)) place e (in_range 0 (length W.clients) place place (omega arith) low) own in
        let all =
        in_flat (λ round. flat_map (events_of W round) (range_with_len 0 (length W.clients))) (range_with_len 0 (rounds_of W)) round e (in_range 0 (rounds_of W) round round (omega arith) below) mid
        in
        in_flat named_by (events_in_order W) e trace all (is_first trace trace [] refl)

    pub trigger_named : AllByRecursion (Among (named_in W)) (names_in item.item)
    trigger_named = all_each (IsIn (names_in item.item)) (Among (named_in W)) (names_in item.item) (λ trace h. among_in (named_in W) trace (trace_named trace h)) (all_themselves (names_in item.item))
