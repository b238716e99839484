-- One operation more.
use Rattle.std.proofs.Common.{◌≡◌, ℕ, suc, ◌+◌, ◌≤◌, List, [], ◌∷◌, ◌++◌, length, map, Option, Some, None, option_map, refl, sym, ap, ap₂, ◌∙◌, arith, append_assoc, length-append}
use Rattle.hs_compare.proofs.Prelude.{zip, flat_map, range_with_len, same_Some, append-nil, map-append, length_push, flat_map-append, length_map, range_append, ClientId, TraceId, Operation, Begin, Point, Crumb, End, Fire, Sample, Record, NumberedOperation, numbered_from, numbered_of, record_at, records_of, open_behind, OneMoreOperation, Sent, point_numbers, comings_of, sent_comings, coming_of, comes_at, points_by, HasGone, brought, Coming, RecordWalk}
use Rattle.std.specs.Option.{option_to_list}
use Rattle.std.proofs.lemmas.List.FromFn.{length-range_with_len}
use Rattle.hs_records.specs.Records.{record_in}
use Rattle.hs_client.specs.OneMore.{open_after, next_behind}
use Rattle.hs_client.proofs.OneMore.{open_push}
use Rattle.hs_compare.specs.Coming as samplers
use Rattle.hs_compare.proofs.Order.{beside_length}
use Rattle.hs_compare.specs.Points.{coming_seen, record_seen}
use Rattle.hs_compare.specs.declared.points.Seen.{Seen}

zip-push : {X Y : Type 0} (xs : List X) (ys : List Y) (x : X) (y : Y) → length xs ≡ length ys → zip (xs ++ x ∷ []) (ys ++ y ∷ []) ≡ zip xs ys ++ (x, y) ∷ []
zip-push [] [] x y same = refl
zip-push [] (b ∷ ys) x y same = absurd (omega arith)
zip-push (a ∷ xs) [] x y same = absurd (omega arith)
zip-push (a ∷ xs) (b ∷ ys) x y same = ap (λ r. (a, b) ∷ r) (zip-push xs ys x y (omega arith))

length-zip : {X Y : Type 0} (xs : List X) (ys : List Y) → length xs ≡ length ys → length (zip xs ys) ≡ length ys
length-zip [] [] same = refl
length-zip [] (b ∷ ys) same = absurd (omega arith)
length-zip (a ∷ xs) [] same = absurd (omega arith)
length-zip (a ∷ xs) (b ∷ ys) same = ap suc (length-zip xs ys (omega arith))

-- as many points as records
points_each : (ops : List NumberedOperation) → length (flat_map (λ (op : NumberedOperation). map (λ _. op.number) (record_at op)) ops) ≡ length (flat_map record_at ops)
points_each [] = refl
points_each (op ∷ ops) =
    let ih = points_each ops in
    let here = length_map (λ (r : Record). op.number) (record_at op) in
    let a = length-append (map (λ _. op.number) (record_at op)) (flat_map (λ (o : NumberedOperation). map (λ _. o.number) (record_at o)) ops) in
    let b = length-append (record_at op) (flat_map record_at ops) in
    omega (arith, ih, here, a, b)

-- at most one record for each operation
one_at_most : (op : NumberedOperation) → length (record_at op) ≤ 1
one_at_most op = one op.trace op.operation
  where
    one : (trace : Option TraceId) (operation : Operation) → length (record_in trace operation) ≤ 1
    one None operation = omega arith
    one (Some t) (Begin next) = omega arith
    one (Some t) (Point moment payload) = omega arith
    one (Some t) (Crumb node) = omega arith
    one (Some t) End = omega arith
    one (Some t) (Fire trigger) = omega arith
    one (Some t) (Sample moment auto value) = omega arith

numbered_few : (number : ℕ) (trace : Option TraceId) (ops : List Operation) → length (flat_map record_at (numbered_from number trace ops)) ≤ length ops
numbered_few number trace [] = omega arith
numbered_few number trace (op ∷ ops) =
    let here : NumberedOperation = record { number = number; trace = trace; operation = op } in
    let rest = numbered_from (number + 1) (open_behind trace op) ops in
    omega (arith, one_at_most here, length-append (record_at here) (flat_map record_at rest), numbered_few (number + 1) (open_behind trace op) ops)

pub records_few : (ops : List Operation) → length (records_of ops) ≤ length ops
records_few ops = numbered_few 0 None ops

abbrev pub coming_by : ClientId → ℕ × Record → samplers.Coming
coming_by client r = record { id = record { client = client; number = r.0 }; trace = r.1.trace; bytes = length r.1.payload }

abbrev pub sent_by : ℕ × samplers.Coming → Sent samplers.Coming
sent_by c = record { number = c.0; item = c.1 }

-- an operation that is no point
pub same_records : OneMoreOperation → (ops : List Operation) (op : Operation) → record_in (open_after None ops) op ≡ [] → records_of (ops ++ op ∷ []) ≡ records_of ops
same_records one ops op none =
    ap (flat_map record_at) (one ops op) ∙ flat_map-append record_at (numbered_of ops) (next_behind ops op ∷ []) ∙ ap (λ rs. records_of ops ++ (rs ++ [])) none ∙ append-nil (records_of ops)

same_numbers : OneMoreOperation → (ops : List Operation) (op : Operation) → record_in (open_after None ops) op ≡ [] → point_numbers (ops ++ op ∷ []) ≡ point_numbers ops
same_numbers one ops op none =
    ap (flat_map (λ (o : NumberedOperation). map (λ _. o.number) (record_at o))) (one ops op)
    ∙ flat_map-append (λ (o : NumberedOperation). map (λ _. o.number) (record_at o)) (numbered_of ops) (next_behind ops op ∷ [])
    ∙ ap (λ (rs : List Record). point_numbers ops ++ (map (λ _. length ops) rs ++ [])) none ∙ append-nil (point_numbers ops)

pub same_comings : OneMoreOperation → (client : ClientId) (ops : List Operation) (op : Operation) → record_in (open_after None ops) op ≡ [] → comings_of client (ops ++ op ∷ []) ≡ comings_of client ops
same_comings one client ops op none = ap (λ rs. map (coming_by client) (zip (range_with_len 0 (length rs)) rs)) (same_records one ops op none)

pub same_points : OneMoreOperation → (client : ClientId) (ops : List Operation) (op : Operation) → record_in (open_after None ops) op ≡ [] → points_by client (ops ++ op ∷ []) ≡ points_by client ops
same_points one client ops op none =
    ap₂ (λ ns cs. map comes_at (map sent_by (zip ns cs))) (same_numbers one ops op none) (same_comings one client ops op none)

-- an operation that is a point
more_records : OneMoreOperation → (ops : List Operation) (op : Operation) (r : Record) → record_in (open_after None ops) op ≡ r ∷ [] → records_of (ops ++ op ∷ []) ≡ records_of ops ++ r ∷ []
more_records one ops op r some =
    ap (flat_map record_at) (one ops op) ∙ flat_map-append record_at (numbered_of ops) (next_behind ops op ∷ []) ∙ ap (λ rs. records_of ops ++ (rs ++ [])) some

more_numbers : OneMoreOperation → (ops : List Operation) (op : Operation) (r : Record) → record_in (open_after None ops) op ≡ r ∷ [] → point_numbers (ops ++ op ∷ []) ≡ point_numbers ops ++ length ops ∷ []
more_numbers one ops op r some =
    ap (flat_map (λ (o : NumberedOperation). map (λ _. o.number) (record_at o))) (one ops op)
    ∙ flat_map-append (λ (o : NumberedOperation). map (λ _. o.number) (record_at o)) (numbered_of ops) (next_behind ops op ∷ [])
    ∙ ap (λ (rs : List Record). point_numbers ops ++ (map (λ _. length ops) rs ++ [])) some

pub more_comings : OneMoreOperation → (client : ClientId) (ops : List Operation) (op : Operation) (r : Record) → record_in (open_after None ops) op ≡ r ∷ []
    → comings_of client (ops ++ op ∷ []) ≡ comings_of client ops ++ coming_by client (length (records_of ops), r) ∷ []
more_comings one client ops op r some =
    let rs = records_of ops in
    let n = length rs in
    let numbers : range_with_len 0 (length (rs ++ r ∷ [])) ≡ range_with_len 0 n ++ n ∷ [] =
    ap (range_with_len 0) (length_push rs r) ∙ range_append 0 n 1 ∙ ap (λ k. range_with_len 0 n ++ k ∷ []) (let e : 0 + n ≡ n = omega arith in e) in
    ap (λ xs. map (coming_by client) (zip (range_with_len 0 (length xs)) xs)) (more_records one ops op r some)
    ∙ ap (λ ns. map (coming_by client) (zip ns (rs ++ r ∷ []))) numbers
    ∙ ap (map (coming_by client)) (zip-push (range_with_len 0 n) rs n r (length-range_with_len 0 n))
    ∙ map-append (coming_by client) (zip (range_with_len 0 n) rs) ((n, r) ∷ [])

pub more_points : OneMoreOperation → (client : ClientId) (ops : List Operation) (op : Operation) (r : Record) → record_in (open_after None ops) op ≡ r ∷ []
    → points_by client (ops ++ op ∷ []) ≡ points_by client ops ++ comes_at (record { number = length ops; item = coming_by client (length (records_of ops), r) }) ∷ []
more_points one client ops op r some =
    let c = coming_by client (length (records_of ops), r) in
    ap₂ (λ ns cs. map comes_at (map sent_by (zip ns cs))) (more_numbers one ops op r some) (more_comings one client ops op r some)
    ∙ ap (λ s. map comes_at (map sent_by s)) (zip-push (point_numbers ops) (comings_of client ops) (length ops) c (beside_length client ops))
    ∙ ap (map comes_at) (map-append sent_by (zip (point_numbers ops) (comings_of client ops)) ((length ops, c) ∷ []))
    ∙ map-append comes_at (sent_comings client ops) (record { number = length ops; item = c } ∷ [])

-- ---- steps of a walk

seen_none : (rs : List Record) → None ≡ record_seen rs → rs ≡ []
seen_none [] h = refl
seen_none (r ∷ rs) h = absurd (cc)

pub gone_quiet : OneMoreOperation → (ops : List Operation) (op : Operation) (walk next : RecordWalk) → HasGone ops walk → None ≡ record_seen (record_in walk.current op) → next.count ≡ walk.count
    → next.current ≡ open_behind walk.current op → HasGone (ops ++ op ∷ []) next
gone_quiet one ops op walk next gone none count current =
    let quiet : record_in (open_after None ops) op ≡ [] = ap (λ t. record_in t op) (sym gone.current) ∙ seen_none (record_in walk.current op) none in
    record {
      current = current ∙ ap (λ t. open_behind t op) gone.current ∙ sym (open_push None ops op);
      count = count ∙ gone.count ∙ ap length (sym (same_records one ops op quiet));
    }

seen_some : (current : Option TraceId) (op : Operation) (seen : Seen) → Some seen ≡ record_seen (record_in current op)
    → (r : Record) × (record_in current op ≡ r ∷ []) × (seen ≡ record { trace = r.trace; bytes = length r.payload })
seen_some None op seen h = absurd (cc)
seen_some (Some trace) (Begin other) seen h = absurd (cc)
seen_some (Some trace) (Point moment payload) seen h =
    (record { trace = trace; moment = moment; payload = payload }, refl, same_Some seen (record { trace = trace; bytes = length payload }) h)
seen_some (Some trace) (Crumb node) seen h = absurd (cc)
seen_some (Some trace) End seen h = absurd (cc)
seen_some (Some trace) (Fire trigger) seen h = absurd (cc)
seen_some (Some trace) (Sample moment auto value) seen h = absurd (cc)

pub gone_seen : OneMoreOperation → (ops : List Operation) (op : Operation) (walk next : RecordWalk) (seen : Seen) → HasGone ops walk → Some seen ≡ record_seen (record_in walk.current op) → next.count ≡ walk.count + 1
    → next.current ≡ open_behind walk.current op → HasGone (ops ++ op ∷ []) next
gone_seen one ops op walk next seen gone some count current =
    let found = seen_some walk.current op seen some in
    let there : record_in (open_after None ops) op ≡ found.0 ∷ [] = ap (λ t. record_in t op) (sym gone.current) ∙ found.1 in
    record {
      current = current ∙ ap (λ t. open_behind t op) gone.current ∙ sym (open_push None ops op);
      count = count ∙ ap (λ k. k + 1) gone.count ∙ sym (length_push (records_of ops) found.0) ∙ ap length (sym (more_records one ops op found.0 there));
    }

-- what the operation brings, by what is known before it
pub brought_by : (ops : List Operation) (op : Operation) (walk : RecordWalk) (found : Option Seen) → HasGone ops walk → found ≡ record_seen (record_in walk.current op)
    → option_map (coming_seen walk.client walk.count) found ≡ brought walk.client ops op
brought_by ops op walk found gone is =
    ap (option_map (coming_seen walk.client walk.count)) is ∙ ap₂ (λ n t. option_map (coming_seen walk.client n) (record_seen (record_in t op))) gone.count gone.current

-- ---- what was brought

pub brought_none : (client : ClientId) (ops : List Operation) (op : Operation) → None ≡ brought client ops op → record_in (open_after None ops) op ≡ []
brought_none client ops op none = by (record_in (open_after None ops) op) none
  where
    by : (rs : List Record) → None ≡ option_map (coming_seen client (length (records_of ops))) (record_seen rs) → rs ≡ []
    by [] h = refl
    by (r ∷ rs) h = absurd (cc)

pub brought_some : (client : ClientId) (ops : List Operation) (op : Operation) (coming : Coming) → Some coming ≡ brought client ops op
    → (r : Record) × (record_in (open_after None ops) op ≡ r ∷ []) × (coming ≡ coming_seen client (length (records_of ops)) (record { trace = r.trace; bytes = length r.payload }))
brought_some client ops op coming some = by (record_seen (record_in (open_after None ops) op)) refl some
  where
    by : (found : Option Seen) → found ≡ record_seen (record_in (open_after None ops) op) → Some coming ≡ option_map (coming_seen client (length (records_of ops))) found
        → (r : Record) × (record_in (open_after None ops) op ≡ r ∷ []) × (coming ≡ coming_seen client (length (records_of ops)) (record { trace = r.trace; bytes = length r.payload }))
    by None is h = absurd (cc)
    by (Some seen) is h =
        let found = seen_some (open_after None ops) op seen is in (
          found.0,
          found.1,
          same_Some coming (coming_seen client (length (records_of ops)) seen) h ∙ ap (coming_seen client (length (records_of ops))) found.2,
        )

-- it joins the records
pub joined_on : OneMoreOperation → (client : ClientId) (ops : List Operation) (op : Operation) (first all more : List Coming) (found : Option Coming) → found ≡ brought client ops op
    → map coming_of all ≡ map coming_of first ++ comings_of client ops → more ≡ all ++ option_to_list found → map coming_of more ≡ map coming_of first ++ comings_of client (ops ++ op ∷ [])
joined_on one client ops op first all more None none joined is =
    ap (map coming_of) (is ∙ append-nil all) ∙ joined ∙ ap (λ cs. map coming_of first ++ cs) (sym (same_comings one client ops op (brought_none client ops op none)))
joined_on one client ops op first all more (Some coming) some joined is =
    let found = brought_some client ops op coming some in
    ap (map coming_of) is ∙ map-append coming_of all (coming ∷ []) ∙ ap (λ cs. cs ++ coming_of coming ∷ []) joined
    ∙ append_assoc (map coming_of first) (comings_of client ops) (coming_of coming ∷ [])
    ∙ ap (λ (c : Coming). map coming_of first ++ (comings_of client ops ++ coming_of c ∷ [])) found.2
    ∙ ap (λ cs. map coming_of first ++ cs) (sym (more_comings one client ops op found.0 found.1))
