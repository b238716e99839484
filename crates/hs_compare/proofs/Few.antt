-- How many records a valid workload has at most, how many of them a ring keeps, and how many bytes they carry.
use Rattle.std.proofs.Common.{◌≡◌, ℕ, suc, ◌+◌, ◌*◌, ◌^◌, ◌<◌, ◌≤◌, List, [], ◌∷◌, ◌++◌, length, map, Option, Some, None, sym, ap, ◌∙◌, subst, arith, length-append, unwrap_or}
use Rattle.hs_compare.proofs.Prelude.{zip, slice_get, AllByRecursion, flat_map, range_with_len, sum_by-cons, length_map, ClientId, TraceId, MAX_OPERATIONS, is_among, client_at, Operation, Begin, Point, Crumb, End, Fire, Sample, PlainWorkload, Record, numbered_from, record_at, records_of, open_behind, operations_at, comings_of, all_comings, named_in, RingKeepsEachOnce, tail_keeps, ring_keeps, IsValid, operations_few, Coming, is_same, times, coming_of, bytes_in, Ringing, ringing_by}
use Rattle.std.proofs.lemmas.List.Sums.{sum_by-append}
use Rattle.std.proofs.lemmas.List.Sorted.{length_permutation}
use Rattle.hs_base.proofs.Filters.{filter_few}
use Rattle.hs_base.specs.declared.limits.TheConstants.{MAX_PAYLOAD}
use Rattle.hs_records.specs.Plain.{PlainSettings}
use Rattle.hs_compare.specs.Coming as samplers
use Rattle.hs_records.specs.Validity.{IsOperation, IsClient, workload_pieces}
use Rattle.hs_records.specs.declared.setting.Setting.TheVariants as settings
use Rattle.hs_compare.proofs.Counted.{times_once}
use Rattle.hs_compare.proofs.Lined.{bytes_by, bytes_same}
use Rattle.hs_compare.proofs.Outcomed.{after_all, names_all}
use Rattle.hs_compare.proofs.Pointed.{coming_by, records_few}

-- ---- a client

short_from : (version : ℕ) (set : PlainSettings) (number : ℕ) (trace : Option TraceId) (ops : List Operation) → AllByRecursion (IsOperation version set) ops
    → AllByRecursion (λ (r : Record). length r.payload ≤ MAX_PAYLOAD) (flat_map record_at (numbered_from number trace ops))
short_from version set number trace [] all = tt
short_from version set number None (op ∷ ops) all = short_from version set (number + 1) (open_behind None op) ops all.1
short_from version set number (Some t) (Begin next ∷ ops) all = short_from version set (number + 1) (Some next) ops all.1
short_from version set number (Some t) (Point moment payload ∷ ops) all = (all.0.1, short_from version set (number + 1) (Some t) ops all.1)
short_from version set number (Some t) (Crumb node ∷ ops) all = short_from version set (number + 1) (Some t) ops all.1
short_from version set number (Some t) (End ∷ ops) all = short_from version set (number + 1) None ops all.1
short_from version set number (Some t) (Fire trigger ∷ ops) all = short_from version set (number + 1) (Some t) ops all.1
short_from version set number (Some t) (Sample moment auto value ∷ ops) all = short_from version set (number + 1) (Some t) ops all.1

comings_few : (client : ClientId) (ns : List ℕ) (rs : List Record) → length (map (coming_by client) (zip ns rs)) ≤ length rs
comings_few client [] rs = omega arith
comings_few client (n ∷ ns) [] = omega arith
comings_few client (n ∷ ns) (r ∷ rs) = omega (arith, comings_few client ns rs)

comings_short : (client : ClientId) (ns : List ℕ) (rs : List Record) → AllByRecursion (λ (r : Record). length r.payload ≤ MAX_PAYLOAD) rs → bytes_by (map (coming_by client) (zip ns rs)) ≤ length rs * MAX_PAYLOAD
comings_short client [] rs all = omega arith
comings_short client (n ∷ ns) [] all = omega arith
comings_short client (n ∷ ns) (r ∷ rs) all =
    let first = all.0 in
    omega (arith, first, comings_short client ns rs all.1, sum_by-cons (λ (c : samplers.Coming). c.bytes) (coming_by client (n, r)) (map (coming_by client) (zip ns rs)))

client_few : (size : ℕ) (client : ClientId) (ops : List Operation) → length (comings_of client ops) ≤ length ops
client_few size client ops = omega (arith, comings_few client (range_with_len 0 (length (records_of ops))) (records_of ops), records_few ops)

client_short : (version : ℕ) (set : PlainSettings) (client : ClientId) (ops : List Operation) → AllByRecursion (IsOperation version set) ops → bytes_by (comings_of client ops) ≤ length ops * MAX_PAYLOAD
client_short version set client ops all =
    omega (arith, comings_short client (range_with_len 0 (length (records_of ops))) (records_of ops) (short_from version set 0 None ops all), records_few ops)

-- ---- all clients

module _ (version : ℕ) (set : PlainSettings) (who : ℕ → ClientId) (ops_at : ℕ → List Operation) where
  abbrev comings_at : ℕ → List samplers.Coming
  comings_at place = comings_of (who place) (ops_at place)

  abbrev AreRows : ℕ → List (List Operation) → Type 0
  AreRows first clients = (i : ℕ) → ops_at (first + i) ≡ unwrap_or (slice_get clients i) []

  row_here : (first : ℕ) (ops : List Operation) (clients : List (List Operation)) → AreRows first (ops ∷ clients) → ops_at first ≡ ops
  row_here first ops clients rows = ap ops_at (let e : first ≡ first + 0 = omega arith in e) ∙ rows 0

  rows_behind : (first : ℕ) (ops : List Operation) (clients : List (List Operation)) → AreRows first (ops ∷ clients) → AreRows (first + 1) clients
  rows_behind first ops clients rows i = ap ops_at (let e : first + 1 + i ≡ first + suc i = omega arith in e) ∙ rows (suc i)

  rows_few : (first : ℕ) (clients : List (List Operation)) → AreRows first clients → length (flat_map comings_at (range_with_len first (length clients))) ≤ workload_pieces set.size clients
  rows_few first [] rows = omega arith
  rows_few first (ops ∷ clients) rows =
      let rest = flat_map comings_at (range_with_len (first + 1) (length clients)) in
      let here : length (comings_at first) ≤ length ops = subst (λ (o : List Operation). length (comings_of (who first) o) ≤ length ops) (sym (row_here first ops clients rows)) (client_few set.size (who first) ops) in
      omega (arith, here, operations_few set.size ops, length-append (comings_at first) rest, rows_few (first + 1) clients (rows_behind first ops clients rows))

  rows_short : (first : ℕ) (clients : List (List Operation)) → AreRows first clients → AllByRecursion (IsClient version set) clients
      → bytes_by (flat_map comings_at (range_with_len first (length clients))) ≤ workload_pieces set.size clients * MAX_PAYLOAD
  rows_short first [] rows all = omega arith
  rows_short first (ops ∷ clients) rows all =
      let rest = flat_map comings_at (range_with_len (first + 1) (length clients)) in
      let here : bytes_by (comings_at first) ≤ length ops * MAX_PAYLOAD =
      subst (λ (o : List Operation). bytes_by (comings_of (who first) o) ≤ length ops * MAX_PAYLOAD) (sym (row_here first ops clients rows)) (client_short version set (who first) ops all.0.words) in
      omega (arith, here, operations_few set.size ops, sum_by-append (λ (c : samplers.Coming). c.bytes) (comings_at first) rest, rows_short (first + 1) clients (rows_behind first ops clients rows) all.1)

-- ---- a valid workload

module _ (W : PlainWorkload) (valid : IsValid W) where
  are_rows : (i : ℕ) → operations_at W (0 + i) ≡ unwrap_or (slice_get W.clients i) []
  are_rows i = ap (operations_at W) (let e : 0 + i ≡ i = omega arith in e)

  pub all_few : length (all_comings W) ≤ MAX_OPERATIONS
  all_few = omega (arith, rows_few W.version W.settings (client_at W.settings.clients) (operations_at W) 0 W.clients are_rows, valid.few)

  all_short : bytes_by (all_comings W) < 2 ^ 64
  all_short = omega (arith, rows_short W.version W.settings (client_at W.settings.clients) (operations_at W) 0 W.clients are_rows valid.each, valid.few)

  pub records_fit : (all : List Coming) → map coming_of all ≡ all_comings W → length all ≤ MAX_OPERATIONS
  records_fit all are = omega (arith, all_few, ap length are, length_map coming_of all)

  pub bytes_fit : (all : List Coming) → map coming_of all ≡ all_comings W → bytes_in all < 2 ^ 64
  bytes_fit all are = omega (arith, all_short, bytes_same all, ap bytes_by are)

  pub ring_fits : RingKeepsEachOnce → (room : ℕ) (ring : Ringing) → ring ≡ ringing_by room (after_all room W) → length ring.traces ≤ MAX_OPERATIONS
  ring_fits once room ring is =
      let parts = once W room (valid.head settings.Stride).0 in
      let kept = ap (λ (r : Ringing). length r.traces) is in
      let many = length_map (λ (c : samplers.Coming). c.trace) (ring_keeps room W) in
      let both = length_permutation (tail_keeps W) (ring_keeps room W ++ parts.0) parts.1 in
      let long = length-append (ring_keeps room W) parts.0 in
      let tail = filter_few (λ (c : samplers.Coming). is_among (named_in W) c.trace) (all_comings W) in
      omega (arith, all_few, kept, many, both, long, tail)

-- the ring names no trace twice
pub named_once : (W : PlainWorkload) (room : ℕ) (ring : Ringing) → ring ≡ ringing_by room (after_all room W) → (trace : TraceId) → times ring.named trace ≤ 1
named_once W room ring is trace =
    let same = ap (λ (r : Ringing). times r.named trace) is in
    omega (arith, same, (names_all W room).once (is_same trace), times_once (named_in W) trace)
