-- A report takes the entries of its trace apart, into those that were reported and the others, and shows each by the record that it
-- names. Records stand in order, and so does what is left of them when some are taken out.
use Rattle.std.proofs.Common.{◌≡◌, ◌⊎◌, inl, inr, ℕ, zero, suc, ◌+◌, ◌*◌, ◌/◌, ◌%◌, ◌<◌, ◌≤◌, Bool, true, false, ◌&&◌, not, cond, List, [], ◌∷◌, ◌++◌, length, refl, sym, ap, subst, ◌∙◌, Option, Some, arith, map, filter, filter_map, option_map, slice_get, eqb-true, eq-or-lt_of_le, eq-zero-or-pos, nat_eq, IsPermutation}
use Rattle.hs_law_outcome.proofs.Prelude.{AllByRecursion, flat_map, range_with_len, cons_option, mod-lt, div-add-mod', map-append, all_each, all_filter, all_append, all_unmap, ClientId, RecordId, TraceId, Placed, Precedes, Entry, is_reported, PlainWorkload, Record, records_of, operations_at, place_of, client_at, outcome_of, Named, named_from, client_records, all_records, name_of, placed_ids, ComeInOrder, EachRecordHasOneEntry, whole_of, is_of, report_of, reported_traces}
use Rattle.std.proofs.Math.Nat.{mod-zero, div-zero}
use Rattle.std.proofs.lemmas.Nat.{le-div}
use Rattle.std.proofs.lemmas.List.Sorted.{IsPermutation-filter_both, IsPermutation-map}
use Rattle.hs_base.proofs.Alls.{all_map}
use Rattle.hs_law_outcome.specs.Records.{trace_records, IsWholeRecord, entry_ids, ShowsItsTrace, ReportsShowTheirTraces}
use Rattle.hs_law_outcome.specs.Reports.{record_of}
use Rattle.hs_law_outcome.proofs.Lists.{filter_passes}

-- ---- each name is that of a record

-- the record of a name is there, and of its trace
pub record IsKnown (W : PlainWorkload) (name : Named) : Type 0 where
  pub known : Record
  pub there : record_of W name.id ≡ Some known
  pub traced : known.trace ≡ name.trace

module _ {X : Type 0} where
  all_flat : (P : X → Type 0) (f : ℕ → List X) (start count : ℕ) → ((n : ℕ) → AllByRecursion P (f n)) → AllByRecursion P (flat_map f (range_with_len start count))
  all_flat P f start zero each = tt
  all_flat P f start (suc count) each = all_append P (f start) (flat_map f (range_with_len (start + 1) count)) (each start) (all_flat P f (start + 1) count each)

place_back : (each place : ℕ) → place_of each (place / each) (place % each) ≡ place
place_back each place = div-add-mod' place each

module _ (W : PlainWorkload) (place : ℕ) where
  abbrev here : ClientId
  here = client_at W.settings.clients place

  found_here : (n : ℕ) (r : Record) → slice_get (records_of (operations_at W place)) n ≡ Some r → record_of W (record { client = here; number = n }) ≡ Some r
  found_here n r h = ap (λ (p : ℕ). slice_get (records_of (operations_at W p)) n) (place_back W.settings.clients place) ∙ h

  known_from : (start : ℕ) (records : List Record) → ((i : ℕ) (r : Record) → slice_get records i ≡ Some r → record_of W (record { client = here; number = start + i }) ≡ Some r)
      → AllByRecursion (IsKnown W) (named_from here start records)
  known_from start [] found = tt
  known_from start (r ∷ records) found =
      let zeroth : start + 0 ≡ start = omega arith in (
        record { known = r; there = ap (λ (n : ℕ). record_of W (record { client = here; number = n })) (sym zeroth) ∙ found 0 r refl; traced = refl },
        known_from (start + 1) records
            (λ i q h. let more : start + 1 + i ≡ start + suc i = omega arith in ap (λ (n : ℕ). record_of W (record { client = here; number = n })) more ∙ found (suc i) q h),
      )

  client_known : AllByRecursion (IsKnown W) (client_records W place)
  client_known =
      known_from 0 (records_of (operations_at W place))
      (λ i r h. let same : 0 + i ≡ i = omega arith in ap (λ (n : ℕ). record_of W (record { client = here; number = n })) same ∙ found_here i r h)

pub all_known : (W : PlainWorkload) → AllByRecursion (IsKnown W) (all_records W)
all_known W = all_flat (IsKnown W) (client_records W) 0 (length W.clients) (client_known W)

-- ---- names in order

abbrev ids_of : List Named → List RecordId
ids_of names = map (λ (n : Named). n.id) names

order_append : (a b : List RecordId) → ComeInOrder a → ComeInOrder b → AllByRecursion (λ id. AllByRecursion (Precedes id) b) a → ComeInOrder (a ++ b)
order_append [] b first second across = second
order_append (id ∷ a) b first second across = (all_append (Precedes id) a b first.0 across.0, order_append a b first.1 second across.1)

number_precedes : (client : ClientId) (a b : ℕ) → a < b → Precedes (record { client = client; number = a }) (record { client = client; number = b })
number_precedes client a b h = inr (refl, inr (refl, h))

-- those of a client have that client, and numbers from one on
record IsOfClient (client : ClientId) (least : ℕ) (id : RecordId) : Type 0 where
  client_is : id.client ≡ client
  number : least ≤ id.number

of_client : (client : ClientId) (least start : ℕ) (records : List Record) → least ≤ start → AllByRecursion (IsOfClient client least) (ids_of (named_from client start records))
of_client client least start [] low = tt
of_client client least start (r ∷ records) low = (record { client_is = refl; number = low }, of_client client least (start + 1) records (omega (arith, low)))

behind_in_client : (client : ClientId) (n : ℕ) (id : RecordId) → IsOfClient client (n + 1) id → Precedes (record { client = client; number = n }) id
behind_in_client client n id h =
    let low = h.number in
    inr (ap (λ (c : ClientId). c.node) (sym h.client_is), inr (ap (λ (c : ClientId). c.number) (sym h.client_is), omega (arith, low)))

client_in_order : (client : ClientId) (start : ℕ) (records : List Record) → ComeInOrder (ids_of (named_from client start records))
client_in_order client start [] = tt
client_in_order client start (r ∷ records) = (
  all_each (IsOfClient client (start + 1)) (Precedes (record { client = client; number = start })) (ids_of (named_from client (start + 1) records)) (behind_in_client client start)
      (of_client client (start + 1) (start + 1) records (omega arith)),
  client_in_order client (start + 1) records,
)

-- a client stands before those at later places
abbrev ClientBefore : ClientId → ClientId → Type 0
ClientBefore a b = (a.node < b.node) ⊎ ((a.node ≡ b.node) × (a.number < b.number))

places_rise : (each p q : ℕ) → p < q → ClientBefore (client_at each p) (client_at each q)
places_rise each p q h =
    elim (eq-zero-or-pos each) as (λ _. ClientBefore (client_at each p) (client_at each q)) [
      | inl none ↦ subst (λ (e : ℕ). ClientBefore (client_at e p) (client_at e q)) (sym none) (inr (div-zero p ∙ sym (div-zero q), rest_rises))
      | inr some ↦
          let a = div-add-mod' p each in
          let b = div-add-mod' q each in
          let last = mod-lt q some in
          let first = mod-lt p some in
          let low : (p / each) * each ≤ q = omega (arith, a, h) in
          elim (eq-or-lt_of_le (le-div (p / each) q each some low)) as (λ _. ClientBefore (client_at each p) (client_at each q)) [
            | inl same ↦ let rows : (p / each) * each ≡ (q / each) * each = ap (λ (n : ℕ). n * each) same in inr (same, omega (arith, a, b, rows, h))
            | inr less ↦ inl less
          ]
    ]
  where
    rest_rises : p % 0 < q % 0
    rest_rises = let a = mod-zero p in let b = mod-zero q in omega (arith, a, b, h)

across_case : (a b : ClientId) (id other : RecordId) → ClientBefore a b → id.client ≡ a → other.client ≡ b → Precedes id other
across_case a b id other (inl less) e f =
    let m = ap (λ (c : ClientId). c.node) e in let n = ap (λ (c : ClientId). c.node) f in inl (omega (arith, m, n, less))
across_case a b id other (inr more) e f =
    let m = ap (λ (c : ClientId). c.node) e in
    let n = ap (λ (c : ClientId). c.node) f in
    let k = ap (λ (c : ClientId). c.number) e in
    let l = ap (λ (c : ClientId). c.number) f in
    let less = more.1 in
    inr (m ∙ more.0 ∙ sym n, inl (omega (arith, k, l, less)))

module _ (W : PlainWorkload) where
  abbrev client_ids : ℕ → List RecordId
  client_ids place = ids_of (client_records W place)

  -- those at later places
  record IsLater (place : ℕ) (id : RecordId) : Type 0 where
    at : ℕ
    behind : place < at
    client_is : id.client ≡ client_at W.settings.clients at

  later_one : (place at : ℕ) → place < at → AllByRecursion (IsLater place) (client_ids at)
  later_one place at h =
      all_each (IsOfClient (client_at W.settings.clients at) 0) (IsLater place) (client_ids at) (λ id o. record { at = at; behind = h; client_is = o.client_is })
      (of_client (client_at W.settings.clients at) 0 0 (records_of (operations_at W at)) (omega arith))

  later_all : (place start count : ℕ) → place < start → AllByRecursion (IsLater place) (flat_map client_ids (range_with_len start count))
  later_all place start zero h = tt
  later_all place start (suc count) h =
      all_append (IsLater place) (client_ids start) (flat_map client_ids (range_with_len (start + 1) count)) (later_one place start h) (later_all place (start + 1) count (omega (arith, h)))

  across : (place : ℕ) (id : RecordId) → id.client ≡ client_at W.settings.clients place → (later : List RecordId) → AllByRecursion (IsLater place) later → AllByRecursion (Precedes id) later
  across place id e later all =
      all_each (IsLater place) (Precedes id) later
      (λ other l. across_case (client_at W.settings.clients place) (client_at W.settings.clients l.at) id other (places_rise W.settings.clients place l.at l.behind) e l.client_is) all

  clients_in_order : (start count : ℕ) → ComeInOrder (flat_map client_ids (range_with_len start count))
  clients_in_order start zero = tt
  clients_in_order start (suc count) =
      let rest = flat_map client_ids (range_with_len (start + 1) count) in
      order_append (client_ids start) rest (client_in_order (client_at W.settings.clients start) 0 (records_of (operations_at W start))) (clients_in_order (start + 1) count)
      (all_each (IsOfClient (client_at W.settings.clients start) 0) (λ id. AllByRecursion (Precedes id) rest) (client_ids start)
      (λ id o. across start id o.client_is rest (later_all start (start + 1) count (omega arith)))
      (of_client (client_at W.settings.clients start) 0 0 (records_of (operations_at W start)) (omega arith)))

  ids_flat : (places : List ℕ) → ids_of (flat_map (client_records W) places) ≡ flat_map client_ids places
  ids_flat [] = refl
  ids_flat (place ∷ places) =
      map-append (λ (n : Named). n.id) (client_records W place) (flat_map (client_records W) places) ∙ ap (λ rest. client_ids place ++ rest) (ids_flat places)

  names_in_order : ComeInOrder (ids_of (all_records W))
  names_in_order = subst ComeInOrder (sym (ids_flat (range_with_len 0 (length W.clients)))) (clients_in_order 0 (length W.clients))

-- ---- what is left of a list

order_case : (entry : Entry) (kept : List Entry) (b : Bool) → AllByRecursion (Precedes entry.id) (entry_ids kept) → ComeInOrder (entry_ids kept) → ComeInOrder (entry_ids (cond b (entry ∷ kept) kept))
order_case entry kept true first rest = (first, rest)
order_case entry kept false first rest = rest

order_filter : (test : Entry → Bool) (entries : List Entry) → ComeInOrder (entry_ids entries) → ComeInOrder (entry_ids (filter test entries))
order_filter test [] order = tt
order_filter test (entry ∷ entries) order =
    order_case entry (filter test entries) (test entry)
    (all_map (Precedes entry.id) (λ (e : Entry). e.id) (filter test entries)
    (all_filter (λ (e : Entry). Precedes entry.id e.id) test entries (all_unmap (Precedes entry.id) (λ (e : Entry). e.id) entries order.0)))
    (order_filter test entries order.1)

-- a filter by two tests is one behind the other
both_case : (a b : Bool) (entry : Entry) (kept rest : List Entry) (second : Entry → Bool) → second entry ≡ b → kept ≡ filter second rest → cond (a && b) (entry ∷ kept) kept ≡ filter second (cond a (entry ∷ rest) rest)
both_case false b entry kept rest second e h = h
both_case true true entry kept rest second e h = ap (λ kept. entry ∷ kept) h ∙ ap (λ t. cond t (entry ∷ filter second rest) (filter second rest)) (sym e)
both_case true false entry kept rest second e h = h ∙ ap (λ t. cond t (entry ∷ filter second rest) (filter second rest)) (sym e)

filter_both : (first second : Entry → Bool) (entries : List Entry) → filter (λ (e : Entry). first e && second e) entries ≡ filter second (filter first entries)
filter_both first second [] = refl
filter_both first second (entry ∷ entries) =
    both_case (first entry) (second entry) entry (filter (λ (e : Entry). first e && second e) entries) (filter first entries) second refl (filter_both first second entries)

-- ---- a report

named_case : (trace : TraceId) (entry : Entry) (kept : List Entry) (names : List Named) (b : Bool) → names ≡ map name_of kept → cond b (name_of entry ∷ names) names ≡ map name_of (cond b (entry ∷ kept) kept)
named_case trace entry kept names true h = ap (λ rest. name_of entry ∷ rest) h
named_case trace entry kept names false h = h

named_filter : (trace : TraceId) (entries : List Entry) → filter (λ (r : Named). nat_eq r.trace.0 trace.0) (map name_of entries) ≡ map name_of (filter (is_of trace) entries)
named_filter trace [] = refl
named_filter trace (entry ∷ entries) =
    named_case trace entry (filter (is_of trace) entries) (filter (λ (r : Named). nat_eq r.trace.0 trace.0) (map name_of entries)) (is_of trace entry) (named_filter trace entries)

ids_named : (entries : List Entry) → ids_of (map name_of entries) ≡ entry_ids entries
ids_named [] = refl
ids_named (entry ∷ entries) = ap (λ rest. entry.id ∷ rest) (ids_named entries)

pub same_trace : (a b : TraceId) → nat_eq a.0 b.0 ≡ true → a ≡ b
same_trace a b h = ap (λ (n : ℕ). record { 0 = n }) (eqb-true a.0 b.0 h)

-- an entry of this trace whose record is there
record IsShown (W : PlainWorkload) (trace : TraceId) (entry : Entry) : Type 0 where
  known : IsKnown W (name_of entry)
  traced : entry.trace ≡ trace

module _ (W : PlainWorkload) (trace : TraceId) where
  abbrev shown : Entry → Record → Placed
  shown entry r = record { id = entry.id; moment = r.moment; payload = r.payload }

  whole_is : (entry : Entry) (s : IsShown W trace entry) → whole_of W entry ≡ Some (shown entry s.known.known)
  whole_is entry s = ap (option_map (shown entry)) s.known.there

  shown_ids : (entries : List Entry) → AllByRecursion (IsShown W trace) entries → placed_ids (filter_map (whole_of W) entries) ≡ entry_ids entries
  shown_ids [] all = refl
  shown_ids (entry ∷ entries) all =
      ap (λ o. placed_ids (cons_option o (filter_map (whole_of W) entries))) (whole_is entry all.0) ∙ ap (λ rest. entry.id ∷ rest) (shown_ids entries all.1)

  shown_whole : (entries : List Entry) → AllByRecursion (IsShown W trace) entries → AllByRecursion (IsWholeRecord W trace) (filter_map (whole_of W) entries)
  shown_whole [] all = tt
  shown_whole (entry ∷ entries) all =
      let known = all.0.known in
      let whole : IsWholeRecord W trace (shown entry known.known) =
      known.there ∙ ap (λ (t : TraceId). Some (record { trace = t; moment = known.known.moment; payload = known.known.payload })) (known.traced ∙ all.0.traced)
      in
      subst (λ (o : Option Placed). AllByRecursion (IsWholeRecord W trace) (cons_option o (filter_map (whole_of W) entries))) (sym (whole_is entry all.0)) (whole, shown_whole entries all.1)

  pub shows : (entries : List Entry) → map name_of entries ≡ all_records W → ShowsItsTrace W (report_of W entries trace)
  shows entries named =
      let of_trace = filter (is_of trace) entries in
      let reported = λ (e : Entry). is_reported e.fate in
      let lost = λ (e : Entry). not (is_reported e.fate) in
      let kept = filter_both (is_of trace) reported entries in
      let gone = filter_both (is_of trace) lost entries in
      let known : AllByRecursion (λ (e : Entry). IsKnown W (name_of e)) entries = all_unmap (IsKnown W) name_of entries (subst (AllByRecursion (IsKnown W)) (sym named) (all_known W)) in
      let shown_all : AllByRecursion (IsShown W trace) of_trace =
      both_all of_trace (all_filter (λ (e : Entry). IsKnown W (name_of e)) (is_of trace) entries known) (filter_passes (is_of trace) entries)
      in
      let shown_kept : AllByRecursion (IsShown W trace) (filter (λ (e : Entry). is_of trace e && is_reported e.fate) entries) =
      subst (AllByRecursion (IsShown W trace)) (sym kept) (all_filter (IsShown W trace) reported of_trace shown_all)
      in
      let order : ComeInOrder (entry_ids entries) = subst ComeInOrder (ap ids_of (sym named) ∙ ids_named entries) (names_in_order W) in
      let ids = shown_ids (filter (λ (e : Entry). is_of trace e && is_reported e.fate) entries) shown_kept in
      let apart : IsPermutation (entry_ids of_trace) (entry_ids (filter reported of_trace ++ filter lost of_trace)) =
      IsPermutation-map (λ (e : Entry). e.id) of_trace (filter reported of_trace ++ filter lost of_trace) (IsPermutation-filter_both reported lost (λ e. refl) of_trace)
      in
      let names : ids_of (trace_records W trace) ≡ entry_ids of_trace =
      ap (λ (names : List Named). ids_of (filter (λ (r : Named). nat_eq r.trace.0 trace.0) names)) (sym named) ∙ ap ids_of (named_filter trace entries) ∙ ids_named of_trace
      in
      let joined : entry_ids (filter reported of_trace ++ filter lost of_trace)
      ≡ placed_ids (report_of W entries trace).records ++ entry_ids (report_of W entries trace).gaps =
      map-append (λ (e : Entry). e.id) (filter reported of_trace) (filter lost of_trace)
      ∙ ap (λ (front : List RecordId). front ++ entry_ids (filter lost of_trace)) (ap entry_ids (sym kept) ∙ sym ids)
      ∙ ap (λ (gaps : List Entry). placed_ids (report_of W entries trace).records ++ entry_ids gaps) (sym gone)
      in
      record {
        all = subst (λ (names : List RecordId). IsPermutation names (placed_ids (report_of W entries trace).records ++ entry_ids (report_of W entries trace).gaps)) (sym names)
            (subst (IsPermutation (entry_ids of_trace)) joined apart);
        whole = shown_whole (filter (λ (e : Entry). is_of trace e && is_reported e.fate) entries) shown_kept;
        lost =
            subst (AllByRecursion (λ (e : Entry). is_reported e.fate ≡ false)) (sym gone)
            (all_each (λ (e : Entry). not (is_reported e.fate) ≡ true) (λ (e : Entry). is_reported e.fate ≡ false) (filter lost of_trace) (λ e h. unmarked (is_reported e.fate) h)
            (filter_passes lost of_trace));
        records_in_order = subst ComeInOrder (sym ids) (order_filter (λ (e : Entry). is_of trace e && is_reported e.fate) entries order);
        gaps_in_order = order_filter (λ (e : Entry). is_of trace e && not (is_reported e.fate)) entries order;
      }
    where
      unmarked : (b : Bool) → not b ≡ true → b ≡ false
      unmarked true h = sym h
      unmarked false h = refl

      both_all : (entries : List Entry) → AllByRecursion (λ (e : Entry). IsKnown W (name_of e)) entries → AllByRecursion (λ (e : Entry). is_of trace e ≡ true) entries → AllByRecursion (IsShown W trace) entries
      both_all [] a b = tt
      both_all (entry ∷ entries) a b = (record { known = a.0; traced = same_trace entry.trace trace b.0 }, both_all entries a.1 b.1)

shows_all : (W : PlainWorkload) (entries : List Entry) (traces : List TraceId) → map name_of entries ≡ all_records W → AllByRecursion (ShowsItsTrace W) (map (report_of W entries) traces)
shows_all W entries [] named = tt
shows_all W entries (trace ∷ traces) named = (shows W trace entries named, shows_all W entries traces named)

pub reports_show_their_traces : EachRecordHasOneEntry → ReportsShowTheirTraces
reports_show_their_traces each W J ends shape =
    shows_all W (outcome_of W J).entries (reported_traces (outcome_of W J)) (each W J ends shape)
