-- What each sampler keeps. Head keeps a trace by its rank alone, tail keeps the traces that are named somewhere. A ring keeps what waits in
-- it when its trace is first named, and what comes behind that. Hindsight keeps what was reported.
use Rattle.std.specs.Prelude.{◌≡◌, ℕ, ◌-◌, ◌%◌, ◌==◌, Bool, true, false, not, List, [], ◌∷◌, ◌++◌, length, map, filter, drop, fold, zip, if◌then◌else◌, refl}
use Rattle.hs_base.specs.declared.ids.TraceId.{TraceId}
use Rattle.hs_base.specs.Ranks.{word_of}
use Rattle.hs_base.specs.Samples.{t}
use Rattle.hs_base.specs.Ids.{is_among}
use Rattle.hs_ledger.specs.declared.ledger.Entry.{Entry}
use Rattle.hs_ledger.specs.Totals.{is_reported}
use Rattle.hs_records.specs.Plain.{PlainWorkload}
use Rattle.hs_compare.specs.Coming.{Coming, SamplerEvent, Comes, Names, all_comings, events_in_order, named_in}

abbrev pub is_of : TraceId → Coming → Bool
is_of trace coming = coming.trace.0 == trace.0

abbrev pub kept_by_rank : ℕ → TraceId → Bool
kept_by_rank one_in trace = word_of trace.0 % one_in == 0

abbrev pub head_keeps : ℕ → PlainWorkload → List Coming
head_keeps one_in W = filter (λ (c : Coming). kept_by_rank one_in c.trace) (all_comings W)

abbrev pub tail_keeps : PlainWorkload → List Coming
tail_keeps W = filter (λ (c : Coming). is_among (named_in W) c.trace) (all_comings W)

-- ---- the ring

pub record SamplerRing : Type 0 where
  pub waiting : List Coming
  pub named : List TraceId
  pub kept : List Coming

abbrev pub empty_ring : SamplerRing
empty_ring = record { waiting = []; named = []; kept = [] }

-- the last ones, as many as there is room for
abbrev pub last_ones : ℕ → List Coming → List Coming
last_ones room records = drop (length records - room) records

abbrev pub comes : ℕ → Coming → SamplerRing → SamplerRing
comes room c ring = if is_among ring.named c.trace then record ring { kept = ring.kept ++ c ∷ [] } else record ring { waiting = last_ones room (ring.waiting ++ c ∷ []) }

abbrev pub names : TraceId → SamplerRing → SamplerRing
names trace ring =
    if is_among ring.named trace then ring else
    record { waiting = filter (λ c. not (is_of trace c)) ring.waiting; named = ring.named ++ trace ∷ []; kept = ring.kept ++ filter (is_of trace) ring.waiting }

abbrev pub ring_step : ℕ → SamplerRing → SamplerEvent → SamplerRing
ring_step room ring (Comes c) = comes room c ring
ring_step room ring (Names trace) = names trace ring

abbrev pub ring_keeps : ℕ → PlainWorkload → List Coming
ring_keeps room W = (fold (ring_step room) empty_ring (events_in_order W)).kept

-- ---- hindsight

-- the records whose entries pass; the entries are those of all records, in their order
abbrev pub chosen : (Entry → Bool) → List Coming → List Entry → List Coming
chosen passes records entries = map (λ (c : Coming × Entry). c.0) (filter (λ (c : Coming × Entry). passes c.1) (zip records entries))

abbrev pub hindsight_keeps : PlainWorkload → List Entry → List Coming
hindsight_keeps W entries = chosen (λ (e : Entry). is_reported e.fate) (all_comings W) entries

-- ---- examples

-- the record of this number, of one client
abbrev of_trace : (trace number : ℕ) → Coming
of_trace trace number = record { id = record { client = record { node = 0; number = 0 }; number = number }; trace = t trace; bytes = 1 }

abbrev kept_numbers : ℕ → List SamplerEvent → List ℕ
kept_numbers room events = map (λ (c : Coming). c.id.number) (fold (ring_step room) empty_ring events).kept

-- the records 0 and 2 of the trace 7, with record 1 of the trace 8 between them; then the trace 7 is named, has one more record, and is named
-- again; at last the trace 8 is named
abbrev two_traces : List SamplerEvent
two_traces = Comes (of_trace 7 0) ∷ Comes (of_trace 8 1) ∷ Comes (of_trace 7 2) ∷ Names (t 7) ∷ Comes (of_trace 7 3) ∷ Names (t 7) ∷ Names (t 8) ∷ []

-- with room for three all are kept; with room for two the first leaves; with room for one only the last waits, and the record of the trace 8 is gone
rings : (kept_numbers 3 two_traces ≡ 0 ∷ 2 ∷ 3 ∷ 1 ∷ []) × (kept_numbers 2 two_traces ≡ 2 ∷ 3 ∷ 1 ∷ []) × (kept_numbers 1 two_traces ≡ 2 ∷ 3 ∷ [])
rings = (refl, refl, refl)

-- the rank words of these two traces end with the digits af and f4
heads : (kept_by_rank 1 (t 0) ≡ true) × (kept_by_rank 2 (t 0) ≡ false) × (kept_by_rank 4 (t 0x9e3779b97f4a7c15) ≡ true) × (kept_by_rank 8 (t 0x9e3779b97f4a7c15) ≡ false)
heads = (refl, refl, refl, refl)
