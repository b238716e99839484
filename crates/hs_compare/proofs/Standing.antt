-- The records that come stand one for one with the entries, and each entry has the trace of its record.
use Rattle.std.proofs.Common.{◌≡◌, ℕ, suc, ◌+◌, List, [], ◌∷◌, ◌++◌, length, refl, sym, ap, subst, ◌∙◌, Some, arith, map, option_map, slice_get, zip}
use Rattle.hs_compare.proofs.Prelude.{AllByRecursion, flat_map, range_with_len, all_each, all_flat_range, ClientId, PlainJournal, Entry, PlainWorkload, Record, records_of, operations_at, IsLawful, client_at, outcome_of, EachRecordHasOneEntry, Named, name_of, comings_of, all_comings, name_of_coming, EntriesStandByTheRecords}
use Rattle.hs_base.proofs.Alls.{all_unmap}
use Rattle.hs_base.proofs.Parts.{map_append}
use Rattle.hs_records.specs.Laws.{traces_of}
use Rattle.hs_law_outcome.specs.Records.{EndsItsTraces, named_from, client_records, all_records}
use Rattle.hs_compare.specs.Coming.{Coming}

-- ---- one for one

map_flat : {X Y Z : Type 0} (f : X → List Y) (g : Y → Z) (h : X → List Z) (xs : List X) → ((x : X) → map g (f x) ≡ h x) → map g (flat_map f xs) ≡ flat_map h xs
map_flat f g h [] same = refl
map_flat f g h (x ∷ xs) same = map_append g (f x) (flat_map f xs) ∙ ap (λ rest. map g (f x) ++ rest) (map_flat f g h xs same) ∙ ap (λ first. first ++ flat_map h xs) (same x)

module _ (client : ClientId) where
  abbrev coming : ℕ × Record → Coming
  coming r = record { id = record { client = client; number = r.0 }; trace = r.1.trace; bytes = length r.1.payload }

  named_alike : (number : ℕ) (records : List Record) → map name_of_coming (map coming (zip (range_with_len number (length records)) records)) ≡ named_from client number records
  named_alike number [] = refl
  named_alike number (r ∷ records) = ap (λ (rest : List Named). record { id = record { client = client; number = number }; trace = r.trace } ∷ rest) (named_alike (number + 1) records)

comings_are_the_records : (W : PlainWorkload) → map name_of_coming (all_comings W) ≡ all_records W
comings_are_the_records W =
    map_flat (λ place. comings_of (client_at W.settings.clients place) (operations_at W place)) name_of_coming (client_records W) (range_with_len 0 (length W.clients))
    (λ place. named_alike (client_at W.settings.clients place) 0 (records_of (operations_at W place)))

pub entries_stand_by_the_records : EachRecordHasOneEntry → EntriesStandByTheRecords
entries_stand_by_the_records each W J ends lawful = comings_are_the_records W ∙ sym (each W J ends lawful.L1)

-- ---- the trace of an entry

-- a record of the client at some place has this name
pub record IsRecord (W : PlainWorkload) (name : Named) : Type 0 where
  pub place : ℕ
  pub client : name.id.client ≡ client_at W.settings.clients place
  pub trace : traces_of (records_of (operations_at W place)) name.id.number ≡ Some name.trace

module _ (client : ClientId) (all : List Record) where
  numbered : (number : ℕ) (records : List Record) → ((i : ℕ) → slice_get all (number + i) ≡ slice_get records i) → AllByRecursion (λ (name : Named). (name.id.client ≡ client) × (traces_of all name.id.number ≡ Some name.trace)) (named_from client number records)
  numbered number [] at = tt
  numbered number (r ∷ records) at = (
    (refl, ap (λ (n : ℕ). option_map (λ (r : Record). r.trace) (slice_get all n)) (let same : number ≡ number + 0 = omega arith in same) ∙ ap (option_map (λ (r : Record). r.trace)) (at 0)),
    numbered (number + 1) records (λ i. ap (λ (n : ℕ). slice_get all n) (let same : number + 1 + i ≡ number + suc i = omega arith in same) ∙ at (suc i)),
  )

names_are_records : (W : PlainWorkload) → AllByRecursion (IsRecord W) (all_records W)
names_are_records W =
    all_flat_range (IsRecord W) (client_records W) 0 (length W.clients)
    (λ place below.
    let client = client_at W.settings.clients place in
    let records = records_of (operations_at W place) in
    all_each (λ (name : Named). (name.id.client ≡ client) × (traces_of records name.id.number ≡ Some name.trace)) (IsRecord W) (client_records W place) (λ name is. record { place = place; client = is.0; trace = is.1 })
    (numbered client records 0 records (λ i. ap (slice_get records) (let same : 0 + i ≡ i = omega arith in same))))

pub entries_are_records : EachRecordHasOneEntry → (W : PlainWorkload) (J : PlainJournal) → EndsItsTraces W → IsLawful W J → AllByRecursion (λ (entry : Entry). IsRecord W (name_of entry)) (outcome_of W J).entries
entries_are_records each W J ends lawful = all_unmap (IsRecord W) name_of (outcome_of W J).entries (subst (AllByRecursion (IsRecord W)) (sym (each W J ends lawful.L1)) (names_are_records W))
