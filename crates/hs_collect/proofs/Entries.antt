-- The entries of a map and the collection that they are.
use Rattle.std.proofs.Common.{◌≡◌, Bool, true, false, cond, List, [], ◌∷◌, Some, option_map, refl, ap}
use Rattle.hs_collect.proofs.Prelude.{lookup, set_value, TraceId, TraceRecords, wholes_of, collection_of}

pub collection-set : (test : TraceId → Bool) (entries : List (TraceId × TraceRecords)) (records : TraceRecords) → collection_of (set_value test entries records) ≡ set_value test (collection_of entries) (wholes_of records)
collection-set test [] records = refl
collection-set test (entry ∷ entries) records = by_test (test entry.0) (collection-set test entries records)
  where
    by_test : (b : Bool) → collection_of (set_value test entries records) ≡ set_value test (collection_of entries) (wholes_of records)
        → collection_of (cond b ((entry.0, records) ∷ entries) (entry ∷ set_value test entries records))
        ≡ cond b ((entry.0, wholes_of records) ∷ collection_of entries) ((entry.0, wholes_of entry.1) ∷ set_value test (collection_of entries) (wholes_of records))
    by_test true later = refl
    by_test false later = ap (λ rest. (entry.0, wholes_of entry.1) ∷ rest) later

pub lookup-collection : (test : TraceId → Bool) (entries : List (TraceId × TraceRecords)) → lookup test (collection_of entries) ≡ option_map wholes_of (lookup test entries)
lookup-collection test [] = refl
lookup-collection test (entry ∷ entries) = by_test (test entry.0) (lookup-collection test entries)
  where
    by_test : (b : Bool) → lookup test (collection_of entries) ≡ option_map wholes_of (lookup test entries)
        → cond b (Some (wholes_of entry.1)) (lookup test (collection_of entries)) ≡ option_map wholes_of (cond b (Some entry.1) (lookup test entries))
    by_test true later = refl
    by_test false later = later
