-- One more page, in the collection that a map's entries are.
use Rattle.std.proofs.Common.{◌≡◌, ◌≤◌, ◌^◌, List, [], ◌∷◌, ◌++◌, map, Some, None, is_some, option_map, refl, sym, ap, ◌∙◌, subst, arith}
use Rattle.hs_collect.proofs.Prelude.{IsDistinct, lookup, set_value, map-append, All-nil, TraceId, Sheet, TraceRecords, Placed, page_pieces, pieces_of, end_of, CanBeAdded, IsWhole, AreWholes, AreCollected, wholes_of, collection_of, GoesBehind}
use Rattle.std.proofs.lemmas.Map.Steps.{set_value_same}
use Rattle.hs_collect.specs.Views.{Pieces}
use Rattle.hs_collect.proofs.Seen.{is_trace, any-keys, wholes-found}
use Rattle.hs_collect.proofs.Lower.{goes_behind, fits_last}
use Rattle.hs_collect.proofs.Entries.{collection-set, lookup-collection}
use Rattle.hs_collect.proofs.Collecting.{traces_of, joins_last, takes_page}

abbrev pub Entries : Type 0
Entries = List (TraceId × TraceRecords)

-- what adding the page does to each list of pieces of these records
abbrev pub Takes : Sheet → List Placed → List Placed → Type 0
Takes sheet old new = (pieces : Pieces) → AreWholes pieces old → AreWholes (pieces ++ page_pieces sheet) new

same_traces : (entries : Entries) → map (λ (entry : TraceId × TraceRecords). entry.0) entries ≡ traces_of (collection_of entries)
same_traces [] = refl
same_traces (entry ∷ entries) = ap (λ rest. entry.0 ∷ rest) (same_traces entries)

-- a page of a trace that is there
pub behind_found : (sheets : List Sheet) (sheet own : Sheet) (entries : Entries) (records : TraceRecords) → AreCollected sheets (collection_of entries) → own ≡ sheet → CanBeAdded (sheets ++ sheet ∷ [])
    → Some records ≡ lookup (is_trace own.header.trace) entries → GoesBehind own.header (wholes_of records)
behind_found sheets sheet own entries records collected same can found =
    goes_behind sheets own (wholes_of records) (subst (λ (s : Sheet). CanBeAdded (sheets ++ s ∷ [])) (sym same) can)
    (wholes-found own.header.trace sheets entries records collected.each (sym found))

pub fits_own : (sheets : List Sheet) (sheet own : Sheet) → own ≡ sheet → CanBeAdded (sheets ++ sheet ∷ []) → end_of own ≤ 2 ^ 32
fits_own sheets sheet own same can = subst (λ (s : Sheet). end_of s ≤ 2 ^ 32) (sym same) (fits_last sheets sheet can)

pub collected_found : (sheets : List Sheet) (sheet own : Sheet) (entries after : Entries) (old new : TraceRecords) → AreCollected sheets (collection_of entries) → own ≡ sheet
    → Some old ≡ lookup (is_trace own.header.trace) entries → IsDistinct is_trace (map (λ (entry : TraceId × TraceRecords). entry.0) entries)
    → after ≡ set_value (is_trace own.header.trace) entries new → Takes own (wholes_of old) (wholes_of new) → AreCollected (sheets ++ sheet ∷ []) (collection_of after)
collected_found sheets sheet own entries after old new collected same found distinct written takes =
    let trace = own.header.trace in
    let view : collection_of after ≡ set_value (is_trace trace) (collection_of entries) (wholes_of new) = ap collection_of written ∙ collection-set (is_trace trace) entries new in
    let here : lookup (is_trace trace) (collection_of entries) ≡ Some (wholes_of old) = lookup-collection (is_trace trace) entries ∙ ap (option_map wholes_of) (sym found) in
    subst (λ (s : Sheet). AreCollected (sheets ++ s ∷ []) (collection_of after)) same
    (subst (AreCollected (sheets ++ own ∷ [])) (sym view)
    (takes_page sheets own (collection_of entries) (wholes_of old) (wholes_of new) collected (subst (IsDistinct is_trace) (same_traces entries) distinct) here
    (takes (pieces_of trace sheets) (wholes-found trace sheets entries old collected.each (sym found)))))

-- records that are as they were, written back
pub kept_found : (trace : TraceId) (entries after : Entries) (old new : TraceRecords) → Some old ≡ lookup (is_trace trace) entries → after ≡ set_value (is_trace trace) entries new → wholes_of new ≡ wholes_of old
    → collection_of after ≡ collection_of entries
kept_found trace entries after old new found written same =
    let here : lookup (is_trace trace) (collection_of entries) ≡ Some (wholes_of old) = lookup-collection (is_trace trace) entries ∙ ap (option_map wholes_of) (sym found) in
    ap collection_of written ∙ collection-set (is_trace trace) entries new ∙ ap (set_value (is_trace trace) (collection_of entries)) same
    ∙ set_value_same (is_trace trace) (collection_of entries) (wholes_of old) here

-- a page of a new trace
no_wholes : AreWholes [] []
no_wholes = record { ordered = λ i j d lt within. absurd (omega arith); each = All-nil (IsWhole []); all = All-nil _ }

pub collected_new : (sheets : List Sheet) (sheet own : Sheet) (entries after : Entries) (none new : TraceRecords) → AreCollected sheets (collection_of entries) → own ≡ sheet
    → None ≡ lookup (is_trace own.header.trace) entries → after ≡ entries ++ (own.header.trace, new) ∷ [] → wholes_of none ≡ [] → Takes own (wholes_of none) (wholes_of new)
    → AreCollected (sheets ++ sheet ∷ []) (collection_of after)
collected_new sheets sheet own entries after none new collected same missing written empty takes =
    let trace = own.header.trace in
    let view : collection_of after ≡ collection_of entries ++ (trace, wholes_of new) ∷ [] =
    ap collection_of written ∙ map-append (λ (entry : TraceId × TraceRecords). (entry.0, wholes_of entry.1)) entries ((trace, new) ∷ []) in
    subst (λ (s : Sheet). AreCollected (sheets ++ s ∷ []) (collection_of after)) same
    (subst (AreCollected (sheets ++ own ∷ [])) (sym view)
    (joins_last sheets own (collection_of entries) (wholes_of new) collected (any-keys trace entries ∙ ap is_some (sym missing))
    (takes [] (subst (AreWholes []) (sym empty) no_wholes))))
