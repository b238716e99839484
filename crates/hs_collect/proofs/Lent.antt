-- One record written in place, as a list lends its items.
use Rattle.std.proofs.Common.{◌≡◌, ℕ, zero, suc, ◌<◌, Bool, true, false, not, List, [], ◌∷◌, ◌++◌, map, take, drop, set, get_or, length, option_map, unwrap_or, refl, sym, ap, ◌∙◌, arith}
use Rattle.hs_collect.proofs.Prelude.{slice_get, RecordId, TraceRecord, Placed, is_same, placed_of, join_at, is_before}
use Rattle.std.proofs.lemmas.List.{map-set, set-get_or}
use Rattle.hs_base.proofs.Lent.{written_back}
use Rattle.hs_base.specs.Listing.{Listing}

set-join : (wholes : List Placed) (last : ℕ) (whole : Placed) (bytes : List ℕ) → last < length wholes → whole ≡ get_or wholes last whole
    → set wholes last (record { id = whole.id; moment = whole.moment; payload = whole.payload ++ bytes }) ≡ join_at last bytes wholes
set-join [] last whole bytes within is = absurd (omega arith)
set-join (first ∷ wholes) zero whole bytes within is = ap (λ w. record { id = w.id; moment = w.moment; payload = w.payload ++ bytes } ∷ wholes) is
set-join (first ∷ wholes) (suc last) whole bytes within is = ap (λ rest. first ∷ rest) (set-join wholes last whole bytes (omega arith) is)

get_or-placed : (records : List TraceRecord) (i : ℕ) (r : TraceRecord) → i < length records → placed_of r ≡ placed_of (get_or records i r) → placed_of r ≡ get_or (map placed_of records) i (placed_of r)
get_or-placed [] i r within is = absurd (omega arith)
get_or-placed (first ∷ records) zero r within is = is
get_or-placed (first ∷ records) (suc i) r within is = get_or-placed records i r (omega arith) is

length-placed : (records : List TraceRecord) → length (map placed_of records) ≡ length records
length-placed [] = refl
length-placed (r ∷ records) = ap suc (length-placed records)

-- the record with these bytes more
pub after_join : (old now : List TraceRecord) (last : ℕ) (r : TraceRecord) (payload : Listing ℕ) (bytes : List ℕ) → now ≡ old → last < length old → r ≡ get_or now last r
    → payload.items ≡ (get_or now last r).payload.items ++ bytes
    → map placed_of
    (take (length old)
    (set now last (record { id = (get_or now last r).id; moment = (get_or now last r).moment; payload = payload })
    ++ drop (length (set now last (record { id = (get_or now last r).id; moment = (get_or now last r).moment; payload = payload }))) old))
    ≡ join_at last bytes (map placed_of old)
after_join old now last r payload bytes same within is joined =
    let here : r ≡ get_or old last r = is ∙ ap (λ xs. get_or xs last r) same in
    ap (map placed_of) (written_back old now last _ same)
    ∙ map-set placed_of old last (record { id = (get_or now last r).id; moment = (get_or now last r).moment; payload = payload })
    ∙ ap (λ bs. set (map placed_of old) last (record { id = (get_or now last r).id; moment = (get_or now last r).moment; payload = bs })) joined
    ∙ ap (λ x. set (map placed_of old) last (record { id = x.id; moment = x.moment; payload = x.payload.items ++ bytes })) (sym is)
    ∙ set-join (map placed_of old) last (placed_of r) bytes (omega (arith, length-placed old)) (get_or-placed old last r within (ap placed_of here))

-- the record as it was
pub after_none : (old now : List TraceRecord) (last : ℕ) (r : TraceRecord) (payload : Listing ℕ) → now ≡ old → last < length old → r ≡ get_or now last r
    → payload.items ≡ (get_or now last r).payload.items
    → map placed_of
    (take (length old)
    (set now last (record { id = (get_or now last r).id; moment = (get_or now last r).moment; payload = payload })
    ++ drop (length (set now last (record { id = (get_or now last r).id; moment = (get_or now last r).moment; payload = payload }))) old))
    ≡ map placed_of old
after_none old now last r payload same within is kept =
    let here : r ≡ get_or old last r = is ∙ ap (λ xs. get_or xs last r) same in
    ap (map placed_of) (written_back old now last _ same)
    ∙ map-set placed_of old last (record { id = (get_or now last r).id; moment = (get_or now last r).moment; payload = payload })
    ∙ ap (λ bs. set (map placed_of old) last (record { id = (get_or now last r).id; moment = (get_or now last r).moment; payload = bs })) kept
    ∙ ap (λ x. set (map placed_of old) last (placed_of x)) (sym is)
    ∙ ap (set (map placed_of old) last) (get_or-placed old last r within (ap placed_of here))
    ∙ set-get_or (map placed_of old) last (placed_of r)

same_at : (records : List TraceRecord) (i : ℕ) (r : TraceRecord) (id : RecordId) → i < length records
    → is_same (get_or records i r).id id ≡ unwrap_or (option_map (λ (whole : Placed). is_same whole.id id) (slice_get (map placed_of records) i)) false
same_at [] i r id within = absurd (omega arith)
same_at (first ∷ records) zero r id within = refl
same_at (first ∷ records) (suc i) r id within = same_at records i r id (omega arith)

-- whether the record is that of the id
pub before_is : (old now : List TraceRecord) (place last : ℕ) (r : TraceRecord) (id : RecordId) → now ≡ old → place ≡ suc last → last < length old
    → is_same (get_or now last r).id id ≡ is_before place id (map placed_of old)
before_is old now place last r id same at within =
    ap (λ xs. is_same (get_or xs last r).id id) same
    ∙ same_at old last r id within
    ∙ ap (λ p. is_before p id (map placed_of old)) (sym at)

pub if_not_ne : (same : Bool) → false ≡ not same → true ≡ same
if_not_ne true is = refl
if_not_ne false is = absurd (cc)

pub if_ne : (same : Bool) → true ≡ not same → false ≡ same
if_ne true is = absurd (cc)
if_ne false is = refl
