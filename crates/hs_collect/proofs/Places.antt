-- The place of a client's records among records in order.
use Rattle.std.proofs.Common.{◌≡◌, ℕ, ◌+◌, ◌<◌, ◌≤◌, Bool, true, false, not, List, map, take, drop, length, get_or, ◌-◌, ◌⊎◌, inl, inr, sym, subst, arith, length-drop}
use Rattle.hs_collect.proofs.Prelude.{take-map, drop-map, length-map, ClientId, TraceRecord, is_behind, Placed, AreInOrder, Precedes, placed_of, IsPlaceBehind}
use Rattle.std.specs.List.Sorted.{IsPartitionedBy, IsPartitionPoint}
use Rattle.std.proofs.lemmas.Bool.{not-true, not-false, not_from_false}
use Rattle.std.proofs.lemmas.List.{get_or-map, get_or-take, get_or-drop, length-take-le}
use Rattle.std.proofs.lemmas.List.Elements.{All-map, All-same}
use Rattle.hs_collect.proofs.Ids.{behind_before}

abbrev pub stays : ClientId → TraceRecord → Bool
stays client entry = not (is_behind entry.id.client client)

ordered_at : (entries : List TraceRecord) (i j : ℕ) (d : TraceRecord) → AreInOrder (map placed_of entries) → i < j → j < length entries → Precedes (get_or entries i d).id (get_or entries j d).id
ordered_at entries i j d order lt within =
    let long : length (map placed_of entries) ≡ length entries = length-map entries placed_of in
    let first : get_or (map placed_of entries) i (placed_of d) ≡ placed_of (get_or entries i d) = get_or-map placed_of entries i d (placed_of d) (omega arith) in
    let second : get_or (map placed_of entries) j (placed_of d) ≡ placed_of (get_or entries j d) = get_or-map placed_of entries j d (placed_of d) within in
    subst (λ (w : Placed). Precedes w.id (get_or entries j d).id) first
    (subst (λ (w : Placed). Precedes (get_or (map placed_of entries) i (placed_of d)).id w.id) second (order i j (placed_of d) lt (omega arith)))

cases_le : (i j : ℕ) → i ≤ j → (i ≡ j) ⊎ (i < j)
cases_le i j le = grind arith

pub partitioned : (entries : List TraceRecord) (client : ClientId) → AreInOrder (map placed_of entries) → IsPartitionedBy (stays client) entries
partitioned entries client order = λ i j d le within passes.
    elim (cases_le i j le) [
      | inl same ↦ subst (λ k. stays client (get_or entries k d) ≡ true) (sym same) passes
      | inr lt ↦ not_from_false _ (behind_before (get_or entries i d).id (get_or entries j d).id client (ordered_at entries i j d order lt within) (not-true _ passes))
    ]

pub place_is : (entries : List TraceRecord) (client : ClientId) (place : ℕ) → place ≤ length entries
    → IsPartitionPoint (λ y. stays client y ≡ true) (λ y. stays client y ≡ false) entries place → IsPlaceBehind client place (map placed_of entries)
place_is entries client place within point =
    record {
      before =
          All-same (λ whole. is_behind whole.id.client client ≡ false) (take place (map placed_of entries)) (map placed_of (take place entries)) (take-map placed_of place entries)
          (All-map (λ whole. is_behind whole.id.client client ≡ false) placed_of (take place entries)
          (λ k d lt.
          let short : length (take place entries) ≡ place = length-take-le place entries within in
          let low : k < place = omega arith in
          subst (λ (e : TraceRecord). is_behind e.id.client client ≡ false) (sym (get_or-take place entries k d low)) (not-true _ (point.0 k d (omega arith) low))));
      behind =
          All-same (λ whole. is_behind whole.id.client client ≡ true) (drop place (map placed_of entries)) (map placed_of (drop place entries)) (drop-map placed_of place entries)
          (All-map (λ whole. is_behind whole.id.client client ≡ true) placed_of (drop place entries)
          (λ k d lt.
          let long : length (drop place entries) ≡ length entries - place = length-drop place entries in
          subst (λ (e : TraceRecord). is_behind e.id.client client ≡ true) (sym (get_or-drop place entries k d)) (not-false _ (point.1 (place + k) d (omega arith) (omega arith)))));
    }
