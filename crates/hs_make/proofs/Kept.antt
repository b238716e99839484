-- The operations of a made workload are within the limits, and each request ends the traces that it begins.
use Rattle.std.proofs.Common.{◌≡◌, ℕ, zero, suc, ◌+◌, ◌*◌, ◌/◌, ◌%◌, ◌^◌, ◌<◌, ◌≤◌, ◌==◌, nat_lt, inl, inr, Bool, true, false, cond, List, [], ◌∷◌, ◌++◌, length, get_or, arith, refl, ap, sym, subst, lit<}
use Rattle.std.proofs.lemmas.List.{append-nil, append_assoc, get_or_past}
use Rattle.std.proofs.lemmas.List.Elements.{All-from_get_or}
use Rattle.std.proofs.lemmas.Bool.{cases_lt}
use Rattle.std.proofs.lemmas.Bool.Decides.{Decides-ltb}
use Rattle.std.proofs.lemmas.Grind.{flat_map-append}
use Rattle.std.specs.List.{All, AllByRecursion, flat_map}
use Rattle.hs_base.proofs.Alls.{all_append}
use Rattle.hs_base.specs.declared.ids.TraceId.{TraceId}
use Rattle.hs_records.specs.Plain.{Operation, Begin, Point, Crumb, End, Sample}
use Rattle.hs_records.specs.Records.{AreBracketed}
use Rattle.hs_records.specs.Validity.{IsOperation, IsClient}
use Rattle.hs_make.specs.Words.{Words, from, behind_parts, each_below}
use Rattle.hs_make.specs.Made.{payload_length, payload_at, point_count, behind_points, points_at, samples_at, visit_at, behind_payload, behind_visit, depth_at, behind_visits, request_at, behind_request, behind_requests, left_to, client_at, made_settings}
use Rattle.hs_make.proofs.Sequences.{each_below-suc, length-each_below, get_or-each_below}

-- operations of the settings that keep it as it is whether a trace is open
pub record Keeps (is_open : Bool) (operations : List Operation) : Type 0 where
  pub words : AllByRecursion (IsOperation 1 made_settings) operations
  pub kept : (rest : List Operation) → AreBracketed is_open rest → AreBracketed is_open (operations ++ rest)

pub Keeps-nil : (is_open : Bool) → Keeps is_open []
Keeps-nil is_open = record { words = tt; kept = λ rest h. h }

pub Keeps-append : (is_open : Bool) (xs ys : List Operation) → Keeps is_open xs → Keeps is_open ys → Keeps is_open (xs ++ ys)
Keeps-append is_open xs ys p q =
    record {
      words = all_append (IsOperation 1 made_settings) xs ys p.words q.words;
      kept = λ rest h. subst (AreBracketed is_open) (sym (append_assoc xs ys rest)) (p.kept (ys ++ rest) (q.kept rest h));
    }

pub Keeps-each : (is_open : Bool) (n : ℕ) (item : ℕ → Operation) → ((k : ℕ) → k < n → Keeps is_open (item k ∷ [])) → Keeps is_open (each_below n item)
unfolding each_below
Keeps-each is_open zero item each = Keeps-nil is_open
Keeps-each is_open (suc n) item each =
    subst (Keeps is_open) (sym (each_below-suc n item))
    (Keeps-append is_open (each_below n item) (item n ∷ []) (Keeps-each is_open n item (λ k h. each k (omega arith))) (each n (omega arith)))

pub Keeps-all : {X : Type 0} (is_open : Bool) (n : ℕ) (item : ℕ → X) (of : X → List Operation) → ((k : ℕ) → k < n → Keeps is_open (of (item k))) → Keeps is_open (flat_map of (each_below n item))
unfolding each_below
Keeps-all is_open zero item of each = Keeps-nil is_open
Keeps-all is_open (suc n) item of each =
    let last : flat_map of (item n ∷ []) ≡ of (item n) = append-nil (of (item n)) in
    subst (λ xs. Keeps is_open (flat_map of xs)) (sym (each_below-suc n item))
    (
    subst (Keeps is_open) (sym (flat_map-append of (each_below n item) (item n ∷ [])))
    (
    Keeps-append is_open (flat_map of (each_below n item)) (flat_map of (item n ∷ []))
    (Keeps-all is_open n item of (λ k h. each k (omega arith))) (subst (Keeps is_open) (sym last) (each n (omega arith)))
    )
    )

-- ---- the parts of a visit

pub payload_is_short : (words : Words) → length (payload_at words) ≤ 40
payload_is_short words =
    let len : length (payload_at words) ≡ payload_length words = length-each_below (payload_length words) (λ i. words (1 + i) % 256) in omega (arith, len)

payload_bytes : (words : Words) → All (λ b. b < 256) (payload_at words)
payload_bytes words =
    let byte : ℕ → ℕ = λ i. words (1 + i) % 256 in
    let len : length (payload_at words) ≡ payload_length words = length-each_below (payload_length words) byte in
    All-from_get_or (λ b. b < 256) (payload_at words) 0
    (λ i h. let at : get_or (payload_at words) i 0 ≡ byte i = get_or-each_below (payload_length words) byte i 0 (omega (arith, len)) in omega (arith, at))

points_keep : (moment : ℕ) (words : Words) → moment < 2 ^ 63 → Keeps true (points_at moment words)
points_keep moment words early =
    Keeps-each true (point_count words) (λ i. Point (moment + i) (payload_at (behind_points i words)))
    (λ i h. let short = payload_is_short (behind_points i words) in
    record { words = ((omega arith, omega (arith, short), payload_bytes (behind_points i words)), tt); kept = λ rest k. (refl, k) })

crumb_keeps : (node depth : ℕ) → depth ≤ 3 → Keeps true (cond (nat_lt (node + 1) depth) (Crumb (record { 0 = node + 1 }) ∷ []) [])
crumb_keeps node depth shallow =
    let by_test : (b : Bool) → nat_lt (node + 1) depth ≡ b → Keeps true (cond b (Crumb (record { 0 = node + 1 }) ∷ []) []) =
    λ b. elim b as (λ b. nat_lt (node + 1) depth ≡ b → Keeps true (cond b (Crumb (record { 0 = node + 1 }) ∷ []) [])) [
      | true ↦ λ is. let h : node + 1 < depth = (Decides-ltb (node + 1) depth).0 is in record { words = (omega arith, tt); kept = λ rest k. (refl, k) }
      | false ↦ λ is. Keeps-nil true
    ] in
    by_test (nat_lt (node + 1) depth) refl

samples_keep : (request : ℕ) (words : Words) → request < 2 ^ 32 → Keeps true (samples_at request words)
samples_keep request words few =
    let failure : Operation = Sample (1000 * request + 501) 0 1 in
    let fails : Keeps true (failure ∷ []) = record { words = ((omega arith, lit< tt, lit< tt), tt); kept = λ rest k. (refl, k) } in
    let may_fail : Keeps true (cond (words 1 % 50 == 0) (failure ∷ []) []) =
    elim (words 1 % 50 == 0) as (λ b. Keeps true (cond b (failure ∷ []) [])) [ true ↦ fails | false ↦ Keeps-nil true ] in
    Keeps-append true (Sample (1000 * request + 500) 1 (1000 + words 0 % 1000) ∷ []) (cond (words 1 % 50 == 0) (failure ∷ []) [])
    (record { words = ((omega arith, lit< tt, omega arith), tt); kept = λ rest k. (refl, k) }) may_fail

-- what stands between the begin and the end of a visit
between : (request depth node : ℕ) → Words → List Operation
between request depth node words =
    points_at (1000 * request + 10 * node) words
    ++ (cond (nat_lt (node + 1) depth) (Crumb (record { 0 = node + 1 }) ∷ []) [] ++ cond (node == 0) (samples_at request (behind_points (point_count words) words)) [])

between_keeps : (request depth node : ℕ) (words : Words) → request < 2 ^ 32 → node < depth → depth ≤ 3 → Keeps true (between request depth node words)
unfolding between
between_keeps request depth node words few visited shallow =
    let behind : Words = behind_points (point_count words) words in
    let samples : Keeps true (cond (node == 0) (samples_at request behind) []) =
    elim (node == 0) as (λ b. Keeps true (cond b (samples_at request behind) [])) [ true ↦ samples_keep request behind few | false ↦ Keeps-nil true ] in
    Keeps-append true _ _ (points_keep (1000 * request + 10 * node) words (omega arith)) (Keeps-append true _ _ (crumb_keeps node depth shallow) samples)

visit_is_between : (request : ℕ) (trace : TraceId) (depth node : ℕ) (words : Words)
    → visit_at request trace depth node words ≡ Begin trace ∷ (between request depth node words ++ End ∷ [])
unfolding between
visit_is_between request trace depth node words = ap (λ xs. Begin trace ∷ xs) (simp append_assoc)

visit_keeps : (request : ℕ) (trace : TraceId) (depth node : ℕ) (words : Words) → request < 2 ^ 32 → trace.0 < 2 ^ 64 → node < depth → depth ≤ 3
    → Keeps false (visit_at request trace depth node words)
visit_keeps request trace depth node words few narrow visited shallow =
    let inner = between_keeps request depth node words few visited shallow in
    subst (Keeps false) (sym (visit_is_between request trace depth node words))
    record {
      words = (narrow, all_append (IsOperation 1 made_settings) (between request depth node words) (End ∷ []) inner.words (tt, tt));
      kept = λ rest h. (refl, subst (AreBracketed true) (sym (append_assoc (between request depth node words) (End ∷ []) rest)) (inner.kept (End ∷ rest) (refl, h)));
    }

-- ---- requests

-- words of 64 bits
abbrev pub AreWords : Words → Type 0
AreWords words = (n : ℕ) → words n < 2 ^ 64

behind_all : (behind : ℕ → Words → Words) (n : ℕ) (words : Words) → ((k : ℕ) (ws : Words) → AreWords ws → AreWords (behind k ws)) → AreWords words → AreWords (behind_parts behind n words)
unfolding behind_parts
behind_all behind zero words each are = are
behind_all behind (suc n) words each are = each n (behind_parts behind n words) (behind_all behind n words each are)

behind_all_points : (n : ℕ) (words : Words) → AreWords words → AreWords (behind_points n words)
behind_all_points n words are = behind_all (λ _. behind_payload) n (from 1 words) (λ k ws h m. h (1 + payload_length ws + m)) (λ m. are (1 + m))

behind_a_visit : (node : ℕ) (words : Words) → AreWords words → AreWords (behind_visit node words)
behind_a_visit node words are = λ m. behind_all_points (point_count words) words are (cond (node == 0) 2 0 + m)

behind_a_request : (words : Words) → AreWords words → AreWords (behind_request words)
behind_a_request words are = behind_all behind_visit (depth_at words) (from 3 words) behind_a_visit (λ m. are (3 + m))

pub behind_all_requests : (n : ℕ) (words : Words) → AreWords words → AreWords (behind_requests n words)
behind_all_requests n words are = behind_all (λ _. behind_request) n words (λ k ws h. behind_a_request ws h) are

left_keeps : (number : ℕ) (words : Words) (place : ℕ) → number < 2 ^ 32 → AreWords words → Keeps false (left_to place (request_at number words))
left_keeps number words place few are =
    let visit : ℕ → List Operation = λ node. visit_at number (record { 0 = words 0 }) (depth_at words) node (behind_visits node words) in
    let len : length (each_below (depth_at words) visit) ≡ depth_at words = length-each_below (depth_at words) visit in
    let one : Keeps false (get_or (each_below (depth_at words) visit) (place / 4) []) =
    elim (cases_lt (place / 4) (depth_at words)) [
      | inl h ↦ subst (Keeps false) (sym (get_or-each_below (depth_at words) visit (place / 4) [] h))
          (visit_keeps number (record { 0 = words 0 }) (depth_at words) (place / 4) (behind_visits (place / 4) words) few (are 0) h (omega arith))
      | inr h ↦ subst (Keeps false) (sym (get_or_past (each_below (depth_at words) visit) (place / 4) [] (omega (arith, len)))) (Keeps-nil false)
    ] in
    elim (words 1 % 4 == place % 4) as (λ b. Keeps false (cond b (get_or (each_below (depth_at words) visit) (place / 4) []) [])) [ true ↦ one | false ↦ Keeps-nil false ]

pub client_is_valid : (size : ℕ) (words : Words) (place : ℕ) → size < 2 ^ 32 → AreWords words → IsClient 1 made_settings (client_at size words place)
client_is_valid size words place few are =
    let all : Keeps false (client_at size words place) =
    Keeps-all false size (λ number. request_at number (behind_requests number words)) (left_to place)
    (λ number h. left_keeps number (behind_requests number words) place (omega arith) (behind_all_requests number words are)) in
    record { words = all.words; bracketed = subst (AreBracketed false) (append-nil (client_at size words place)) (all.kept [] refl) }
