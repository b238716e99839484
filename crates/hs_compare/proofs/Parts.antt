-- A part of a script has the events of its operations.
use Rattle.std.proofs.Common.{◌≡◌, ℕ, zero, suc, ◌+◌, ◌-◌, ◌<◌, ◌≤◌, ◌==◌, cond, false, List, [], ◌∷◌, ◌++◌, length, get_or, take, drop, map, filter, min, refl, sym, ap, ap₂, ◌∙◌, subst, arith, append_assoc, length-append, ⊎_elim, Option, None}
use Rattle.hs_compare.proofs.Prelude.{ne_eqb, cases_lt, append-nil, ClientId, TraceId, AutoRule, Trigger, Operation, NumberedOperation, numbered_from, open_behind, Sent, trigger_in, triggers_behind, names_in, NumberedEvent, Script, name_at, points_by, sent_names, names_of, IsClientScript, AreOf, IsScript, events_in, events_of, events_from, IsSound, part_of}
use Rattle.std.proofs.Math.Seq.{drop-append_seam, take-append_seam}
use Rattle.hs_compare.specs.Rounds.{events_before}
use Rattle.hs_compare.proofs.Walked.{events-append}

-- past the last operation nothing happens
pub none_past : (n : ℕ) (hs : List NumberedEvent) (k : ℕ) → AreOf k hs → k ≤ n → events_of hs n ≡ []
none_past n [] k low le = refl
none_past n (h ∷ hs) k low le =
    let first = low.0 in
    let apart : (h.number == n) ≡ false = ne_eqb h.number n (λ same. omega (arith, same, first, le)) in
    ap (λ b. events_in (cond b (h ∷ filter (λ (h : NumberedEvent). h.number == n) hs) (filter (λ (h : NumberedEvent). h.number == n) hs))) apart ∙ none_past n hs k low.1 le

module _ (points names : List NumberedEvent) (operations : ℕ) (low : AreOf operations points) (low' : AreOf operations names) where
  pub quiet : (from count : ℕ) → operations ≤ from → events_from points names from count ≡ []
  quiet from zero past = refl
  quiet from (suc count) past =
      ap₂ (λ a b. (a ++ b) ++ events_from points names (from + 1) count) (none_past from points operations low past) (none_past from names operations low' past) ∙ quiet (from + 1) count (omega arith)

  -- the events before an operation, whatever its number
  pub front : (n : ℕ) → events_from points names 0 (min n operations) ≡ events_from points names 0 n
  front n =
      ⊎_elim
      (λ (within : n < operations). ap (events_from points names 0) (let e : min n operations ≡ n = omega arith in e))
      (λ (past : operations ≤ n).
      let whole : n ≡ operations + (n - operations) = omega arith in
      ap (events_from points names 0) (let e : min n operations ≡ operations = omega arith in e)
      ∙ sym (ap (events_from points names 0) whole ∙ events-append points names 0 operations (n - operations)
      ∙ ap (λ es. events_from points names 0 operations ++ es) (quiet (0 + operations) (n - operations) (omega arith)) ∙ append-nil (events_from points names 0 operations)))
      (cases_lt n operations)

  module _ (script : Script) (is : IsScript points names operations script) where
    pub before_is : (n : ℕ) → events_before script n ≡ length (events_from points names 0 n)
    before_is n =
        let last : length script.ends.items - 1 ≡ operations = omega (arith, is.count) in
        ap (λ k. get_or script.ends.items (min n k) 0) last ∙ is.ends (min n operations) (omega arith) ∙ ap length (front n)

    -- all events are those of the operations up to any end that is past them
    all_are : (n : ℕ) → operations ≤ n → script.events.items ≡ events_from points names 0 n
    all_are n past = is.events ∙ ap (events_from points names 0) (let e : operations ≡ min n operations = omega arith in e) ∙ front n

    pub part_is : (from count : ℕ) → part_of from count script ≡ events_from points names from count
    part_is from count =
        let a = events_from points names 0 from in
        let b = events_from points names from count in
        let rest = events_from points names (from + count) operations in
        let both : events_from points names 0 (from + count) ≡ a ++ b = events-append points names 0 from count ∙ ap (λ k. a ++ events_from points names k count) (let e : 0 + from ≡ from = omega arith in e) in
        let whole : script.events.items ≡ (a ++ b) ++ rest =
        all_are (from + count + operations) (omega arith) ∙ events-append points names 0 (from + count) operations
        ∙ ap₂ (λ es k. es ++ events_from points names k operations) both (let e : 0 + (from + count) ≡ from + count = omega arith in e) in
        let first : events_before script from ≡ length a = before_is from in
        let second : events_before script (from + count) ≡ length a + length b = before_is (from + count) ∙ ap length both ∙ length-append a b in
        let size : events_before script (from + count) - events_before script from ≡ length b = omega (arith, first, second) in
        ap₂ (λ k es. take k (drop (events_before script from) es)) size (whole ∙ append_assoc a b rest) ∙ ap (λ k. take (length b) (drop k (a ++ (b ++ rest)))) first
        ∙ ap (take (length b)) (drop-append_seam a (b ++ rest)) ∙ take-append_seam b rest

    pub is_sound : IsSound script
    is_sound =
        record {
          some = omega (arith, is.count);
          rise = λ k l le low.
              let split : events_from points names 0 l ≡ events_from points names 0 k ++ events_from points names (0 + k) (l - k) =
              ap (events_from points names 0) (let e : l ≡ k + (l - k) = omega arith in e) ∙ events-append points names 0 k (l - k) in
              let long = ap length split ∙ length-append (events_from points names 0 k) (events_from points names (0 + k) (l - k)) in
              omega (arith, is.ends k (omega (arith, is.count)), is.ends l (omega (arith, is.count)), long);
          within = λ k low.
              let split : events_from points names 0 operations ≡ events_from points names 0 k ++ events_from points names (0 + k) (operations - k) =
              ap (events_from points names 0) (let e : operations ≡ k + (operations - k) = omega (arith, is.count) in e) ∙ events-append points names 0 k (operations - k) in
              let long = ap length split ∙ length-append (events_from points names 0 k) (events_from points names (0 + k) (operations - k)) in
              omega (arith, is.ends k (omega (arith, is.count)), ap length is.events, long);
        }

-- ---- names are of operations

low_from : (a b : ℕ) (hs : List NumberedEvent) → a ≤ b → AreOf a hs → AreOf b hs
low_from a b [] le low = tt
low_from a b (h ∷ hs) le low = let first = low.0 in (omega (arith, first, le), low_from a b hs le low.1)

low_behind : (n number : ℕ) (traces : List TraceId) (more : List NumberedEvent) → number < n → AreOf n more → AreOf n (map (name_at number) traces ++ more)
low_behind n number [] more less low = low
low_behind n number (t ∷ traces) more less low = (less, low_behind n number traces more less low)

low_triggers : (n number : ℕ) (triggers : List Trigger) (more : List (Sent Trigger)) → number < n → AreOf n (sent_names more)
    → AreOf n (sent_names (map (λ (t : Trigger). record { number = number; item = t }) triggers ++ more))
low_triggers n number [] more less low = low
low_triggers n number (t ∷ triggers) more less low =
    low_behind n number (names_in t) (sent_names (map (λ (t : Trigger). record { number = number; item = t }) triggers ++ more)) less (low_triggers n number triggers more less low)

low_names : (autos : List AutoRule) (earlier : List NumberedOperation) (number : ℕ) (trace : Option TraceId) (ops : List Operation) → AreOf (number + length ops) (sent_names (triggers_behind autos earlier (numbered_from number trace ops)))
low_names autos earlier number trace [] = tt
low_names autos earlier number trace (op ∷ ops) =
    let here : NumberedOperation = record { number = number; trace = trace; operation = op } in
    let more = triggers_behind autos (here ∷ earlier) (numbered_from (number + 1) (open_behind trace op) ops) in
    let same : number + 1 + length ops ≤ number + suc (length ops) = omega arith in
    low_triggers (number + suc (length ops)) number (trigger_in autos earlier trace op) more (omega arith)
    (low_from (number + 1 + length ops) (number + suc (length ops)) (sent_names more) same (low_names autos (here ∷ earlier) (number + 1) (open_behind trace op) ops))

pub names_low : (autos : List AutoRule) (ops : List Operation) → AreOf (length ops) (names_of autos ops)
names_low autos ops = subst (λ n. AreOf n (names_of autos ops)) (let e : 0 + length ops ≡ length ops = omega arith in e) (low_names autos [] 0 None ops)

-- ---- a client's script

pub client_sound : (autos : List AutoRule) (client : ClientId) (ops : List Operation) (script : Script) → IsClientScript autos client ops script → IsSound script
client_sound autos client ops script is = is_sound (points_by client ops) (names_of autos ops) (length ops) is.low (names_low autos ops) script is.is

pub client_part : (autos : List AutoRule) (client : ClientId) (ops : List Operation) (script : Script) (from count : ℕ) → IsClientScript autos client ops script
    → part_of from count script ≡ events_from (points_by client ops) (names_of autos ops) from count
client_part autos client ops script from count is = part_is (points_by client ops) (names_of autos ops) (length ops) is.low (names_low autos ops) script is.is from count
