-- A script with one operation more.
use Rattle.std.proofs.Common.{◌≡◌, ℕ, zero, suc, ◌+◌, ◌<◌, ◌≤◌, ◌==◌, cond, true, false, List, [], ◌∷◌, ◌++◌, length, get_or, Option, Some, None, refl, sym, ap, ap₂, ◌∙◌, subst, arith, eq-eqb}
use Rattle.hs_compare.proofs.Prelude.{ne_eqb, append-nil, length_push, ClientId, Operation, records_of, OneMoreOperation, comes_at, points_by, HasGone, HasScript, IsScriptOf, brought, comes_in, AreOf, IsScript, events_in, events_of, events_from, Coming, NumberedEvent, RecordWalk, Script}
use Rattle.hs_compare.proofs.Named.{events-both}
use Rattle.hs_compare.proofs.Parts.{none_past}
use Rattle.hs_compare.proofs.Pointed.{brought_none, brought_some, coming_by, more_points, same_points}
use Rattle.hs_compare.proofs.Walked.{events_more, script_next}

-- ---- one happening more

-- it is of a later operation than m
events_off : (hs : List NumberedEvent) (h : NumberedEvent) (m : ℕ) → m < h.number → events_of (hs ++ h ∷ []) m ≡ events_of hs m
events_off hs h m less =
    let apart : (h.number == m) ≡ false = ne_eqb h.number m (λ same. omega (arith, same, less)) in
    events-both hs (h ∷ []) m ∙ ap (λ b. events_of hs m ++ events_in (cond b (h ∷ []) [])) apart ∙ append-nil (events_of hs m)

-- it is the first of operation n
events_on : (hs : List NumberedEvent) (h : NumberedEvent) (n : ℕ) → AreOf n hs → h.number ≡ n → events_of (hs ++ h ∷ []) n ≡ h.event ∷ []
events_on hs h n low is =
    let here : (h.number == n) ≡ true = eq-eqb h.number n is in
    events-both hs (h ∷ []) n ∙ ap (λ es. es ++ events_of (h ∷ []) n) (none_past n hs n low (omega arith)) ∙ ap (λ b. events_in (cond b (h ∷ []) [])) here

-- nothing changes before its operation
before_same : (hs names : List NumberedEvent) (h : NumberedEvent) (k : ℕ) → k ≤ h.number → events_from (hs ++ h ∷ []) names 0 k ≡ events_from hs names 0 k
before_same hs names h zero le = refl
before_same hs names h (suc k) le =
    let one : suc k ≡ k + 1 = omega arith in
    ap (events_from (hs ++ h ∷ []) names 0) one ∙ events_more (hs ++ h ∷ []) names k
    ∙ ap₂ (λ a b. a ++ (b ++ events_of names k)) (before_same hs names h k (omega arith)) (events_off hs h k (omega arith))
    ∙ sym (events_more hs names k) ∙ ap (events_from hs names 0) (sym one)

script_with : (points names : List NumberedEvent) (h : NumberedEvent) (n : ℕ) (script : Script) → IsScript points names n script → h.number ≡ n → IsScript (points ++ h ∷ []) names n script
script_with points names h n script is at =
    record {
      events = is.events ∙ sym (before_same points names h n (omega arith));
      ends = λ m low. is.ends m low ∙ ap length (sym (before_same points names h m (omega arith)));
      count = is.count;
    }

low_more : (n : ℕ) (hs : List NumberedEvent) → AreOf n hs → AreOf (n + 1) hs
low_more n [] low = tt
low_more n (h ∷ hs) low = let first = low.0 in (omega (arith, first), low_more n hs low.1)

low_push : (n : ℕ) (hs : List NumberedEvent) (h : NumberedEvent) → AreOf n hs → h.number ≡ n → AreOf (n + 1) (hs ++ h ∷ [])
low_push n [] h low is = (omega (arith, is), tt)
low_push n (x ∷ hs) h low is = let first = low.0 in (omega (arith, first), low_push n hs h low.1 is)

-- ---- one operation more

-- the script of no operation
pub script_none : (client : ClientId) (names : List NumberedEvent) (script : Script) → script.events.items ≡ [] → script.ends.items ≡ 0 ∷ [] → IsScriptOf client names [] script
script_none client names script events ends =
    record {
      is = record {
        events = events;
        ends = λ n low. ap₂ (λ xs k. get_or xs k 0) ends (none n low) ∙ sym (ap (λ k. length (events_from (points_by client []) names 0 k)) (none n low));
        count = ap length ends;
      };
      low = tt;
    }
  where
    none : (n : ℕ) → n ≤ 0 → n ≡ 0
    none n low = omega arith

module _ (one : OneMoreOperation) (names : List NumberedEvent) (ops : List Operation) (op : Operation) (walk next : RecordWalk) (script after : Script) (has : HasScript names ops walk script) (client : next.client ≡ walk.client)
    (gone : HasGone (ops ++ op ∷ []) next) (ends : after.ends.items ≡ script.ends.items ++ length after.events.items ∷ []) where
  abbrev points : List NumberedEvent
  points = points_by walk.client ops

  told : (more : List NumberedEvent) → more ≡ points_by walk.client (ops ++ op ∷ []) → IsScript more names (length ops + 1) after → AreOf (length ops + 1) more → HasScript names (ops ++ op ∷ []) next after
  told more are is low =
      let same : more ≡ points_by next.client (ops ++ op ∷ []) = are ∙ ap (λ c. points_by c (ops ++ op ∷ [])) (sym client) in
      let long : length ops + 1 ≡ length (ops ++ op ∷ []) = sym (length_push ops op) in
      record {
        gone = gone;
        holds = record {
          is = subst (λ (hs : List NumberedEvent). IsScript hs names (length (ops ++ op ∷ [])) after) same (subst (λ n. IsScript more names n after) long is);
          low = subst (λ (hs : List NumberedEvent). AreOf (length (ops ++ op ∷ [])) hs) same (subst (λ n. AreOf n more) long low);
        };
      }

  of_found : (found : Option Coming) → found ≡ brought walk.client ops op → after.events.items ≡ (script.events.items ++ comes_in found) ++ events_of names (length ops) → HasScript names (ops ++ op ∷ []) next after
  of_found None none events =
      let quiet = brought_none walk.client ops op none in
      told points (sym (same_points one walk.client ops op quiet))
      (script_next points names (length ops) script after has.holds.is
      (events ∙ ap (λ es. (script.events.items ++ es) ++ events_of names (length ops)) (sym (none_past (length ops) points (length ops) has.holds.low (omega arith)))) ends)
      (low_more (length ops) points has.holds.low)
  of_found (Some coming) some events =
      let found = brought_some walk.client ops op coming some in
      let h : NumberedEvent = comes_at (record { number = length ops; item = coming_by walk.client (length (records_of ops), found.0) }) in
      let here : comes_in (Some coming) ≡ events_of (points ++ h ∷ []) (length ops) = ap (λ (c : Coming). comes_in (Some c)) found.2 ∙ sym (events_on points h (length ops) has.holds.low refl) in
      told (points ++ h ∷ []) (sym (more_points one walk.client ops op found.0 found.1))
      (script_next (points ++ h ∷ []) names (length ops) script after (script_with points names h (length ops) script has.holds.is refl)
      (events ∙ ap (λ es. (script.events.items ++ es) ++ events_of names (length ops)) here) ends)
      (low_push (length ops) points h has.holds.low refl)

  pub script_on : after.events.items ≡ (script.events.items ++ comes_in (brought walk.client ops op)) ++ events_of names (length ops) → HasScript names (ops ++ op ∷ []) next after
  script_on events = of_found (brought walk.client ops op) refl events
