-- Names and records by operation.
use Rattle.std.proofs.Common.{◌≡◌, ℕ, ◌+◌, ◌<◌, ◌≤◌, ◌==◌, cond, Bool, true, false, List, [], ◌∷◌, ◌++◌, length, get_or, map, filter, take, Some, None, refl, sym, ap, ◌∙◌, arith}
use Rattle.hs_compare.proofs.Prelude.{slice_get, flat_map, map-append, take_more, filter-append, slice_get_within, ClientId, TraceId, AutoRule, Trigger, Operation, Sent, sent_triggers, names_in, items_at, sent_comings, events_at, name_at, names_by, comes_at, points_by, sent_names, names_of, event_of, AreInTurn, events_in, events_of, both_of, NumberedEvent}
use Rattle.std.proofs.lemmas.Option.{get_or_from_slice_get, slice_get-get_or}
use Rattle.hs_check_follow.specs.Finding.{numbers_of}
use Rattle.hs_client.specs.OneMore.{items_of}
use Rattle.hs_client.specs.Order.{AreInOrder}
use Rattle.hs_compare.specs.Coming as samplers
use Rattle.hs_compare.specs.Happens.{names_at}
use Rattle.hs_compare.specs.declared.happening.ScriptEvent.TheVariants.{Names}

pub laterals_more : (number : ℕ) (laterals : List TraceId) (place : ℕ) (trace : TraceId) → Some trace ≡ slice_get laterals place
    → map (name_at number) (take (place + 1) laterals) ≡ map (name_at number) (take place laterals) ++ name_at number trace ∷ []
laterals_more number laterals place trace is =
    ap (map (name_at number)) (take_more laterals place trace (slice_get_within laterals place trace (sym is))) ∙ map-append (name_at number) (take place laterals) (get_or laterals place trace ∷ [])
    ∙ ap (λ t. map (name_at number) (take place laterals) ++ name_at number t ∷ []) (get_or_from_slice_get laterals place trace trace (sym is))

pub laterals_there : (laterals : List TraceId) (place : ℕ) → place < length laterals → None ≡ slice_get laterals place → ⊥
laterals_there [] place within none = absurd (omega arith)
laterals_there (t ∷ laterals) place within none = let some : slice_get (t ∷ laterals) place ≡ Some (get_or (t ∷ laterals) place t) = slice_get-get_or (t ∷ laterals) place t within in absurd (cc)

-- the names of triggers with their operations
pub names_are : (triggers : List (Sent Trigger)) → names_by (numbers_of triggers) (items_of triggers) ≡ sent_names triggers
names_are [] = refl
names_are (t ∷ triggers) = ap (λ ns. names_at t.number t.item ++ ns) (names_are triggers)

turn_from : (a b : ℕ) (hs : List NumberedEvent) → a ≤ b → AreInTurn b hs → AreInTurn a hs
turn_from a b [] le turn = tt
turn_from a b (h ∷ hs) le turn = (omega (arith, turn.0, le), turn.1)

turn_behind : (k n : ℕ) (traces : List TraceId) (more : List NumberedEvent) → k ≤ n → AreInTurn n more → AreInTurn k (map (name_at n) traces ++ more)
turn_behind k n [] more le turn = turn_from k n more le turn
turn_behind k n (t ∷ traces) more le turn = (le, turn_behind n n traces more (omega arith) turn)

pub names_turn : (k : ℕ) (triggers : List (Sent Trigger)) → AreInOrder k triggers → AreInTurn k (sent_names triggers)
names_turn k [] order = tt
names_turn k (t ∷ triggers) order = turn_behind k t.number (names_in t.item) (sent_names triggers) order.0 (names_turn t.number triggers order.1)

-- the names of one operation
none_of : (n m : ℕ) (traces : List TraceId) → (m == n) ≡ false → events_of (map (name_at m) traces) n ≡ []
none_of n m [] apart = refl
none_of n m (t ∷ traces) apart =
    ap (λ b. events_in (cond b (name_at m t ∷ filter (λ (h : NumberedEvent). h.number == n) (map (name_at m) traces)) (filter (λ (h : NumberedEvent). h.number == n) (map (name_at m) traces)))) apart ∙ none_of n m traces apart

all_of : (n m : ℕ) (traces : List TraceId) → (m == n) ≡ true → events_of (map (name_at m) traces) n ≡ map Names traces
all_of n m [] same = refl
all_of n m (t ∷ traces) same =
    ap (λ b. events_in (cond b (name_at m t ∷ filter (λ (h : NumberedEvent). h.number == n) (map (name_at m) traces)) (filter (λ (h : NumberedEvent). h.number == n) (map (name_at m) traces)))) same
    ∙ ap (λ es. Names t ∷ es) (all_of n m traces same)

pub events-both : (xs ys : List NumberedEvent) (n : ℕ) → events_of (xs ++ ys) n ≡ events_of xs n ++ events_of ys n
events-both xs ys n = ap events_in (filter-append (λ (h : NumberedEvent). h.number == n) xs ys) ∙ map-append (λ (h : NumberedEvent). h.event) (filter (λ (h : NumberedEvent). h.number == n) xs) (filter (λ (h : NumberedEvent). h.number == n) ys)

pub names_at_one : (triggers : List (Sent Trigger)) (n : ℕ) → events_of (sent_names triggers) n ≡ map Names (flat_map names_in (items_at n triggers))
names_at_one [] n = refl
names_at_one (t ∷ triggers) n =
    events-both (names_at t.number t.item) (sent_names triggers) n ∙ ap (λ es. events_of (names_at t.number t.item) n ++ es) (names_at_one triggers n) ∙ by (t.number == n) refl
  where
    rest : List (Sent Trigger)
    rest = filter (λ (s : Sent Trigger). s.number == n) triggers

    by : (b : Bool) → (t.number == n) ≡ b
        → events_of (names_at t.number t.item) n ++ map Names (flat_map names_in (map (λ (s : Sent Trigger). s.item) rest))
        ≡ map Names (flat_map names_in (map (λ (s : Sent Trigger). s.item) (cond b (t ∷ rest) rest)))
    by true e =
        ap (λ es. es ++ map Names (flat_map names_in (map (λ (s : Sent Trigger). s.item) rest))) (all_of n t.number (names_in t.item) e)
        ∙ sym (map-append Names (names_in t.item) (flat_map names_in (map (λ (s : Sent Trigger). s.item) rest)))
    by false e = ap (λ es. es ++ map Names (flat_map names_in (map (λ (s : Sent Trigger). s.item) rest))) (none_of n t.number (names_in t.item) e)

-- the records of one operation
pub points_at_one : (sent : List (Sent samplers.Coming)) (n : ℕ) → events_of (map comes_at sent) n ≡ map event_of (map samplers.Comes (items_at n sent))
points_at_one [] n = refl
points_at_one (s ∷ sent) n = by (s.number == n) (points_at_one sent n)
  where
    by : (b : Bool) → events_of (map comes_at sent) n ≡ map event_of (map samplers.Comes (items_at n sent))
        → events_in (cond b (comes_at s ∷ filter (λ (h : NumberedEvent). h.number == n) (map comes_at sent)) (filter (λ (h : NumberedEvent). h.number == n) (map comes_at sent)))
        ≡ map event_of (map samplers.Comes (map (λ (s : Sent samplers.Coming). s.item) (cond b (s ∷ filter (λ (s : Sent samplers.Coming). s.number == n) sent) (filter (λ (s : Sent samplers.Coming). s.number == n) sent))))
    by true ih = ap (λ es. event_of (samplers.Comes s.item) ∷ es) ih
    by false ih = ih

map_names : (traces : List TraceId) → map Names traces ≡ map event_of (map samplers.Names traces)
map_names [] = refl
map_names (t ∷ traces) = ap (λ es. Names t ∷ es) (map_names traces)

-- the events of an operation
pub events_are : (autos : List AutoRule) (client : ClientId) (ops : List Operation) (n : ℕ) → both_of (points_by client ops) (names_of autos ops) n ≡ map event_of (events_at autos client ops n)
events_are autos client ops n =
    let points = map samplers.Comes (items_at n (sent_comings client ops)) in
    let names = flat_map names_in (items_at n (sent_triggers autos ops)) in
    ap (λ es. es ++ events_of (names_of autos ops) n) (points_at_one (sent_comings client ops) n)
    ∙ ap (λ es. map event_of points ++ es) (names_at_one (sent_triggers autos ops) n ∙ map_names names)
    ∙ sym (map-append event_of points (map samplers.Names names))
