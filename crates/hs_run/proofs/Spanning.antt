-- What a node's passes make of its story.
use Rattle.std.proofs.Common.{◌≡◌, ℕ, zero, suc, ◌+◌, ◌-◌, ◌<◌, ◌≤◌, min, Bool, true, false, cond, List, [], ◌∷◌, ◌++◌, length, refl, sym, ap, subst, ◌∙◌, arith, map, filter, drop, count_by, eqb-true, append-nil, append_assoc}
use Rattle.hs_run.proofs.Prelude.{length-map, map-append, map-map, drop_front, MAX_TAKEN, Message, Messages, message, EventsAddThis, sheets_of, AgentEvent, after, AgentState, PlainWorkload, Leased, Buffer, is_from, asks_to, asks_in, heard_of, lent_of, added, AreTurns, NodeBetweenPasses, IsNodeBetweenPasses, IsStep}
use Rattle.std.proofs.lemmas.List.Sums.{length-filter}
use Rattle.hs_law_journal.specs.LoopPasses.{EndsPass}
use Rattle.hs_law_journal.specs.Turns.{Lent}
use Rattle.hs_law_journal.proofs.Lents.{turns_more}
use Rattle.hs_law_journal.proofs.ItemsTaken.{sheets_taken}

-- ---- messages

pub heard_count : (node : ℕ) (heard : Messages) → length (heard_of node heard) ≡ count_by (is_from (record { 0 = node })) heard
heard_count node heard = length-map (filter (is_from (record { 0 = node })) heard) (λ (m : Message). m.told) ∙ counted heard
  where
    counted : (heard : Messages) → length (filter (is_from (record { 0 = node })) heard) ≡ count_by (is_from (record { 0 = node })) heard
    counted heard = length-filter (is_from (record { 0 = node })) heard

from_node : (node : ℕ) (m : Message) → is_from (record { 0 = node }) m ≡ true → message (record { 0 = node }) m.told ≡ m
from_node node m is = let same : m.node.0 ≡ node = eqb-true m.node.0 node is in ap (λ n. message (record { 0 = n }) m.told) (sym same)

-- what was heard of a node, as messages
pub heard_messages : (node : ℕ) (heard : Messages) → filter (is_from (record { 0 = node })) heard ≡ map (message (record { 0 = node })) (heard_of node heard)
heard_messages node [] = refl
heard_messages node (m ∷ heard) = either (is_from (record { 0 = node }) m) refl (heard_messages node heard)
  where
    either : (b : Bool) → is_from (record { 0 = node }) m ≡ b → filter (is_from (record { 0 = node })) heard ≡ map (message (record { 0 = node })) (heard_of node heard)
        → cond b (m ∷ filter (is_from (record { 0 = node })) heard) (filter (is_from (record { 0 = node })) heard)
        ≡ map (message (record { 0 = node })) (map (λ (m : Message). m.told) (cond b (m ∷ filter (is_from (record { 0 = node })) heard) (filter (is_from (record { 0 = node })) heard)))
    either true is h = ap (λ x. x ∷ filter (is_from (record { 0 = node })) heard) (sym (from_node node m is)) ∙ ap (λ rest. message (record { 0 = node }) m.told ∷ rest) h
    either false is h = h

-- ---- passes

module _ (W : PlainWorkload) (node passes : ℕ) (heard : ℕ → Messages) (post : ℕ → NodeBetweenPasses)
    (posts : (k : ℕ) → k ≤ passes → IsNodeBetweenPasses W node (heard k) (post k)) (steps : (k : ℕ) → k < passes → IsStep W node (heard k) (heard (suc k)) (post k) (post (suc k)))
  where
    abbrev pub events_by : ℕ → List AgentEvent
    events_by k = (post k).work.events

    pub added_is : (k : ℕ) (few : k < passes) → added events_by k ≡ (steps k few).pass
    added_is k few = ap (drop (length (events_by k))) (steps k few).events ∙ drop_front (events_by k) (steps k few).pass

    pub grows : (k : ℕ) (few : k < passes) → events_by (suc k) ≡ events_by k ++ added events_by k
    grows k few = (steps k few).events ∙ ap (λ pass. events_by k ++ pass) (sym (added_is k few))

    pub ends_pass : (k : ℕ) (few : k < passes) → EndsPass W (after W.settings node (events_by (suc k))) (added events_by k)
    ends_pass k few = subst (EndsPass W (after W.settings node (events_by (suc k)))) (sym (added_is k few)) (subst (λ (s : AgentState). EndsPass W s (steps k few).pass) state (steps k few).ends)
      where
        state : after W.settings (post k).work.node (events_by k ++ (steps k few).pass) ≡ after W.settings node (events_by (suc k))
        state = ap (λ m. after W.settings m (events_by k ++ (steps k few).pass)) (posts k (omega (arith, few))).node_is ∙ ap (after W.settings node) (sym (steps k few).events)

    -- the chunks of earlier passes stand first
    record CameBy (k : ℕ) : Type 0 where
      more : List (Buffer Leased)
      came : (post passes).work.came ≡ (post k).work.came ++ more

    came_from : (d k : ℕ) → k + d ≡ passes → CameBy k
    came_from zero k is = let same : passes ≡ k = omega (arith, is) in record { more = []; came = ap (λ m. (post m).work.came) same ∙ sym (append-nil (post k).work.came) }
    came_from (suc d) k is =
        let rest = came_from d (suc k) (omega (arith, is)) in
        let step = steps k (omega (arith, is)) in
        record { more = step.came ++ rest.more; came = rest.came ∙ ap (λ front. front ++ rest.more) step.came_is ∙ append_assoc (post k).work.came step.came rest.more }

    pub turns_by : (k : ℕ) → k ≤ passes → AreTurns W.settings node (map lent_of (post passes).work.came) (events_by k) (post k).giver.turns
    turns_by k low =
        let c = came_from (passes - k) k (omega (arith, low)) in
        subst (λ (lents : List Lent). AreTurns W.settings node lents (events_by k) (post k).giver.turns) (sym (map-append lent_of (post k).work.came c.more) ∙ ap (map lent_of) (sym c.came))
        (turns_more W.settings node (map lent_of (post k).work.came) (map lent_of c.more) (events_by k) (post k).giver.turns (posts k low).turns)

    pub lents_are : EventsAddThis → map (λ (lent : Lent). lent.sheet) (map lent_of (post passes).work.came) ≡ sheets_of (after W.settings node (events_by passes)).taken
    lents_are adds = map-map (λ (lent : Lent). lent.sheet) lent_of (post passes).work.came ∙ (posts passes (omega arith)).sheets ∙ sym (sheets_taken adds W.settings node (events_by passes))

    -- ---- asks and messages

    said_long : (k : ℕ) → k ≤ passes → length (post k).work.moved ≡ length (after W.settings node (events_by k)).said
    said_long k low = ap length (posts k low).moved

    pub asked_before : (k : ℕ) → k < passes → length (asks_in (events_by (suc k))) ≤ length (asks_to node (heard k))
    asked_before k few = let all = ap length (posts k (omega (arith, few))).asked in let some = (steps k few).few in omega (arith, all, some)

    pub asks_taken : (k : ℕ) → k < passes → min (length (asks_to node (heard k))) (length (asks_in (events_by k)) + MAX_TAKEN) ≤ length (asks_in (events_by (suc k)))
    asks_taken k few = let all = ap length (posts k (omega (arith, few))).asked in let some = (steps k few).asks in omega (arith, all, some)

    pub said_before : (k : ℕ) → k ≤ passes → count_by (is_from (record { 0 = node })) (heard k) ≤ length (after W.settings node (events_by k)).said
    said_before k low = let count = heard_count node (heard k) in let most = (posts k low).hears in let said = said_long k low in omega (arith, count, most, said)

    pub hears_said : (k : ℕ) → k < passes → min (count_by (is_from (record { 0 = node })) (heard k) + MAX_TAKEN) (length (after W.settings node (events_by k)).said) ≤ count_by (is_from (record { 0 = node })) (heard (suc k))
    hears_said k few =
        let before = heard_count node (heard k) in
        let behind = heard_count node (heard (suc k)) in
        let said = said_long k (omega (arith, few)) in
        let is = (steps k few).hears in
        omega (arith, before, behind, said, is)
