-- What was taken is a front of what is there, and so is what was heard; so there is no less.
use Rattle.std.proofs.Common.{◌≡◌, ℕ, ◌<◌, ◌≤◌, Bool, true, false, List, [], length, ap, Option, Some, None, arith, map, filter, slice_get, count_by, nat_lt, ltb-true, ltb-false, eqb, eqb-true, refl}
use Rattle.hs_law_journal.proofs.Prelude.{flat_map, option_map_or, length-map, all_each, NodeId, Message, Messages, message, PlainJournal, EventsAddThis, StepsSayWhatTheyTell, AgentEvent, PlainWorkload, Sent, ClientSends, Queue, Chunks, Crumbs, Triggers, Asks, taken, asks_to, is_from, NodeRun, Run, sent_to, supply}
use Rattle.std.proofs.lemmas.List.Sums.{length-filter}
use Rattle.hs_base.proofs.Filters.{filter_none}
use Rattle.hs_base.proofs.Places.{get_there}
use Rattle.hs_client.specs.OneMore.{items_of}
use Rattle.hs_law_journal.specs.Doings.{steps_of, chunk_in, crumb_in, trigger_in, ask_in}
use Rattle.hs_law_journal.specs.Fronts.{IsFront, sent_by}
use Rattle.hs_law_journal.specs.Supply.{said_at, NothingIsTakenUnsent}
use Rattle.hs_law_journal.proofs.Fronts.{HasFronts, log_is, front_few, all_fronts}
use Rattle.hs_law_journal.proofs.Heard.{IsHeard, all_heard}
use Rattle.hs_law_journal.proofs.ItemsTaken.{taken_chunks, taken_crumbs, taken_triggers, taken_asks}

pub same_supply : (a b : NodeRun) (heard : Messages) (queue : Queue) → a.sends ≡ b.sends → a.node ≡ b.node → supply a heard queue ≡ supply b heard queue
same_supply a b heard (Chunks client) e f = ap (λ (sends : List ClientSends). option_map_or (sent_to (Chunks client)) (slice_get sends client) 0) e
same_supply a b heard (Crumbs client) e f = ap (λ (sends : List ClientSends). option_map_or (sent_to (Crumbs client)) (slice_get sends client) 0) e
same_supply a b heard (Triggers client) e f = ap (λ (sends : List ClientSends). option_map_or (sent_to (Triggers client)) (slice_get sends client) 0) e
same_supply a b heard Asks e f = ap (λ (node : ℕ). length (asks_to node heard)) f

sent_long : {A : Type 0} (part : ClientSends → List (Sent A)) (o : Option ClientSends) → length (option_map_or (λ (s : ClientSends). items_of (part s)) o []) ≡ option_map_or (λ (s : ClientSends). length (part s)) o 0
sent_long part None = refl
sent_long {A = A} part (Some sends) = length-map (part sends) (λ (item : Sent A). item.item)

module _ (adds : EventsAddThis) (W : PlainWorkload) (J : PlainJournal) (heard : Messages) (run : NodeRun) (f : HasFronts W J heard run) where
  -- what was taken of a client is a front of what it sent
  few_sent : {A : Type 0} (part : ClientSends → List (Sent A)) (queue : Queue) (client : ℕ) (one : AgentEvent → List A) → taken queue (steps_of run.events) ≡ length (flat_map one run.events) → IsFront (flat_map one run.events) (sent_by part run client)
      → taken queue run.state.log ≤ option_map_or (λ (s : ClientSends). length (part s)) (slice_get run.sends client) 0
  few_sent part queue client one count front =
      let log = ap (taken queue) (log_is W J adds heard run f) in
      let long = sent_long part (slice_get run.sends client) in
      let few = front_few (flat_map one run.events) (sent_by part run client) front in
      omega (arith, count, log, long, few)

  few_taken : (queue : Queue) → taken queue run.state.log ≤ supply run heard queue
  few_taken (Chunks client) = few_sent (λ s. s.chunks) (Chunks client) client (chunk_in client) (taken_chunks client run.events) (f.chunks client)
  few_taken (Crumbs client) = few_sent (λ s. s.crumbs) (Crumbs client) client (crumb_in client) (taken_crumbs client run.events) (f.crumbs client)
  few_taken (Triggers client) = few_sent (λ s. s.triggers) (Triggers client) client (trigger_in client) (taken_triggers client run.events) (f.triggers client)
  few_taken Asks =
      let log = ap (taken Asks) (log_is W J adds heard run f) in
      let count = taken_asks run.events in
      let few = front_few (flat_map ask_in run.events) (asks_to run.node heard) f.asks in
      omega (arith, count, log, few)

-- ---- messages

few_heard : (W : PlainWorkload) (run : Run) → IsHeard W run → (v : NodeId) → count_by (is_from v) run.heard ≤ said_at run.nodes v
few_heard W run h v = either (nat_lt v.0 (length run.nodes)) refl
  where
    count : length (filter (is_from v) run.heard) ≡ count_by (is_from v) run.heard
    count = length-filter (is_from v) run.heard

    either : (b : Bool) → nat_lt v.0 (length run.nodes) ≡ b → count_by (is_from v) run.heard ≤ said_at run.nodes v
    either true e =
        let node = get_there run.nodes v.0 (ltb-true v.0 (length run.nodes) e) in
        let few = front_few (filter (is_from v) run.heard) (map (message v) node.0.state.said) (h.each v.0 node.0 node.1).front in
        let said = ap (λ (o : Option NodeRun). option_map_or (λ (run : NodeRun). length run.state.said) o 0) node.1 in
        let long = length-map node.0.state.said (message v) in
        let all = count in
        omega (arith, few, said, long, all)
    either false e =
        let high = ltb-false v.0 (length run.nodes) e in
        let nodes = h.count in
        let none =
        ap length
        (filter_none (is_from v) run.heard
        (all_each (λ (m : Message). m.node.0 < W.settings.nodes) (λ (m : Message). is_from v m ≡ false) run.heard
        (λ m low. other m (eqb m.node.0 v.0) refl low (omega (arith, high, nodes))) h.from))
        in
        let all = count in
        omega (arith, none, all)
      where
        other : (m : Message) (b : Bool) → eqb m.node.0 v.0 ≡ b → m.node.0 < W.settings.nodes → W.settings.nodes ≤ v.0 → eqb m.node.0 v.0 ≡ false
        other m true same low high = let is = eqb-true m.node.0 v.0 same in absurd (omega (arith, is, low, high))
        other m false same low high = same

pub nothing_is_taken_unsent : StepsSayWhatTheyTell → EventsAddThis → NothingIsTakenUnsent
nothing_is_taken_unsent says adds W J run leads =
    record {
      items = all_each (HasFronts W J run.heard) (λ (node : NodeRun). (queue : Queue) → taken queue node.state.log ≤ supply node run.heard queue) run.nodes (few_taken adds W J run.heard) (all_fronts W J adds run leads);
      messages = few_heard W run (all_heard says W J run leads);
    }
