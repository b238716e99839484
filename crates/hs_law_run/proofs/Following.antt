-- What was done, told pass by pass, is an order in which the journal is followed: each step is ready when it comes.
use Rattle.std.proofs.Common.{◌≡◌, inl, inr, ℕ, zero, suc, ◌+◌, ◌<◌, ◌≤◌, Bool, true, false, ◌&&◌, cond, List, [], ◌∷◌, ◌++◌, length, set, take, drop, refl, sym, ap, subst, ◌∙◌, Option, Some, None, IsSome, arith, map, filter, option_map, slice_get, unwrap_or, count_by, eq-eqb, nat_eq, append-nil, append_assoc, take_all, ◌==◌}
use Rattle.hs_law_run.proofs.Prelude.{AllByRecursion, flat_map, range_with_len, list_all, option_and_then, flat_map-append, filter-append, length-append, map-append, slice_get-map, same_Some, all_at, all_back, range_at, NodeId, Message, Messages, message, Step, PlainJournal, noted_as, EventsAddThis, AgentState, start, Chunk, Crumbed, Triggered, Asked, Answered, Missed, Unread, AgentEvent, Took, Gave, after_event, after_from, after, step_of_answer, PlainSettings, PlainWorkload, Sent, ClientSends, client_sends, node_sends, items_of, Queue, Chunks, Crumbs, Triggers, Asks, taken, asks_behind, asks_to, NodeRun, Run, log_at, is_from, is_done, asks_more, joined, NodeDoings, Doings, all_events, events_in, steps_of, state_after, last_state, chunk_in, crumb_in, trigger_in, chunks_in, crumbs_in, triggers_in, asks_in, all_heard, journal_of, node_at_end, run_of, IsOwn, HandsReady, IsPlayable, ArePlayable, DoingsAreFollowed, IsFront, slice_get_within}
use Rattle.std.specs.Option.{option_to_list}
use Rattle.std.proofs.lemmas.List.{drop_all}
use Rattle.std.proofs.lemmas.List.Sums.{sum_by-cons, sum_by-append}
use Rattle.hs_base.proofs.Places.{get_front_same, get_there}
use Rattle.hs_base.proofs.Counts.{one_if as one}
use Rattle.hs_base.specs.declared.told.Told.{Told}
use Rattle.hs_records.specs.declared.journal.Step.TheVariants as steps
use Rattle.hs_law_agent.specs.Laws.{EventsGoOn, StepsSayWhatTheyTell}
use Rattle.hs_law_agent.specs.State as model
use Rattle.hs_law_agent.specs.Stepping.{Turn, told_by, Given}
use Rattle.hs_law_journal.specs.Following.{node_start, run_start, next_of, event_of, perform, step_node, message_of}
use Rattle.hs_law_journal.specs.Orders.{Leads, Stays, Goes, OrdersAgree, DoneIsAtRest}
use Rattle.hs_law_journal.specs.Doings.{ask_in, heard_in}
pub use Rattle.hs_law_journal.proofs.ItemsTaken.{taken_chunks, taken_crumbs, taken_triggers, taken_asks}
use Rattle.hs_law_journal.proofs.Joined.{take_next}
use Rattle.hs_law_run.proofs.Nodes.{node_there, own_log}

-- ---- lists

module _ {X : Type 0} where
  pub get_behind : (xs ys : List X) (y : X) → slice_get (xs ++ y ∷ ys) (length xs) ≡ Some y
  get_behind [] ys y = refl
  get_behind (x ∷ xs) ys y = get_behind xs ys y

  set_behind : (xs ys : List X) (y z : X) → set (xs ++ y ∷ ys) (length xs) z ≡ xs ++ z ∷ ys
  set_behind [] ys y z = refl
  set_behind (x ∷ xs) ys y z = ap (λ rest. x ∷ rest) (set_behind xs ys y z)

  joined_both : (a b : List (List X)) → joined (a ++ b) ≡ joined a ++ joined b
  joined_both [] b = refl
  joined_both (x ∷ a) b = ap (λ rest. x ++ rest) (joined_both a b) ∙ sym (append_assoc x (joined a) (joined b))

  drop_next : (lists : List (List X)) (k : ℕ) (next : List X) → slice_get lists k ≡ Some next → joined (drop k lists) ≡ next ++ joined (drop (suc k) lists)
  drop_next [] k next h = let no : None ≡ Some next = h in absurd cc
  drop_next (x ∷ lists) zero next h = ap (λ y. y ++ joined lists) (same_Some x next h)
  drop_next (x ∷ lists) (suc k) next h = drop_next lists k next h

  parted : (lists : List (List X)) (k : ℕ) → joined (take k lists) ++ joined (drop k lists) ≡ joined lists
  parted lists zero = refl
  parted [] (suc k) = refl
  parted (x ∷ lists) (suc k) = append_assoc x (joined (take k lists)) (joined (drop k lists)) ∙ ap (λ rest. x ++ rest) (parted lists k)

-- ---- one event

-- the item that comes next is the one at this place
item_at : {A : Type 0} (f : AgentEvent → List A) (before : List AgentEvent) (event : AgentEvent) (behind : List AgentEvent) (x : A) (all : List A) → f event ≡ x ∷ [] → IsFront (flat_map f (before ++ event ∷ behind)) all
    → slice_get all (length (flat_map f before)) ≡ Some x
item_at f before event behind x all is front =
    ap (λ items. slice_get items (length (flat_map f before)))
    (front.is ∙ ap (λ first. first ++ front.more) (flat_map-append f before (event ∷ behind) ∙ ap (λ own. flat_map f before ++ (own ++ flat_map f behind)) is) ∙ append_assoc (flat_map f before) (x ∷ flat_map f behind) front.more)
    ∙ get_behind (flat_map f before) (flat_map f behind ++ front.more) x

next_item : {A : Type 0} (queue : Queue) (state : AgentState) (f : AgentEvent → List A) (before : List AgentEvent) (event : AgentEvent) (behind : List AgentEvent) (x : A) (items : List (Sent A)) → f event ≡ x ∷ [] → state.log ≡ steps_of before
    → taken queue (steps_of before) ≡ length (flat_map f before) → IsFront (flat_map f (before ++ event ∷ behind)) (items_of items) → next_of queue state items ≡ Some x
next_item queue state f before event behind x items is log count same =
    sym (slice_get-map (λ (item : Sent _). item.item) items (taken queue state.log))
    ∙ ap (λ l. slice_get (items_of items) (taken queue l)) log
    ∙ ap (slice_get (items_of items)) count
    ∙ item_at f before event behind x (items_of items) is same

front_so : {A : Type 0} {a b c : List A} → a ≡ b → IsFront b c → IsFront a c
front_so {A} {a} {b} {c} e f = record { more = f.more; is = f.is ∙ ap (λ first. first ++ f.more) (sym e) }

own_item : {A : Type 0} (client : ℕ) (x : A) → cond (nat_eq client client) (x ∷ []) [] ≡ x ∷ []
own_item client x = ap (λ b. cond b (x ∷ []) []) (eq-eqb client client refl)

module _ (adds : EventsAddThis) (on : EventsGoOn) (W : PlainWorkload) (d : Doings) where
  abbrev J : PlainJournal
  J = journal_of W d

  abbrev settings : PlainSettings
  settings = W.settings

  -- a node that has met these events, with these steps left
  abbrev node_at : NodeDoings → List AgentEvent → List Step → NodeRun
  node_at n before left = record { node = n.node; sends = node_sends W J n.node; left = left; events = before; state = after settings n.node before }

  sends_at : (n : NodeDoings) (client : ℕ) → client < settings.clients → slice_get (node_sends W J n.node) client ≡ Some (client_sends W J n.node client)
  sends_at n client low =
      let here : 0 + client ≡ client = omega arith in
      slice_get-map (client_sends W J n.node) (range_with_len 0 settings.clients) client
      ∙ ap (option_map (client_sends W J n.node)) (range_at 0 settings.clients client low)
      ∙ ap (λ c. Some (client_sends W J n.node c)) here

  hands_at : (node : ℕ) (before : List AgentEvent) (answer : Answered) (behind : List AgentEvent) (state : AgentState) → HandsReady settings node state (before ++ Gave answer ∷ behind) → IsSome (slice_get (after_from settings node state before).hand 0)
  hands_at node [] answer behind state ready = ready.0
  hands_at node (Took input ∷ before) answer behind state ready = hands_at node before answer behind (after_event settings node state (Took input)) ready
  hands_at node (Gave other ∷ before) answer behind state ready = hands_at node before answer behind (after_event settings node state (Gave other)) ready.1

  -- the step of an event is ready
  module _ (n : NodeDoings) (p : IsPlayable W d n) (heard more : Messages) (whole : all_heard d ≡ heard ++ more) where
    step_ready : (before : List AgentEvent) (event : AgentEvent) (behind : List AgentEvent) (left : List Step) → all_events n ≡ before ++ event ∷ behind → length (asks_in (before ++ event ∷ [])) ≤ length (asks_to n.node heard)
        → event_of (node_at n before left) heard (noted_as event) ≡ Some event
    step_ready before (Took (Chunk client sheet)) behind left all few =
        let low = (all_back (IsOwn W) before (Took (Chunk client sheet) ∷ behind) (subst (AllByRecursion (IsOwn W)) all p.own)).0 in
        let sends = client_sends W J n.node client in
        ap (option_and_then (λ (s : ClientSends). option_map (λ sheet. Took (Chunk client sheet)) (next_of (Chunks client) (after settings n.node before) s.chunks))) (sends_at n client low)
        ∙ ap (option_map (λ sheet. Took (Chunk client sheet)))
        (next_item (Chunks client) (after settings n.node before) (chunk_in client) before (Took (Chunk client sheet)) behind sheet sends.chunks (own_item client sheet) (own_log adds settings n.node before) (taken_chunks client before)
        (front_so (ap (chunks_in client) (sym all)) (p.took client low).chunks))
    step_ready before (Took (Crumbed client crumb)) behind left all few =
        let low = (all_back (IsOwn W) before (Took (Crumbed client crumb) ∷ behind) (subst (AllByRecursion (IsOwn W)) all p.own)).0 in
        let sends = client_sends W J n.node client in
        ap (option_and_then (λ (s : ClientSends). option_map (λ crumb. Took (Crumbed client crumb)) (next_of (Crumbs client) (after settings n.node before) s.crumbs))) (sends_at n client low)
        ∙ ap (option_map (λ crumb. Took (Crumbed client crumb)))
        (next_item (Crumbs client) (after settings n.node before) (crumb_in client) before (Took (Crumbed client crumb)) behind crumb sends.crumbs (own_item client crumb) (own_log adds settings n.node before) (taken_crumbs client before)
        (front_so (ap (crumbs_in client) (sym all)) (p.took client low).crumbs))
    step_ready before (Took (Triggered client trigger)) behind left all few =
        let low = (all_back (IsOwn W) before (Took (Triggered client trigger) ∷ behind) (subst (AllByRecursion (IsOwn W)) all p.own)).0 in
        let sends = client_sends W J n.node client in
        ap (option_and_then (λ (s : ClientSends). option_map (λ trigger. Took (Triggered client trigger)) (next_of (Triggers client) (after settings n.node before) s.triggers))) (sends_at n client low)
        ∙ ap (option_map (λ trigger. Took (Triggered client trigger)))
        (next_item (Triggers client) (after settings n.node before) (trigger_in client) before (Took (Triggered client trigger)) behind trigger sends.triggers (own_item client trigger) (own_log adds settings n.node before) (taken_triggers client before)
        (front_so (ap (triggers_in client) (sym all)) (p.took client low).triggers))
    step_ready before (Took (Asked ask)) behind left all few =
        let at = item_at ask_in before (Took (Asked ask)) behind ask (asks_to n.node (all_heard d)) refl (front_so (ap asks_in (sym all)) p.asked) in
        let parts : asks_to n.node (all_heard d) ≡ asks_to n.node heard ++ asks_behind n.node heard more = ap (asks_to n.node) whole ∙ asks_more n.node [] heard more in
        let count = ap length (flat_map-append ask_in before (Took (Asked ask) ∷ [])) ∙ length-append (asks_in before) (ask ∷ []) in
        let low : length (asks_in before) < length (asks_to n.node heard) = omega (arith, few, count) in
        ap (λ l. option_map (λ ask. Took (Asked ask)) (slice_get (asks_to n.node heard) (taken Asks l))) (own_log adds settings n.node before)
        ∙ ap (λ k. option_map (λ ask. Took (Asked ask)) (slice_get (asks_to n.node heard) k)) (taken_asks before)
        ∙ ap (option_map (λ ask. Took (Asked ask)))
        (sym (get_front_same (asks_to n.node heard) (asks_behind n.node heard more) (length (asks_in before)) low) ∙ ap (λ items. slice_get items (length (asks_in before))) (sym parts) ∙ at)
    step_ready before (Took Turn) behind left all few = refl
    step_ready before (Gave answer) behind left all few =
        by_hand (slice_get (after settings n.node before).hand 0) refl (hands_at n.node before answer behind (start settings) (subst (HandsReady settings n.node (start settings)) all p.hands)) answer
      where
        by_hand : (o : Option ℕ) → slice_get (after settings n.node before).hand 0 ≡ o → IsSome o → (answer : Answered) → event_of (node_at n before left) heard (step_of_answer answer) ≡ Some (Gave answer)
        by_hand None e some answer = let no : false ≡ true = some in absurd cc
        by_hand (Some place) e some (Given stamp) = ap (option_map (λ _. Gave (Given stamp))) e
        by_hand (Some place) e some (Missed stamp) = ap (option_map (λ _. Gave (Missed stamp))) e
        by_hand (Some place) e some Unread = ap (option_map (λ _. Gave Unread)) e

  -- ---- a node, pass by pass

  one_more : (node : ℕ) (before : List AgentEvent) (event : AgentEvent) → after_event settings node (after settings node before) event ≡ after settings node (before ++ event ∷ [])
  one_more node before event = sym (on settings node before (event ∷ []))

  step_is : (heard : Messages) (n : NodeDoings) (before : List AgentEvent) (event : AgentEvent) (left : List Step) → event_of (node_at n before (noted_as event ∷ left)) heard (noted_as event) ≡ Some event
      → step_node settings heard (node_at n before (noted_as event ∷ left)) ≡ Some (node_at n (before ++ event ∷ []) left)
  step_is heard n before event left ready =
      ap (option_map (perform settings left (node_at n before (noted_as event ∷ left)))) ready
      ∙ ap (λ (state : AgentState). Some (record { node = n.node; sends = node_sends W J n.node; left = left; events = before ++ event ∷ []; state = state })) (one_more n.node before event)

  abbrev with_nodes : List NodeRun → List NodeId → Messages → Run
  with_nodes nodes left heard = record { nodes = nodes; left = left; heard = heard }

  leads_events : (n : NodeDoings) (p : IsPlayable W d n) (heard more : Messages) → all_heard d ≡ heard ++ more → (told : List NodeId) (front rest : List NodeRun) (es before behind : List AgentEvent) (left : List Step)
      → all_events n ≡ before ++ (es ++ behind) → length (asks_in (before ++ es)) ≤ length (asks_to n.node heard)
      → Leads settings (with_nodes (front ++ node_at n before (steps_of es ++ left) ∷ rest) told heard) (with_nodes (front ++ node_at n (before ++ es) left ∷ rest) told heard)
  leads_events n p heard more whole told front rest [] before behind left all few =
      subst (λ events. Leads settings (with_nodes (front ++ node_at n before left ∷ rest) told heard) (with_nodes (front ++ node_at n events left ∷ rest) told heard)) (sym (append-nil before))
      (Stays (with_nodes (front ++ node_at n before left ∷ rest) told heard))
  leads_events n p heard more whole told front rest (e ∷ es) before behind left all few =
      let here = with_nodes (front ++ node_at n before (noted_as e ∷ steps_of es ++ left) ∷ rest) told heard in
      let stepped = node_at n (before ++ e ∷ []) (steps_of es ++ left) in
      let next = with_nodes (front ++ stepped ∷ rest) told heard in
      let joins = append_assoc before (e ∷ []) es in
      let whole_count = ap length (ap asks_in (sym joins) ∙ flat_map-append ask_in (before ++ e ∷ []) es) ∙ length-append (asks_in (before ++ e ∷ [])) (asks_in es) in
      let ready = step_ready n p heard more whole before e (es ++ behind) (noted_as e ∷ steps_of es ++ left) all (omega (arith, few, whole_count)) in
      let later =
      leads_events n p heard more whole told front rest es (before ++ e ∷ []) behind left (all ∙ sym (append_assoc before (e ∷ []) (es ++ behind)))
      (subst (λ events. length (asks_in events) ≤ length (asks_to n.node heard)) (sym joins) few)
      in
      Goes here next (with_nodes (front ++ node_at n (before ++ e ∷ es) left ∷ rest) told heard)
      (inl
      (record {
        place = length front;
        node = node_at n before (noted_as e ∷ steps_of es ++ left);
        stepped = stepped;
        stands = get_behind front rest (node_at n before (noted_as e ∷ steps_of es ++ left));
        ready = step_is heard n before e (steps_of es ++ left) ready;
        result = ap (λ nodes. with_nodes nodes told heard) (sym (set_behind front rest (node_at n before (noted_as e ∷ steps_of es ++ left)) stepped));
      }))
      (subst (λ events. Leads settings next (with_nodes (front ++ node_at n events left ∷ rest) told heard)) joins later)

  leads_both : (a b c : Run) → Leads settings a b → Leads settings b c → Leads settings a c
  leads_both a b c (Stays r) second = second
  leads_both a b c (Goes r next l p first) second = Goes r next c p (leads_both next b c first second)

  -- ---- all nodes make a pass

  -- a node behind its first passes
  abbrev behind_passes : ℕ → NodeDoings → NodeRun
  behind_passes k n = node_at n (events_in n k) (steps_of (joined (drop k n.passes)))

  module _ (k : ℕ) (told : List NodeId) (heard more : Messages) (whole : all_heard d ≡ heard ++ more) (is : heard ≡ heard_in d k) where
    leads_pass : (n : NodeDoings) (p : IsPlayable W d n) (pass : List AgentEvent) → slice_get n.passes k ≡ Some pass → (front rest : List NodeRun)
        → Leads settings (with_nodes (front ++ behind_passes k n ∷ rest) told heard) (with_nodes (front ++ behind_passes (suc k) n ∷ rest) told heard)
    leads_pass n p pass h front rest =
        let left = steps_of (joined (drop (suc k) n.passes)) in
        let steps_are : steps_of (joined (drop k n.passes)) ≡ steps_of pass ++ left = ap steps_of (drop_next n.passes k pass h) ∙ map-append noted_as pass (joined (drop (suc k) n.passes)) in
        let events_are : events_in n (suc k) ≡ events_in n k ++ pass = take_next n.passes k pass h in
        let all : all_events n ≡ events_in n k ++ (pass ++ joined (drop (suc k) n.passes)) = sym (parted n.passes k) ∙ ap (λ rest. events_in n k ++ rest) (drop_next n.passes k pass h) in
        let few : length (asks_in (events_in n k ++ pass)) ≤ length (asks_to n.node heard) =
        subst (λ events. length (asks_in events) ≤ length (asks_to n.node heard)) events_are (subst (λ messages. length (asks_in (events_in n (suc k))) ≤ length (asks_to n.node messages)) (sym is) (p.asked_before k (slice_get_within n.passes k pass h)))
        in
        subst (λ events. Leads settings (with_nodes (front ++ behind_passes k n ∷ rest) told heard) (with_nodes (front ++ node_at n events left ∷ rest) told heard)) (sym events_are)
        (subst (λ steps. Leads settings (with_nodes (front ++ node_at n (events_in n k) steps ∷ rest) told heard) (with_nodes (front ++ node_at n (events_in n k ++ pass) left ∷ rest) told heard)) (sym steps_are)
        (leads_events n p heard more whole told front rest pass (events_in n k) (joined (drop (suc k) n.passes)) left all few))

    leads_passes : (ns : List NodeDoings) → AllByRecursion (IsPlayable W d) ns → AllByRecursion (λ (n : NodeDoings). k < length n.passes) ns → (front : List NodeRun)
        → Leads settings (with_nodes (front ++ map (behind_passes k) ns) told heard) (with_nodes (front ++ map (behind_passes (suc k)) ns) told heard)
    leads_passes [] each long front = Stays (with_nodes (front ++ []) told heard)
    leads_passes (n ∷ ns) each long front =
        let pass = get_there n.passes k long.0 in
        let last = behind_passes (suc k) n in
        let rest = leads_passes ns each.1 long.1 (front ++ last ∷ []) in
        let one = leads_pass n each.0 pass.0 pass.1 front (map (behind_passes k) ns) in
        leads_both (with_nodes (front ++ behind_passes k n ∷ map (behind_passes k) ns) told heard) (with_nodes (front ++ last ∷ map (behind_passes k) ns) told heard)
        (with_nodes (front ++ last ∷ map (behind_passes (suc k)) ns) told heard) one
        (subst (λ nodes. Leads settings (with_nodes nodes told heard) (with_nodes (front ++ last ∷ map (behind_passes (suc k)) ns) told heard)) (append_assoc front (last ∷ []) (map (behind_passes k) ns))
        (subst (λ nodes. Leads settings (with_nodes ((front ++ last ∷ []) ++ map (behind_passes k) ns) told heard) (with_nodes nodes told heard)) (append_assoc front (last ∷ []) (map (behind_passes (suc k)) ns)) rest))

  -- ---- the coordinator

  leads_hears : (nodes : List NodeRun) (ms heard : Messages) (left : List NodeId) → ((a b : Messages) (m : Message) → ms ≡ a ++ m ∷ b → message_of nodes (heard ++ a) m.node ≡ Some m)
      → Leads settings (with_nodes nodes (map (λ (m : Message). m.node) ms ++ left) heard) (with_nodes nodes left (heard ++ ms))
  leads_hears nodes [] heard left each = subst (λ all. Leads settings (with_nodes nodes left heard) (with_nodes nodes left all)) (sym (append-nil heard)) (Stays (with_nodes nodes left heard))
  leads_hears nodes (m ∷ ms) heard left each =
      let next = with_nodes nodes (map (λ (m : Message). m.node) ms ++ left) (heard ++ m ∷ []) in
      let here = with_nodes nodes (m.node ∷ map (λ (m : Message). m.node) ms ++ left) heard in
      let met : message_of nodes heard m.node ≡ Some m = ap (λ all. message_of nodes all m.node) (sym (append-nil heard)) ∙ each [] ms m refl in
      let rest =
      leads_hears nodes ms (heard ++ m ∷ []) left
      (λ a b other is. ap (λ all. message_of nodes all other.node) (append_assoc heard (m ∷ []) a) ∙ each (m ∷ a) b other (ap (λ all. m ∷ all) is))
      in
      Goes here next (with_nodes nodes left (heard ++ m ∷ ms))
      (inr (ap (option_map (λ (m : Message). record here { left = map (λ (m : Message). m.node) ms ++ left; heard = heard ++ m ∷ [] })) met))
      (subst (λ all. Leads settings next (with_nodes nodes left all)) (append_assoc heard (m ∷ []) ms) rest)

  -- ---- what was said

  module _ (says : StepsSayWhatTheyTell) where
    said_on : (node : ℕ) (events : List AgentEvent) (state : AgentState) → (more : List Told) × ((after_from settings node state events).said ≡ state.said ++ more)
    said_on node [] state = ([], sym (append-nil state.said))
    said_on node (event ∷ events) state =
        let rest = said_on node events (after_event settings node state event) in
        let first = said_one event in (first.0 ++ rest.0, rest.1 ∙ ap (λ said. said ++ rest.0) first.1 ∙ append_assoc state.said first.0 rest.0)
      where
        said_one : (event : AgentEvent) → (more : List Told) × ((after_event settings node state event).said ≡ state.said ++ more)
        said_one (Took input) = (option_to_list (told_by settings node state input), (says settings node state).inputs input)
        said_one (Gave answer) = ([], (says settings node state).answers answer ∙ sym (append-nil state.said))

    -- what was said in the end begins with what was said before
    said_begins : (n : NodeDoings) (k : ℕ) → (more : List Told) × ((last_state settings n).said ≡ (state_after settings n k).said ++ more)
    said_begins n k =
        let m = said_on n.node (joined (drop k n.passes)) (state_after settings n k) in
        (m.0, ap (λ events. (after settings n.node events).said) (sym (parted n.passes k)) ∙ ap (λ (s : AgentState). s.said) (on settings n.node (events_in n k) (joined (drop k n.passes))) ∙ m.1)

    told_of : (node : NodeId) (told : List Told) (i : ℕ) (m : Message) → slice_get (map (message node) told) i ≡ Some m → option_map (message node) (slice_get told i) ≡ Some m
    told_of node told i m h = sym (slice_get-map (message node) told i) ∙ h

    module _ (facts : ArePlayable W d) where
      -- a message that the coordinator took behind so many passes was said by then
      module _ (k : ℕ) (chunk : Messages) (there : slice_get d.heard k ≡ Some chunk) where
        next_is : heard_in d (suc k) ≡ heard_in d k ++ chunk
        next_is = take_next d.heard k chunk there

        abbrev rest : Messages
        rest = joined (drop (suc k) d.heard)

        all_is : (a b : Messages) (m : Message) → chunk ≡ a ++ m ∷ b → all_heard d ≡ (heard_in d k ++ a) ++ m ∷ (b ++ rest)
        all_is a b m is =
            sym (parted d.heard (suc k))
            ∙ ap (λ front. front ++ rest) (next_is ∙ ap (λ c. heard_in d k ++ c) is ∙ sym (append_assoc (heard_in d k) a (m ∷ b)))
            ∙ append_assoc (heard_in d k ++ a) (m ∷ b) rest

        met : (a b : Messages) (m : Message) → chunk ≡ a ++ m ∷ b → message_of (map (behind_passes (suc k)) d.nodes) (heard_in d k ++ a) m.node ≡ Some m
        met a b m is =
            let node = m.node in
            let all = all_is a b m is in
            let low : node.0 < settings.nodes = (all_back (λ (m : Message). m.node.0 < settings.nodes) (heard_in d k ++ a) (m ∷ (b ++ rest)) (subst (AllByRecursion (λ (m : Message). m.node.0 < settings.nodes)) all facts.from)).0 in
            let found = node_there W d facts node.0 low in
            let n = found.0 in
            let p = all_at (IsPlayable W d) d.nodes node.0 n facts.each found.1 in
            let name : record { 0 = n.node } ≡ node = ap (λ v. record { 0 = v }) found.2 in
            let own : is_from node m ≡ true = eq-eqb node.0 node.0 refl in
            let before = heard_in d k ++ a in
            let filtered : map (message node) (last_state settings n).said ≡ filter (is_from node) before ++ m ∷ (filter (is_from node) (b ++ rest) ++ p.heard.more) =
            ap (λ node. map (message node) (last_state settings n).said) (sym name)
            ∙ p.heard.is
            ∙ ap (λ node. filter (is_from node) (all_heard d) ++ p.heard.more) name
            ∙ ap (λ first. first ++ p.heard.more)
            (ap (filter (is_from node)) all
            ∙ filter-append (is_from node) before (m ∷ (b ++ rest))
            ∙ ap (λ t. filter (is_from node) before ++ cond t (m ∷ filter (is_from node) (b ++ rest)) (filter (is_from node) (b ++ rest))) own)
            ∙ append_assoc (filter (is_from node) before) (m ∷ filter (is_from node) (b ++ rest)) p.heard.more
            in
            let at : slice_get (map (message node) (last_state settings n).said) (length (filter (is_from node) before)) ≡ Some m =
            ap (λ items. slice_get items (length (filter (is_from node) before))) filtered ∙ get_behind (filter (is_from node) before) (filter (is_from node) (b ++ rest) ++ p.heard.more) m
            in
            let count : count_by (is_from node) before ≡ length (filter (is_from node) before) = counted (is_from node) before in
            let said = said_begins n (suc k) in
            let few : count_by (is_from node) (heard_in d (suc k)) ≤ length (state_after settings n (suc k)).said =
            subst (λ (node : NodeId). count_by (is_from node) (heard_in d (suc k)) ≤ length (state_after settings n (suc k)).said) name (p.said_before (suc k) (low_pass d.nodes node.0 n facts.passes found.1))
            in
            let parts : count_by (is_from node) (heard_in d (suc k)) ≡ count_by (is_from node) before + count_by (is_from node) (m ∷ b) =
            ap (count_by (is_from node)) (next_is ∙ ap (λ c. heard_in d k ++ c) is ∙ sym (append_assoc (heard_in d k) a (m ∷ b))) ∙ sum_by-append (λ (m : Message). cond (is_from node m) 1 0) before (m ∷ b)
            in
            let first : count_by (is_from node) (m ∷ b) ≡ 1 + count_by (is_from node) b = sum_by-cons (λ (m : Message). cond (is_from node m) 1 0) m b ∙ ap (λ t. cond t 1 0 + count_by (is_from node) b) own in
            let within : count_by (is_from node) before < length (state_after settings n (suc k)).said = omega (arith, few, parts, first) in
            ap (λ (o : Option NodeRun). option_and_then (λ (run : NodeRun). option_map (message node) (slice_get run.state.said (count_by (is_from node) before))) o)
            (slice_get-map (behind_passes (suc k)) d.nodes node.0 ∙ ap (option_map (behind_passes (suc k))) found.1)
            ∙ ap (option_map (message node)) (sym (get_front_same (state_after settings n (suc k)).said said.0 (count_by (is_from node) before) within) ∙ ap (λ all. slice_get all (count_by (is_from node) before)) (sym said.1))
            ∙ ap (λ i. option_map (message node) (slice_get (last_state settings n).said i)) count
            ∙ told_of node (last_state settings n).said (length (filter (is_from node) before)) m at
          where
            low_pass : (ns : List NodeDoings) (v : ℕ) (n : NodeDoings) → AllByRecursion (λ (n : NodeDoings). length n.passes ≡ length d.heard) ns → slice_get ns v ≡ Some n → suc k ≤ length n.passes
            low_pass ns v n each h = let long = all_at (λ (n : NodeDoings). length n.passes ≡ length d.heard) ns v n each h in let within = slice_get_within d.heard k chunk there in omega (arith, long, within)

            counted : (test : Message → Bool) (ms : Messages) → count_by test ms ≡ length (filter test ms)
            counted test [] = refl
            counted test (m ∷ ms) = sum_by-cons (λ (m : Message). cond (test m) 1 0) m ms ∙ either (test m) (counted test ms)
              where
                either : (t : Bool) → count_by test ms ≡ length (filter test ms) → cond t 1 0 + count_by test ms ≡ length (cond t (m ∷ filter test ms) (filter test ms))
                either true e = let one_more : 1 + count_by test ms ≡ suc (count_by test ms) = omega arith in one_more ∙ ap suc e
                either false e = let none : 0 + count_by test ms ≡ count_by test ms = omega arith in none ∙ e

      -- ---- all passes

      abbrev stage : ℕ → Run
      stage k = with_nodes (map (behind_passes k) d.nodes) (map (λ (m : Message). m.node) (joined (drop k d.heard))) (heard_in d k)

      long_enough : (k : ℕ) → k < length d.heard → (ns : List NodeDoings) → AllByRecursion (λ (n : NodeDoings). length n.passes ≡ length d.heard) ns → AllByRecursion (λ (n : NodeDoings). k < length n.passes) ns
      long_enough k low [] all = tt
      long_enough k low (n ∷ ns) all = let same = all.0 in (omega (arith, low, same), long_enough k low ns all.1)

      stage_next : (k : ℕ) → k < length d.heard → Leads settings (stage k) (stage (suc k))
      stage_next k low =
          let c = get_there d.heard k low in
          let chunk = c.0 in
          let told = map (λ (m : Message). m.node) (joined (drop k d.heard)) in
          let more = joined (drop k d.heard) in
          let told_is : told ≡ map (λ (m : Message). m.node) chunk ++ map (λ (m : Message). m.node) (joined (drop (suc k) d.heard)) =
          ap (map (λ (m : Message). m.node)) (drop_next d.heard k chunk c.1) ∙ map-append (λ (m : Message). m.node) chunk (joined (drop (suc k) d.heard))
          in
          let middle = with_nodes (map (behind_passes (suc k)) d.nodes) told (heard_in d k) in
          let hears = leads_hears (map (behind_passes (suc k)) d.nodes) chunk (heard_in d k) (map (λ (m : Message). m.node) (joined (drop (suc k) d.heard))) (met k chunk c.1) in
          leads_both (stage k) middle (stage (suc k))
          (leads_passes k told (heard_in d k) more (sym (parted d.heard k)) refl d.nodes facts.each (long_enough k low d.nodes facts.passes) [])
          (subst (λ left. Leads settings (with_nodes (map (behind_passes (suc k)) d.nodes) left (heard_in d k)) (stage (suc k))) (sym told_is)
          (subst (λ all. Leads settings (with_nodes (map (behind_passes (suc k)) d.nodes) (map (λ (m : Message). m.node) chunk ++ map (λ (m : Message). m.node) (joined (drop (suc k) d.heard))) (heard_in d k))
          (with_nodes (map (behind_passes (suc k)) d.nodes) (map (λ (m : Message). m.node) (joined (drop (suc k) d.heard))) all)) (sym (take_next d.heard k chunk c.1)) hears))

      stages : (count k : ℕ) → k + count ≡ length d.heard → Leads settings (stage k) (stage (k + count))
      stages zero k is = let here : k + 0 ≡ k = omega arith in subst (λ n. Leads settings (stage k) (stage n)) (sym here) (Stays (stage k))
      stages (suc count) k is =
          let low : k < length d.heard = omega (arith, is) in
          let more : suc k + count ≡ k + suc count = omega arith in
          leads_both (stage k) (stage (suc k)) (stage (k + suc count)) (stage_next k low) (subst (λ n. Leads settings (stage (suc k)) (stage n)) more (stages count (suc k) (more ∙ is)))

      -- ---- the beginning and the end

      abbrev log_of : NodeDoings → List Step
      log_of n = steps_of (all_events n)

      starts : (ns : List NodeDoings) (start count : ℕ) → map (λ (n : NodeDoings). n.node) ns ≡ range_with_len start count → ((i : ℕ) (n : NodeDoings) → slice_get ns i ≡ Some n → log_at J (start + i) ≡ log_of n)
          → map (node_start W J) (range_with_len start count) ≡ map (behind_passes 0) ns
      starts [] start zero numbers logs = refl
      starts [] start (suc count) numbers logs = absurd cc
      starts (n ∷ ns) start zero numbers logs = absurd cc
      starts (n ∷ ns) start (suc count) numbers logs =
          let name : n.node ≡ start = cc in
          let others : map (λ (n : NodeDoings). n.node) ns ≡ range_with_len (start + 1) count = cc in
          let zeroth : start + 0 ≡ start = omega arith in
          let log : log_at J start ≡ log_of n = ap (log_at J) (sym zeroth) ∙ logs 0 n refl in
          ap (λ own. own ∷ map (node_start W J) (range_with_len (start + 1) count))
          (ap (λ left. record { node = start; sends = node_sends W J start; left = left; events = []; state = model.start settings }) log
          ∙ ap (λ v. record { node = v; sends = node_sends W J v; left = log_of n; events = []; state = model.start settings }) (sym name))
          ∙ ap (λ all. behind_passes 0 n ∷ all) (starts ns (start + 1) count others (λ i m h. let more : start + suc i ≡ start + 1 + i = omega arith in ap (log_at J) (sym more) ∙ logs (suc i) m h))

      start_is : run_start W J ≡ stage 0
      start_is =
          ap (λ nodes. with_nodes nodes J.told [])
          (starts d.nodes 0 settings.nodes facts.numbers
          (λ i n h.
          let zeroth : 0 + i ≡ i = omega arith in
          ap (log_at J) zeroth ∙ ap (λ (o : Option (List Step)). unwrap_or o []) (slice_get-map log_of d.nodes i ∙ ap (option_map log_of) h)))

      ends : (ns : List NodeDoings) → AllByRecursion (λ (n : NodeDoings). length n.passes ≡ length d.heard) ns → map (behind_passes (length d.heard)) ns ≡ map (node_at_end W J) ns
      ends [] all = refl
      ends (n ∷ ns) all =
          let k = length d.heard in
          let whole : take k n.passes ≡ n.passes = take_all k n.passes (let same = all.0 in omega (arith, same)) in
          let none : drop k n.passes ≡ [] = drop_all k n.passes (let same = all.0 in omega (arith, same)) in
          ap (λ passes. node_at n (joined passes) (steps_of (joined (drop k n.passes))) ∷ map (behind_passes k) ns) whole
          ∙ ap (λ passes. node_at n (all_events n) (steps_of (joined passes)) ∷ map (behind_passes k) ns) none
          ∙ ap (λ rest. node_at_end W J n ∷ rest) (ends ns all.1)

      end_is : stage (0 + length d.heard) ≡ run_of W d
      end_is =
          let zeroth : 0 + length d.heard ≡ length d.heard = omega arith in
          let k = length d.heard in
          let whole : take k d.heard ≡ d.heard = take_all k d.heard (omega arith) in
          let none : drop k d.heard ≡ [] = drop_all k d.heard (omega arith) in
          ap stage zeroth
          ∙ ap (λ nodes. with_nodes nodes (map (λ (m : Message). m.node) (joined (drop k d.heard))) (heard_in d k)) (ends d.nodes facts.passes)
          ∙ ap (λ left. with_nodes (map (node_at_end W J) d.nodes) (map (λ (m : Message). m.node) (joined left)) (heard_in d k)) none
          ∙ ap (λ all. with_nodes (map (node_at_end W J) d.nodes) [] (joined all)) whole

      pub nothing_left : (ns : List NodeDoings) → list_all (λ (node : NodeRun). length node.left == 0) (map (node_at_end W J) ns) ≡ true
      nothing_left [] = refl
      nothing_left (n ∷ ns) = nothing_left ns

      done : is_done (run_of W d) ≡ true
      done = ap (λ b. b && true) (nothing_left d.nodes)

      leads : Leads settings (run_start W J) (run_of W d)
      leads =
          let from = sym start_is in
          let all : 0 + length d.heard ≡ length d.heard = omega arith in
          subst (λ run. Leads settings run (run_of W d)) from (subst (Leads settings (stage 0)) end_is (stages (length d.heard) 0 all))

pub doings_are_followed : EventsAddThis → EventsGoOn → StepsSayWhatTheyTell → DoneIsAtRest → OrdersAgree → DoingsAreFollowed
doings_are_followed adds on says rests agree W d facts =
    sym (agree W (journal_of W d) (run_of W d) (record { leads = leads adds on W d says facts; rests = rests W.settings (run_of W d) (done adds on W d says facts) }))
