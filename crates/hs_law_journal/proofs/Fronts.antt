-- What holds of any journal that is followed: an agent has taken a front of what each client sent and of what it was asked, in order.
use Rattle.std.proofs.Common.{◌≡◌, inl, inr, ℕ, ◌<◌, ◌≤◌, Bool, true, false, cond, List, [], ◌∷◌, ◌++◌, length, refl, sym, ap, subst, ◌∙◌, Option, Some, None, arith, map, option_map, slice_get, nat_eq, eqb-true, append-nil, append_assoc, length-append, IsSome}
use Rattle.hs_law_journal.proofs.Prelude.{AllByRecursion, flat_map, range_with_len, option_and_then, option_map_or, slice_get-map, slice_get_within, length-map, same_Some, all_append, all_each, all_set, all_at, mapped_from, Messages, Step, PlainJournal, EventsAddThis, AgentState, Chunk, Crumbed, Triggered, Asked, Turn, Answered, Given, Missed, Unread, AgentEvent, Took, Gave, after_event, PlainSettings, PlainWorkload, Sent, ClientSends, client_sends, node_sends, Queue, Chunks, Crumbs, Triggers, Asks, taken, asks_to, asks_behind, next_of, event_of, perform, NodeRun, Run, node_start, run_start, Performs, Leads, Stays, Goes}
use Rattle.std.proofs.lemmas.Grind.{flat_map-append}
use Rattle.std.proofs.lemmas.List.FromFn.{length-range_with_len}
use Rattle.hs_records.specs.declared.journal.Step.TheVariants as steps
use Rattle.hs_law_agent.specs.State.{start}
use Rattle.hs_law_agent.specs.Stepping.{after_from, after}
use Rattle.hs_client.specs.OneMore.{items_of}
use Rattle.hs_law_journal.specs.Doings.{steps_of, chunk_in, crumb_in, trigger_in, ask_in, chunks_in, crumbs_in, triggers_in, asks_in}
use Rattle.hs_law_journal.specs.Fronts.{IsFront, sent_by}
use Rattle.hs_law_journal.specs.LoopPasses.{IsOwn, HandsReady}
use Rattle.hs_law_journal.proofs.ItemsTaken.{own_log, taken_chunks, taken_crumbs, taken_triggers, taken_asks}
use Rattle.hs_law_journal.proofs.Steps.{asks_more, step_from, heard_from}

-- ---- fronts of lists

module _ {X : Type 0} where
  pub none_front : (ys : List X) → IsFront [] ys
  none_front ys = record { more = ys; is = refl }

  pub quiet_front : (xs ys : List X) → IsFront xs ys → IsFront (xs ++ []) ys
  quiet_front xs ys f = subst (λ (zs : List X). IsFront zs ys) (sym (append-nil xs)) f

  pub front_on : (xs ys zs : List X) → IsFront xs ys → IsFront xs (ys ++ zs)
  front_on xs ys zs f = record { more = f.more ++ zs; is = ap (λ (front : List X). front ++ zs) f.is ∙ append_assoc xs f.more zs }

  pub front_few : (xs ys : List X) → IsFront xs ys → length xs ≤ length ys
  front_few xs ys f = let long = ap length f.is in let both = length-append xs f.more in omega (arith, long, both)

  pub front_next : (xs ys : List X) (x : X) → IsFront xs ys → slice_get ys (length xs) ≡ Some x → IsFront (xs ++ x ∷ []) ys
  front_next xs ys x f there = go f.more f.is (sym (behind xs f.more) ∙ ap (λ (ys : List X). slice_get ys (length xs)) (sym f.is) ∙ there)
    where
      behind : (xs rest : List X) → slice_get (xs ++ rest) (length xs) ≡ slice_get rest 0
      behind [] rest = refl
      behind (y ∷ xs) rest = behind xs rest

      go : (rest : List X) → ys ≡ xs ++ rest → slice_get rest 0 ≡ Some x → IsFront (xs ++ x ∷ []) ys
      go [] e h = let no : None ≡ Some x = h in absurd cc
      go (y ∷ rest) e h = record { more = rest; is = e ∙ ap (λ (z : X). xs ++ z ∷ rest) (same_Some y x h) ∙ sym (append_assoc xs (x ∷ []) rest) }

-- ---- a node

abbrev Ready : AgentState → AgentEvent → Type 0
Ready state (Took input) = Unit {0}
Ready state (Gave answer) = IsSome (slice_get state.hand 0)

module _ (settings : PlainSettings) (node : ℕ) where
  hands_on : (events : List AgentEvent) (state : AgentState) (event : AgentEvent) → HandsReady settings node state events → Ready (after_from settings node state events) event → HandsReady settings node state (events ++ event ∷ [])
  hands_on [] state (Took input) h r = tt
  hands_on [] state (Gave answer) h r = (r, tt)
  hands_on (Took input ∷ events) state event h r = hands_on events (after_event settings node state (Took input)) event h r
  hands_on (Gave answer ∷ events) state event h r = (h.0, hands_on events (after_event settings node state (Gave answer)) event h.1 r)

  after_on : (events : List AgentEvent) (state : AgentState) (event : AgentEvent) → after_from settings node state (events ++ event ∷ []) ≡ after_event settings node (after_from settings node state events) event
  after_on [] state event = refl
  after_on (first ∷ events) state event = after_on events (after_event settings node state first) event

module _ (W : PlainWorkload) (J : PlainJournal) where
  pub record HasFronts (heard : Messages) (run : NodeRun) : Type 0 where
    pub sends : run.sends ≡ node_sends W J run.node
    pub comes : run.state ≡ after W.settings run.node run.events
    pub own : AllByRecursion (IsOwn W) run.events
    pub chunks : (client : ℕ) → IsFront (chunks_in client run.events) (sent_by (λ s. s.chunks) run client)
    pub crumbs : (client : ℕ) → IsFront (crumbs_in client run.events) (sent_by (λ s. s.crumbs) run client)
    pub triggers : (client : ℕ) → IsFront (triggers_in client run.events) (sent_by (λ s. s.triggers) run client)
    pub asks : IsFront (asks_in run.events) (asks_to run.node heard)
    pub hands : HandsReady W.settings run.node (start W.settings) run.events

  -- what an event adds
  record Adds (heard : Messages) (run : NodeRun) (event : AgentEvent) : Type 0 where
    own : IsOwn W event
    ready : Ready run.state event
    chunks : (client : ℕ) → IsFront (chunks_in client run.events ++ chunk_in client event) (sent_by (λ s. s.chunks) run client)
    crumbs : (client : ℕ) → IsFront (crumbs_in client run.events ++ crumb_in client event) (sent_by (λ s. s.crumbs) run client)
    triggers : (client : ℕ) → IsFront (triggers_in client run.events ++ trigger_in client event) (sent_by (λ s. s.triggers) run client)
    asks : IsFront (asks_in run.events ++ ask_in event) (asks_to run.node heard)

  -- the next item of a queue of a client
  record HasNext {A : Type 0} (run : NodeRun) (queue : Queue) (part : ClientSends → List (Sent A)) (client : ℕ) (event : AgentEvent) (f : A → AgentEvent) : Type 0 where
    item : A
    low : client < W.settings.clients
    there : slice_get (sent_by part run client) (taken queue run.state.log) ≡ Some item
    is : f item ≡ event

  next_at : {A : Type 0} (run : NodeRun) (queue : Queue) (part : ClientSends → List (Sent A)) (client : ℕ) (event : AgentEvent) (f : A → AgentEvent) → run.sends ≡ node_sends W J run.node
      → (o : Option ClientSends) → slice_get run.sends client ≡ o → option_and_then (λ (sends : ClientSends). option_map f (next_of queue run.state (part sends))) o ≡ Some event → HasNext run queue part client event f
  next_at run queue part client event f are None e h = let no : None ≡ Some event = h in absurd cc
  next_at {A = A} run queue part client event f are (Some sends) e h =
      let m = mapped_from f (next_of queue run.state (part sends)) event h in
      let within = slice_get_within run.sends client sends e in
      let count = ap length are ∙ length-map (range_with_len 0 W.settings.clients) (client_sends W J run.node) ∙ length-range_with_len 0 W.settings.clients in
      record {
        item = m.item;
        low = omega (arith, within, count);
        there =
            ap (λ (o : Option ClientSends). slice_get (option_map_or (λ (s : ClientSends). items_of (part s)) o []) (taken queue run.state.log)) e
            ∙ slice_get-map (λ (item : Sent A). item.item) (part sends) (taken queue run.state.log)
            ∙ m.there;
        is = sym m.is;
      }

  module _ (adds : EventsAddThis) (heard : Messages) (run : NodeRun) (f : HasFronts heard run) where
    pub log_is : run.state.log ≡ steps_of run.events
    log_is = ap (λ (state : AgentState). state.log) f.comes ∙ own_log adds W.settings run.node run.events

    -- where one queue of a client has an item more
    one_more : {A : Type 0} (taken_by : ℕ → List A) (sent : ℕ → List A) (other : ℕ) (item : A) → ((client : ℕ) → IsFront (taken_by client) (sent client)) → slice_get (sent other) (length (taken_by other)) ≡ Some item
        → (client : ℕ) → IsFront (taken_by client ++ cond (nat_eq other client) (item ∷ []) []) (sent client)
    one_more {A = A} taken_by sent other item fronts there client = either (nat_eq other client) refl
      where
        either : (b : Bool) → nat_eq other client ≡ b → IsFront (taken_by client ++ cond b (item ∷ []) []) (sent client)
        either true e =
            let same = eqb-true other client e in
            front_next (taken_by client) (sent client) item (fronts client) (subst (λ (c : ℕ). slice_get (sent c) (length (taken_by c)) ≡ Some item) same there)
        either false e = quiet_front (taken_by client) (sent client) (fronts client)

    quiet_asks : IsFront (asks_in run.events ++ []) (asks_to run.node heard)
    quiet_asks = quiet_front (asks_in run.events) (asks_to run.node heard) f.asks

    quiet_chunks : (client : ℕ) → IsFront (chunks_in client run.events ++ []) (sent_by (λ s. s.chunks) run client)
    quiet_chunks client = quiet_front (chunks_in client run.events) (sent_by (λ s. s.chunks) run client) (f.chunks client)

    quiet_crumbs : (client : ℕ) → IsFront (crumbs_in client run.events ++ []) (sent_by (λ s. s.crumbs) run client)
    quiet_crumbs client = quiet_front (crumbs_in client run.events) (sent_by (λ s. s.crumbs) run client) (f.crumbs client)

    quiet_triggers : (client : ℕ) → IsFront (triggers_in client run.events ++ []) (sent_by (λ s. s.triggers) run client)
    quiet_triggers client = quiet_front (triggers_in client run.events) (sent_by (λ s. s.triggers) run client) (f.triggers client)

    offer : (answer : Answered) (event : AgentEvent) → option_map (λ _. Gave answer) (slice_get run.state.hand 0) ≡ Some event → Adds heard run event
    offer answer event h =
        let m = mapped_from (λ _. Gave answer) (slice_get run.state.hand 0) event h in
        subst (Adds heard run) (sym m.is)
        (record { own = tt; ready = subst (λ (o : Option ℕ). IsSome o) (sym m.there) refl; chunks = quiet_chunks; crumbs = quiet_crumbs; triggers = quiet_triggers; asks = quiet_asks })

    step_adds : (step : Step) (event : AgentEvent) → event_of run heard step ≡ Some event → Adds heard run event
    step_adds (steps.Chunk client) event h =
        let n = next_at run (Chunks client) (λ (s : ClientSends). s.chunks) client event (λ sheet. Took (Chunk client sheet)) f.sends (slice_get run.sends client) refl h in
        let count = ap (taken (Chunks client)) log_is ∙ taken_chunks client run.events in
        subst (Adds heard run) n.is
        (record {
          own = n.low;
          ready = tt;
          chunks = one_more (λ c. chunks_in c run.events) (sent_by (λ s. s.chunks) run) client n.item f.chunks (ap (slice_get (sent_by (λ s. s.chunks) run client)) (sym count) ∙ n.there);
          crumbs = quiet_crumbs;
          triggers = quiet_triggers;
          asks = quiet_asks;
        })
    step_adds (steps.Crumb client) event h =
        let n = next_at run (Crumbs client) (λ (s : ClientSends). s.crumbs) client event (λ crumb. Took (Crumbed client crumb)) f.sends (slice_get run.sends client) refl h in
        let count = ap (taken (Crumbs client)) log_is ∙ taken_crumbs client run.events in
        subst (Adds heard run) n.is
        (record {
          own = n.low;
          ready = tt;
          chunks = quiet_chunks;
          crumbs = one_more (λ c. crumbs_in c run.events) (sent_by (λ s. s.crumbs) run) client n.item f.crumbs (ap (slice_get (sent_by (λ s. s.crumbs) run client)) (sym count) ∙ n.there);
          triggers = quiet_triggers;
          asks = quiet_asks;
        })
    step_adds (steps.Trigger client) event h =
        let n = next_at run (Triggers client) (λ (s : ClientSends). s.triggers) client event (λ trigger. Took (Triggered client trigger)) f.sends (slice_get run.sends client) refl h in
        let count = ap (taken (Triggers client)) log_is ∙ taken_triggers client run.events in
        subst (Adds heard run) n.is
        (record {
          own = n.low;
          ready = tt;
          chunks = quiet_chunks;
          crumbs = quiet_crumbs;
          triggers = one_more (λ c. triggers_in c run.events) (sent_by (λ s. s.triggers) run) client n.item f.triggers (ap (slice_get (sent_by (λ s. s.triggers) run client)) (sym count) ∙ n.there);
          asks = quiet_asks;
        })
    step_adds steps.Ask event h =
        let m = mapped_from (λ ask. Took (Asked ask)) (slice_get (asks_to run.node heard) (taken Asks run.state.log)) event h in
        let count = ap (taken Asks) log_is ∙ taken_asks run.events in
        subst (Adds heard run) (sym m.is)
        (record {
          own = tt;
          ready = tt;
          chunks = quiet_chunks;
          crumbs = quiet_crumbs;
          triggers = quiet_triggers;
          asks = front_next (asks_in run.events) (asks_to run.node heard) m.item f.asks (ap (slice_get (asks_to run.node heard)) (sym count) ∙ m.there);
        })
    step_adds steps.Turn event h = subst (Adds heard run) (same_Some (Took Turn) event h) (record { own = tt; ready = tt; chunks = quiet_chunks; crumbs = quiet_crumbs; triggers = quiet_triggers; asks = quiet_asks })
    step_adds (steps.Given stamp) event h = offer (Given stamp) event h
    step_adds (steps.Missed stamp) event h = offer (Missed stamp) event h
    step_adds steps.Unread event h = offer Unread event h

    last_of : {A : Type 0} (part : AgentEvent → List A) (event : AgentEvent) (ys : List A) → IsFront (flat_map part run.events ++ part event) ys → IsFront (flat_map part (run.events ++ event ∷ [])) ys
    last_of {A = A} part event ys front =
        subst (λ (xs : List A). IsFront xs ys) (ap (λ (last : List A). flat_map part run.events ++ last) (sym (append-nil (part event))) ∙ sym (flat_map-append part run.events (event ∷ []))) front

    performed : (rest : List Step) (event : AgentEvent) → Adds heard run event → HasFronts heard (perform W.settings rest run event)
    performed rest event a =
        record {
          sends = f.sends;
          comes = ap (λ (state : AgentState). after_event W.settings run.node state event) f.comes ∙ sym (after_on W.settings run.node run.events (start W.settings) event);
          own = all_append (IsOwn W) run.events (event ∷ []) f.own (a.own, tt);
          chunks = λ client. last_of (chunk_in client) event (sent_by (λ s. s.chunks) run client) (a.chunks client);
          crumbs = λ client. last_of (crumb_in client) event (sent_by (λ s. s.crumbs) run client) (a.crumbs client);
          triggers = λ client. last_of (trigger_in client) event (sent_by (λ s. s.triggers) run client) (a.triggers client);
          asks = last_of ask_in event (asks_to run.node heard) a.asks;
          hands = hands_on W.settings run.node run.events (start W.settings) event f.hands (subst (λ (state : AgentState). Ready state event) f.comes a.ready);
        }

  heard_on : (heard more : Messages) (run : NodeRun) → HasFronts heard run → HasFronts (heard ++ more) run
  heard_on heard more run f =
      record {
        sends = f.sends;
        comes = f.comes;
        own = f.own;
        chunks = f.chunks;
        crumbs = f.crumbs;
        triggers = f.triggers;
        asks = subst (IsFront (asks_in run.events)) (sym (asks_more run.node [] heard more)) (front_on (asks_in run.events) (asks_to run.node heard) (asks_behind run.node heard more) f.asks);
        hands = f.hands;
      }

  module _ (adds : EventsAddThis) where
    performs : (run next : Run) → AllByRecursion (HasFronts run.heard) run.nodes → Performs W.settings run next → AllByRecursion (HasFronts next.heard) next.nodes
    performs run next all (inl s) =
        let f = all_at (HasFronts run.heard) run.nodes s.place s.node all s.stands in
        let t = step_from W.settings run.heard s.node s.stepped s.ready in
        subst (λ (r : Run). AllByRecursion (HasFronts r.heard) r.nodes) (sym s.result)
        (all_set (HasFronts run.heard) run.nodes s.place s.stepped all (subst (HasFronts run.heard) (sym t.is) (performed adds run.heard s.node f t.rest t.event (step_adds adds run.heard s.node f t.step t.event t.met))))
    performs run next all (inr h) =
        let s = heard_from run next h in
        subst (λ (r : Run). AllByRecursion (HasFronts r.heard) r.nodes) (sym s.is) (all_each (HasFronts run.heard) (HasFronts (run.heard ++ s.heard ∷ [])) run.nodes (heard_on run.heard (s.heard ∷ [])) all)

    leads_fronts : (run last : Run) → AllByRecursion (HasFronts run.heard) run.nodes → Leads W.settings run last → AllByRecursion (HasFronts last.heard) last.nodes
    leads_fronts run last all (Stays r) = all
    leads_fronts run last all (Goes r next l p leads) = leads_fronts next last (performs r next all p) leads

    starts : (nodes : List ℕ) → AllByRecursion (HasFronts []) (map (node_start W J) nodes)
    starts [] = tt
    starts (node ∷ nodes) = (
      record {
        sends = refl;
        comes = refl;
        own = tt;
        chunks = λ client. none_front (sent_by (λ s. s.chunks) (node_start W J node) client);
        crumbs = λ client. none_front (sent_by (λ s. s.crumbs) (node_start W J node) client);
        triggers = λ client. none_front (sent_by (λ s. s.triggers) (node_start W J node) client);
        asks = none_front (asks_to node []);
        hands = tt;
      },
      starts nodes,
    )

    pub all_fronts : (run : Run) → Leads W.settings (run_start W J) run → AllByRecursion (HasFronts run.heard) run.nodes
    all_fronts run leads = leads_fronts (run_start W J) run (starts (range_with_len 0 W.settings.nodes)) leads
