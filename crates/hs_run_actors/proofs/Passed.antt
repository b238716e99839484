-- A pass of an agent over its port.
use Rattle.std.proofs.Common.{◌≡◌, ◌⊎◌, ℕ, zero, suc, ◌+◌, ◌≤◌, List, [], ◌∷◌, ◌++◌, length, map, filter, Some, None, refl, sym, ap, subst, ◌∙◌, arith, append_assoc, length-append}
use Rattle.hs_run_actors.proofs.Prelude.{flat_map-append, length-map, same_Some, slice_get_within, slice_get, AllByRecursion, all_front, get_there, get_map, MAX_TAKEN, Ask, Crumb, Trigger, asks_in, ask_in, crumb_in, trigger_in, crumbs_in, triggers_in, Incoming, Key, IsEnd, Answered, AgentEvent, Took, Turn, Gave, step_of_answer, PlainWorkload, Leased, Buffer, IsWithin, state_at, Intake, Intakes, linked, HandsOut, HandOutFirst, intakes_of, PlainAgentActor, IsAgentActor, HasReceived, Passes, working_agent_of, CanPass, MakesPass, events_made, PlainWorkingAgent, Helping, events_from, chunks_of, stamps_of, GiverGoesOn, NodeWork, IsFew, with_events, came_of, is_of, chunk_event, crumb_event, trigger_event, ask_event, gave_event}
use Rattle.hs_law_journal.specs.Doings.{steps_of}
use Rattle.hs_law_journal.specs.LoopPasses.{EndsPass}
use Rattle.hs_law_journal.specs.Shape.{log_stamps}
use Rattle.hs_law_agent.specs.Stepping as model
use Rattle.hs_run_actors.specs.AgentActors.{EachReceives, TakesItsAsks}
use Rattle.hs_run_actors.proofs.ByClient.{crumbs_made, triggers_made, asks_made, own_chunks, came_at, came_more, is_pass}
use Rattle.hs_run_actors.proofs.Helping.{first_few}
use Rattle.hs_run_actors.proofs.Ports.{lined, line_at, end_at}

-- ---- the stamps of a pass

stamps_front : {T : Type 0} (event : T → AgentEvent) (items : List T) (more : List AgentEvent) → ((item : T) → (events : List AgentEvent) → log_stamps (steps_of (event item ∷ events)) ≡ log_stamps (steps_of events)) → log_stamps (steps_of (map event items ++ more)) ≡ log_stamps (steps_of more)
stamps_front event [] more none = refl
stamps_front event (item ∷ items) more none = none item (map event items ++ more) ∙ stamps_front event items more none

stamps_from : (client : ℕ) (helpings : List Helping) (more : List AgentEvent) → log_stamps (steps_of (events_from client helpings ++ more)) ≡ log_stamps (steps_of more)
stamps_from client [] more = refl
stamps_from client (h ∷ helpings) more =
    let a = map (chunk_event client) h.chunks in
    let b = map (crumb_event client) h.crumbs in
    let c = map (trigger_event client) h.triggers in
    let rest = events_from (suc client) helpings ++ more in
    ap (λ (l : List AgentEvent). log_stamps (steps_of l)) (append_assoc ((a ++ b) ++ c) (events_from (suc client) helpings) more ∙ append_assoc (a ++ b) c rest ∙ append_assoc a b (c ++ rest))
    ∙ stamps_front (chunk_event client) h.chunks (b ++ (c ++ rest)) (λ _ _. refl) ∙ stamps_front (crumb_event client) h.crumbs (c ++ rest) (λ _ _. refl) ∙ stamps_front (trigger_event client) h.triggers rest (λ _ _. refl) ∙ stamps_from (suc client) helpings more

stamps_offered : (answers : List Answered) → log_stamps (steps_of (map gave_event answers)) ≡ stamps_of answers
stamps_offered [] = refl
stamps_offered (model.Given stamp ∷ answers) = ap (λ (l : List ℕ). stamp ∷ l) (stamps_offered answers)
stamps_offered (model.Missed stamp ∷ answers) = ap (λ (l : List ℕ). stamp ∷ l) (stamps_offered answers)
stamps_offered (model.Unread ∷ answers) = stamps_offered answers

pub stamps_made : (helpings : List Helping) (asks : List Ask) (answers : List Answered) → log_stamps (steps_of (events_made helpings asks answers)) ≡ stamps_of answers
stamps_made helpings asks answers =
    let d = map gave_event answers in
    ap (λ (l : List AgentEvent). log_stamps (steps_of l)) (append_assoc (events_from 0 helpings ++ map ask_event asks) (Took Turn ∷ []) d ∙ append_assoc (events_from 0 helpings) (map ask_event asks) (Took Turn ∷ d))
    ∙ stamps_from 0 helpings (map ask_event asks ++ Took Turn ∷ d) ∙ stamps_front ask_event asks (Took Turn ∷ d) (λ _ _. refl) ∙ stamps_offered answers

-- ---- the receivers

module _ {T : Type 0} where
  pub out_at : (lists : List (List T)) (old new : List (Intake T)) (i : ℕ) (items : List T) (l : Intake T) → HandOutFirst lists old new → slice_get lists i ≡ Some items → slice_get old i ≡ Some l → (k : Intake T) × (slice_get new i ≡ Some k) × HandsOut items l k
  out_at [] old new i items l first at was = let none : None ≡ Some items = at in absurd cc
  out_at (x ∷ lists) [] new i items l first at was = absurd first
  out_at (x ∷ lists) (y ∷ old) [] i items l first at was = absurd first
  out_at (x ∷ lists) (y ∷ old) (z ∷ new) zero items l first at was =
      (z, refl, subst (λ (k : Intake T). HandsOut items k z) (same_Some y l was) (subst (λ (xs : List T). HandsOut xs y z) (same_Some x items at) first.0))
  out_at (x ∷ lists) (y ∷ old) (z ∷ new) (suc i) items l first at was = out_at lists old new i items l first.1 at was

  pub out_count : (lists : List (List T)) (old new : List (Intake T)) → HandOutFirst lists old new → length new ≡ length old
  out_count [] old new first = ap length first
  out_count (x ∷ lists) [] new first = absurd first
  out_count (x ∷ lists) (y ∷ old) [] first = absurd first
  out_count (x ∷ lists) (y ∷ old) (z ∷ new) first = ap suc (out_count lists old new first.1)

  module _ (field : Helping → List T) (helpings : List Helping) (old new : List (Incoming T Key)) (first : HandOutFirst (map field helpings) (lined old) (lined new)) where
    received_count : length new ≡ length old
    received_count = sym (length-map new (λ (r : Incoming T Key). linked r)) ∙ out_count (map field helpings) (lined old) (lined new) first ∙ length-map old (λ (r : Incoming T Key). linked r)

    received_at : (client : ℕ) (r : Incoming T Key) (h : Helping) → IsEnd client old r → slice_get helpings client ≡ Some h → (q : Incoming T Key) × IsEnd client new q × HandsOut (field h) (linked r) (linked q)
    received_at client r h end at =
        let (k, there_k, out) = out_at (map field helpings) (lined old) (lined new) client (field h) (linked r) first (get_map field helpings client h at) (line_at old client r end) in
        let (q, end_q, is) = end_at new client k there_k in
        (q, end_q, subst (λ (l : Intake T). HandsOut (field h) (linked r) l) is out)

    pub each_receives : length helpings ≡ length old → EachReceives old new
    each_receives number =
        record {
          count = received_count;
          each = λ client r end.
              let low = slice_get_within old client r end in
              let (h, at) = get_there helpings client (omega (arith, low, number)) in
              let (q, end_q, out) = received_at client r h end at in (
                q,
                end_q,
                (let more = ap length out.hands.1 ∙ length-append r.received (field h) in
                    let all = out.all in
                    record { same = out.hands.0; items = field h; more = out.hands.1; few = out.few; all = omega (arith, more, all) }),
              );
        }

    -- what was received behind the pass
    pub received_more : length helpings ≡ length old → (before behind : ℕ → List T) → ((client : ℕ) (r : Incoming T Key) → IsEnd client old r → r.received ≡ before client)
        → ((client : ℕ) (h : Helping) → slice_get helpings client ≡ Some h → behind client ≡ before client ++ field h) → (client : ℕ) (q : Incoming T Key) → IsEnd client new q → q.received ≡ behind client
    received_more number before behind was brings client q end =
        let count = received_count in
        let low = slice_get_within new client q end in
        let (h, at) = get_there helpings client (omega (arith, low, number, count)) in
        let (r, end_r) = get_there old client (omega (arith, low, count)) in
        let (p, end_p, out) = received_at client r h end_r at in
        let same : q ≡ p = same_Some q p (sym end ∙ end_p) in
        ap (λ (x : Incoming T Key). x.received) same ∙ out.hands.1 ∙ ap (λ (x : List T). x ++ field h) (was client r end_r) ∙ sym (brings client h at)

-- ---- the pass

module _ (W : PlainWorkload) (work : NodeWork) (old new : Intakes) (desk : PlainWorkingAgent) (made : MakesPass W work old new desk) where
  abbrev pub pass : List AgentEvent
  pass = events_made made.helpings made.asks made.answers

  abbrev pub came : List (Buffer Leased)
  came = chunks_of made.helpings

  few_chunks : AllByRecursion (λ (items : List (Buffer Leased)). length items ≤ MAX_TAKEN) (map (λ (h : Helping). h.chunks) made.helpings)
  few_chunks = first_few (map (λ (h : Helping). h.chunks) made.helpings) old.chunks new.chunks made.chunks

  few_crumbs : AllByRecursion (λ (items : List Crumb). length items ≤ MAX_TAKEN) (map (λ (h : Helping). h.crumbs) made.helpings)
  few_crumbs = first_few (map (λ (h : Helping). h.crumbs) made.helpings) old.crumbs new.crumbs made.crumbs

  few_triggers : AllByRecursion (λ (items : List Trigger). length items ≤ MAX_TAKEN) (map (λ (h : Helping). h.triggers) made.helpings)
  few_triggers = first_few (map (λ (h : Helping). h.triggers) made.helpings) old.triggers new.triggers made.triggers

  -- each chunk that came has a page of its client
  came_here : (client : ℕ) (h : Helping) → slice_get made.helpings client ≡ Some h → filter (is_of client) came ≡ h.chunks
  came_here client h at =
      let all = made.stands.works.is.within in
      let behind = tail_all work.events pass all in
      let d = map gave_event made.answers in
      let e = map ask_event made.asks in
      let first = all_front (IsWithin W work.node) (events_from 0 made.helpings) e (all_front (IsWithin W work.node) (events_from 0 made.helpings ++ e) (Took Turn ∷ []) (all_front (IsWithin W work.node) ((events_from 0 made.helpings ++ e) ++ Took Turn ∷ []) d behind)) in
      let zero_on : client ≡ 0 + client = omega arith in
      came_at client 0 client made.helpings h zero_on (own_chunks W work.node 0 made.helpings first) at
    where
      tail_all : (xs ys : List AgentEvent) → AllByRecursion (IsWithin W work.node) (xs ++ ys) → AllByRecursion (IsWithin W work.node) ys
      tail_all [] ys all = all
      tail_all (x ∷ xs) ys all = tail_all xs ys all.1

  -- what came of a client behind the pass
  pub came_behind : (client : ℕ) (h : Helping) → slice_get made.helpings client ≡ Some h → came_of client (with_events pass came work) ≡ came_of client work ++ h.chunks
  came_behind client h at = came_more client work.came came ∙ ap (λ (l : List (Buffer Leased)). came_of client work ++ l) (came_here client h at)

  pub crumbs_behind : (client : ℕ) (h : Helping) → slice_get made.helpings client ≡ Some h → crumbs_in client (work.events ++ pass) ≡ crumbs_in client work.events ++ h.crumbs
  crumbs_behind client h at = flat_map-append (crumb_in client) work.events pass ∙ ap (λ (l : List Crumb). crumbs_in client work.events ++ l) (crumbs_made client made.helpings made.asks made.answers h at)

  pub triggers_behind : (client : ℕ) (h : Helping) → slice_get made.helpings client ≡ Some h → triggers_in client (work.events ++ pass) ≡ triggers_in client work.events ++ h.triggers
  triggers_behind client h at = flat_map-append (trigger_in client) work.events pass ∙ ap (λ (l : List Trigger). triggers_in client work.events ++ l) (triggers_made client made.helpings made.asks made.answers h at)

  pub ends_pass : EndsPass W (state_at W (with_events pass [] work)) pass
  ends_pass =
      let (p, same) = is_pass made.helpings made.asks W made.answers made.number few_chunks few_crumbs few_triggers made.few_asks in
      record {
        is_pass = p;
        before = made.before;
        stamped = made.stamped;
        ends = subst (λ (l : List Answered). ((l ≡ made.before) × ((state_at W (with_events pass [] work)).hand ≡ [])) ⊎ (l ≡ made.before ++ model.Unread ∷ [])) (sym same) made.ends;
      }

  pub gives_made : GiverGoesOn old.giver new.giver (log_stamps (steps_of pass))
  gives_made = subst (λ (stamps : List ℕ). GiverGoesOn old.giver new.giver stamps) (sym (stamps_made made.helpings made.asks made.answers)) made.gives

  pub takes_asks : TakesItsAsks work pass
  takes_asks =
      let both = ap length (flat_map-append ask_in work.events pass) ∙ length-append (asks_in work.events) (asks_in pass) in
      let here = ap length (asks_made made.helpings made.asks made.answers) in
      let all = made.all_asks in
      omega (arith, both, here, all)

-- ---- over a port

module _ (W : PlainWorkload) (work : NodeWork) (old new : PlainAgentActor) (manned : IsAgentActor W work old) (made : MakesPass W work (intakes_of old.port) (intakes_of new.port) (working_agent_of new)) where
  abbrev events : List AgentEvent
  events = pass W work (intakes_of old.port) (intakes_of new.port) (working_agent_of new) made

  abbrev brought : List (Buffer Leased)
  brought = came W work (intakes_of old.port) (intakes_of new.port) (working_agent_of new) made

  count_chunks : length made.helpings ≡ length old.port.chunks
  count_chunks = made.number ∙ sym manned.stands.lines_are.chunks.count ∙ length-map old.port.chunks (λ (r : Incoming (Buffer Leased) Key). linked r)

  count_crumbs : length made.helpings ≡ length old.port.crumbs
  count_crumbs = made.number ∙ sym manned.stands.lines_are.crumbs.count ∙ length-map old.port.crumbs (λ (r : Incoming Crumb Key). linked r)

  count_triggers : length made.helpings ≡ length old.port.triggers
  count_triggers = made.number ∙ sym manned.stands.lines_are.triggers.count ∙ length-map old.port.triggers (λ (r : Incoming Trigger Key). linked r)

  received : HasReceived (with_events events brought work) new.port
  received =
      record {
        chunks = received_more (λ (h : Helping). h.chunks) made.helpings old.port.chunks new.port.chunks made.chunks count_chunks (λ c. came_of c work) (λ c. came_of c (with_events events brought work)) manned.received.chunks
            (came_behind W work (intakes_of old.port) (intakes_of new.port) (working_agent_of new) made);
        crumbs = received_more (λ (h : Helping). h.crumbs) made.helpings old.port.crumbs new.port.crumbs made.crumbs count_crumbs (λ c. crumbs_in c work.events) (λ c. crumbs_in c (work.events ++ events)) manned.received.crumbs
            (crumbs_behind W work (intakes_of old.port) (intakes_of new.port) (working_agent_of new) made);
        triggers = received_more (λ (h : Helping). h.triggers) made.helpings old.port.triggers new.port.triggers made.triggers count_triggers (λ c. triggers_in c work.events) (λ c. triggers_in c (work.events ++ events)) manned.received.triggers
            (triggers_behind W work (intakes_of old.port) (intakes_of new.port) (working_agent_of new) made);
      }

  pub passed : new.clients ≡ W.settings.clients → (p : List AgentEvent) × (c : List (Buffer Leased)) × Passes W work p c old new
  passed clients = (
    events,
    brought,
    record {
      stands = record { stands = made.stands; received = received; clients_are = clients };
      ends = ends_pass W work (intakes_of old.port) (intakes_of new.port) (working_agent_of new) made;
      gives = gives_made W work (intakes_of old.port) (intakes_of new.port) (working_agent_of new) made;
      chunks = each_receives (λ (h : Helping). h.chunks) made.helpings old.port.chunks new.port.chunks made.chunks count_chunks;
      crumbs = each_receives (λ (h : Helping). h.crumbs) made.helpings old.port.crumbs new.port.crumbs made.crumbs count_crumbs;
      triggers = each_receives (λ (h : Helping). h.triggers) made.helpings old.port.triggers new.port.triggers made.triggers count_triggers;
      asks = takes_asks W work (intakes_of old.port) (intakes_of new.port) (working_agent_of new) made;
    },
  )

-- an agent may make a pass
pub can_pass : (W : PlainWorkload) (work : NodeWork) (manned : PlainAgentActor) → IsAgentActor W work manned → IsFew W work → CanPass W work manned.clients (working_agent_of manned) (intakes_of manned.port)
can_pass W work manned is few =
    record {
      clients_are = is.clients_are;
      few = few;
      stands = is.stands;
    }
