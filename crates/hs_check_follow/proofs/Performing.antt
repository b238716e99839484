-- What a node's parts are when a step was performed.
use Rattle.std.proofs.Common.{◌≡◌, ℕ, zero, suc, ◌+◌, ◌<◌, ◌^◌, false, List, [], ◌∷◌, ◌++◌, map, Option, Some, None, IsSome, refl, sym, ap, subst, ◌∙◌, option_map, append-nil}
use Rattle.hs_check_follow.proofs.Prelude.{map-append, same_Some, slice_get, option_and_then, get_front, set_same, all_at, sheet_in, Follows, after_offer, offered_next, state_of, Input, Told, FoundPage, Messages, PlainJournal, Step, Asks, Chunks, Crumbs, Triggers, takes, taken, NodeRun, perform, taken_still, MayTake, AgentState, GivenPlace, Given, Missed, Unread, AgentEvent, Took, Gave, after, Unleased, PlainSettings, PlainWorkload, Sheet, FollowedAgent, ClientsStand, HasPerformed, IsReadied, FollowedNodeStands, agent_run, name_of, named_at}
use Rattle.std.specs.Prelude.{slice_set, IfSome}
use Rattle.std.specs.List.{AllByRecursion}
use Rattle.std.specs.Option.{option_to_list, option_map_or}
use Rattle.hs_base.proofs.Alls.{all_append}
use Rattle.hs_agent.specs.Keeping.{PlainAgent}
use Rattle.hs_agent.specs.Runs as agents
use Rattle.hs_agent.specs.Runs.{IsTakable, Knows, after_input, buffers_in, first_place, input_of, point_of, told_in, with_back}
use Rattle.hs_agent.specs.declared.input.Input.TheVariants as inputs
use Rattle.hs_agent.proofs.Brought.{sheets_brought}
use Rattle.hs_records.specs.declared.journal.Step.TheVariants as steps
use Rattle.hs_law_journal.specs.Following.{offered, event_of}
use Rattle.hs_law_agent.specs.Laws.{EventsGoOn, EventsAddThis, StepsSayWhatTheyTell, brought_by, sheets_of}
use Rattle.hs_law_agent.specs.Stepping.{Answered, after_event, after_gave, step_of_answer, told_by}
use Rattle.hs_check_follow.specs.Nodes.{FollowedAgentStands, FitsChunk, IsOffer, MayTakeNext}
use Rattle.hs_check_follow.proofs.Popping.{clients_as}

-- ---- inputs

brings_page : {g : _} (settings : PlainSettings) (input : Input (Unit {0}) g) → FitsChunk settings input → AllByRecursion (λ (b : Unleased). IsSome b.chunk.page) (buffers_in input)
brings_page settings (inputs.Chunk client held) fits = (fits.0, tt)
brings_page settings (inputs.Crumb client crumb) fits = tt
brings_page settings (inputs.Trigger client trigger) fits = tt
brings_page settings (inputs.Ask ask) fits = tt
brings_page settings inputs.Turn fits = tt

-- the agent may take it
may_take : {g : _} (settings : PlainSettings) (run : NodeRun) (buffers : List Unleased) (input : Input (Unit {0}) g) → run.state ≡ after settings run.node run.events → FitsChunk settings input
    → MayTake settings run.node run.state (input_of input) → IsTakable (point_of (agent_run settings run buffers)) input
may_take settings run buffers (inputs.Chunk client held) comes fits may = record { started = fits.0; from = may; size = fits.1 }
may_take settings run buffers (inputs.Crumb client crumb) comes fits may = may
may_take settings run buffers (inputs.Trigger client trigger) comes fits may = (may.0, subst (λ (s : AgentState). s.admitted + 1 < 2 ^ 32) comes may.1)
may_take settings run buffers (inputs.Ask ask) comes fits may = may
may_take settings run buffers inputs.Turn comes fits may = tt

-- ---- what was given back

-- a page that was named stays named when more chunks come
named_more : (places : List GivenPlace) (gives : List FoundPage) (state after : AgentState) (more : List Sheet) → sheets_of after.taken ≡ sheets_of state.taken ++ more
    → map (named_at state) places ≡ map (λ page. Some page) gives → map (named_at after) places ≡ map (λ page. Some page) gives
named_more [] gives state after more same named = named
named_more (given ∷ places) [] state after more same named = absurd cc
named_more (given ∷ places) (page ∷ gives) state after more same named =
    let first : named_at state given ≡ Some page = cc in
    let others : map (named_at state) places ≡ map (λ page. Some page) gives = cc in
    let still : named_at after given ≡ Some page = found (slice_get (sheets_of state.taken) given.place) refl first in
    ap (λ (o : Option FoundPage). o ∷ map (named_at after) places) still ∙ ap (λ (l : List (Option FoundPage)). Some page ∷ l) (named_more places gives state after more same others)
  where
    found : (o : Option Sheet) → slice_get (sheets_of state.taken) given.place ≡ o → option_map name_of o ≡ Some page → named_at after given ≡ Some page
    found None e h = let none : None ≡ Some page = h in absurd cc
    found (Some sheet) e h = ap (λ (l : List Sheet). option_map name_of (slice_get l given.place)) same ∙ ap (option_map name_of) (get_front (sheets_of state.taken) more given.place sheet e) ∙ h

module _ (go_on : EventsGoOn) (adds : EventsAddThis) (says : StepsSayWhatTheyTell) (W : PlainWorkload) (J : PlainJournal) (run : NodeRun) where
  abbrev pub next : AgentEvent → NodeRun
  next event = perform W.settings [] run event

  next_comes : (event : AgentEvent) → run.state ≡ after W.settings run.node run.events → (next event).state ≡ after W.settings run.node (next event).events
  next_comes event comes = ap (λ (s : AgentState). after_event W.settings run.node s event) comes ∙ sym (go_on W.settings run.node run.events (event ∷ []))

  -- ---- an input was taken

  module _ (heard : Messages) (step : Step) {g : _} (input : Input (Unit {0}) g) (f : FollowedAgent) (r : IsReadied W J heard run step input f) where
    abbrev event : AgentEvent
    event = Took (input_of input)

    abbrev pub at_run : agents.AgentRun (Unit {0})
    at_run = agent_run W.settings run r.stands.agent.buffers

    pub takable : MayTakeNext W heard run step → Knows f.agent (λ run. IsTakable (point_of run) input)
    takable may = λ working. (at_run, r.stands.agent.follows, may_take W.settings run r.stands.agent.buffers input r.stands.agent.comes r.chunk (may (input_of input) r.ready))

    log_is : (next event).state.log ≡ run.state.log ++ step ∷ []
    log_is = (adds W.settings run.node run.state).log event ∙ ap (λ (s : Step). run.state.log ++ s ∷ []) r.noted

    sheets_are : sheets_of (next event).state.taken ≡ sheets_of run.state.taken ++ brought_by event
    sheets_are = (adds W.settings run.node run.state).chunks event

    -- the agent follows on
    pub agent_stands : (agent : PlainAgent (Unit {0})) → Follows agent (after_input at_run input) → FollowedAgentStands W.settings (next event) agent
    agent_stands agent follows =
        let a = r.stands.agent in
        record {
          buffers = a.buffers ++ buffers_in input;
          follows = follows;
          comes = next_comes event a.comes;
          sheets =
              map-append sheet_in a.buffers (buffers_in input) ∙ ap (λ (l : List Sheet). l ++ map sheet_in (buffers_in input)) a.sheets ∙ ap (λ (l : List Sheet). sheets_of run.state.taken ++ l) (sheets_brought input)
              ∙ sym sheets_are;
          paged = all_append (λ (b : Unleased). IsSome b.chunk.page) a.buffers (buffers_in input) a.paged (brings_page W.settings input r.chunk);
        }

    told_is : (told : Option Told) → told ≡ told_in at_run input → (next event).state.said ≡ run.state.said ++ option_to_list told
    told_is told tells =
        (says W.settings run.node run.state).inputs (input_of input)
        ∙ ap (λ (t : Option Told). run.state.said ++ option_to_list t) (sym (tells ∙ ap (λ (s : AgentState). told_by W.settings run.node s (input_of input)) (sym r.stands.agent.comes)))

    pub performed : (f' : FollowedAgent) (told : Option Told) → Follows f'.agent (after_input at_run input) → told ≡ told_in at_run input → f'.said.items ≡ f.said.items ++ option_to_list told → f'.clients ≡ f.clients → f'.asked ≡ f.asked → f'.gives ≡ f.gives
        → HasPerformed W J heard run step f'
    performed f' told follows tells said clients asked gives =
        record {
          event = event;
          ready = r.ready;
          stands =
              record {
                sends = r.stands.sends;
                clients = subst (λ (log : List Step). ClientsStand W J run.node log f'.clients.items) (sym log_is) (subst (λ cs. ClientsStand W J run.node (run.state.log ++ step ∷ []) cs.items) (sym clients) r.stands.clients);
                agent = agent_stands f'.agent follows;
                asked = asked ∙ r.stands.asked ∙ ap (taken Asks) (sym log_is);
                said = said ∙ ap (λ (l : List Told). l ++ option_to_list told) r.stands.said ∙ sym (told_is told tells);
                gives =
                    ap (map (named_at (next event).state)) ((adds W.settings run.node run.state).given (input_of input))
                    ∙ named_more run.state.given f.gives.items run.state (next event).state (brought_by event) sheets_are r.stands.gives ∙ ap (λ l. map (λ page. Some page) l.items) (sym gives);
              };
        }

  -- ---- an offer was made

  module _ (f : FollowedAgent) (s : FollowedNodeStands W J run run.state.log f) where
    abbrev pub before : agents.AgentRun (Unit {0})
    before = agent_run W.settings run s.agent.buffers

    hand_is : (state_of before).hand ≡ run.state.hand
    hand_is = ap (λ (s : AgentState). s.hand) (sym s.agent.comes)

    -- nothing is offered where the hand is empty
    pub none_offered : (agent : PlainAgent (Unit {0})) → Follows agent (after_offer before) → (state_of before).hand ≡ [] → (f' : FollowedAgent) → f' ≡ record f { agent = agent } → FollowedNodeStands W J run run.state.log f'
    none_offered agent follows empty f' is =
        let none : first_place (state_of before) ≡ None = ap (λ (l : List ℕ). slice_get l 0) empty in
        subst (FollowedNodeStands W J run run.state.log) (sym is)
        (record {
          sends = s.sends;
          clients = s.clients;
          agent =
              record {
                buffers = s.agent.buffers;
                follows = subst (λ (o : Option ℕ). Follows agent (record before { offered = o })) none follows;
                comes = s.agent.comes;
                sheets = s.agent.sheets;
                paged = s.agent.paged;
              };
          asked = s.asked;
          said = s.said;
          gives = s.gives;
        })

    pub not_ready : (answer : Answered) → (state_of before).hand ≡ [] → offered run.state answer ≡ None
    not_ready answer empty = ap (λ (l : List ℕ). option_map (λ (_ : ℕ). Gave answer) (slice_get l 0)) (sym hand_is ∙ empty)

    pub offer_none : (heard : Messages) (step : Step) → IsOffer step → (state_of before).hand ≡ [] → event_of run heard step ≡ None
    offer_none heard (steps.Given stamp) is empty = not_ready (Given stamp) empty
    offer_none heard (steps.Missed stamp) is empty = not_ready (Missed stamp) empty
    offer_none heard steps.Unread is empty = not_ready Unread empty
    offer_none heard (steps.Chunk client) is empty = absurd is
    offer_none heard (steps.Crumb client) is empty = absurd is
    offer_none heard (steps.Trigger client) is empty = absurd is
    offer_none heard steps.Ask is empty = absurd is
    offer_none heard steps.Turn is empty = absurd is

    -- ---- a chunk was offered

    -- which chunk
    pub record IsOffered (buffer : Unleased) : Type 0 where
      pub place : ℕ
      pub first : slice_get run.state.hand 0 ≡ Some place
      pub there : slice_get s.agent.buffers place ≡ Some buffer

    pub is_offered : (buffer : Unleased) → Some buffer ≡ offered_next before → IsOffered buffer
    is_offered buffer is = go (slice_get run.state.hand 0) refl (is ∙ ap (λ (l : List ℕ). option_and_then (λ place. slice_get s.agent.buffers place) (slice_get l 0)) hand_is)
      where
        go : (o : Option ℕ) → slice_get run.state.hand 0 ≡ o → Some buffer ≡ option_and_then (λ place. slice_get s.agent.buffers place) o → IsOffered buffer
        go None e is = absurd cc
        go (Some place) e is = record { place = place; first = e; there = sym is }

    module _ (buffer : Unleased) (o : IsOffered buffer) where
      pub was_offered : (agent : PlainAgent (Unit {0})) → Follows agent (after_offer before) → Knows agent (λ run. IsSome run.offered)
      was_offered agent follows = λ working. (after_offer before, follows, subst (λ (p : Option ℕ). IsSome p) (sym (ap (λ (l : List ℕ). slice_get l 0) hand_is ∙ o.first)) refl)

      pub has_page : IsSome buffer.chunk.page
      has_page = all_at (λ (b : Unleased). IsSome b.chunk.page) s.agent.buffers o.place buffer s.agent.paged o.there

      pub ready : (answer : Answered) → offered run.state answer ≡ Some (Gave answer)
      ready answer = ap (option_map (λ (_ : ℕ). Gave answer)) o.first

      -- it came back as it was
      came_back : slice_set s.agent.buffers o.place buffer ≡ s.agent.buffers
      came_back = set_same s.agent.buffers o.place buffer o.there

      pub back_is : with_back (after_offer before) (Some buffer) ≡ s.agent.buffers
      back_is = ap (λ (p : Option ℕ). option_map_or (λ place. slice_set s.agent.buffers place buffer) p s.agent.buffers) (ap (λ (l : List ℕ). slice_get l 0) hand_is ∙ o.first) ∙ came_back

      offered_log : (answer : Answered) → (next (Gave answer)).state.log ≡ run.state.log ++ step_of_answer answer ∷ []
      offered_log answer = (adds W.settings run.node run.state).log (Gave answer)

      sheets_stay : (answer : Answered) → sheets_of (next (Gave answer)).state.taken ≡ sheets_of run.state.taken
      sheets_stay answer = (adds W.settings run.node run.state).chunks (Gave answer) ∙ append-nil (sheets_of run.state.taken)

      takes_none : (answer : Answered) (client : ℕ) → (takes (Chunks client) (step_of_answer answer) ≡ false) × (takes (Crumbs client) (step_of_answer answer) ≡ false) × (takes (Triggers client) (step_of_answer answer) ≡ false)
      takes_none (Given stamp) client = (refl, refl, refl)
      takes_none (Missed stamp) client = (refl, refl, refl)
      takes_none Unread client = (refl, refl, refl)

      asks_none : (answer : Answered) → takes Asks (step_of_answer answer) ≡ false
      asks_none (Given stamp) = refl
      asks_none (Missed stamp) = refl
      asks_none Unread = refl

      pub answered : (answer : Answered) (agent : PlainAgent (Unit {0})) → Follows agent (agent_run W.settings (next (Gave answer)) s.agent.buffers) → (f' : FollowedAgent) → f'.agent ≡ agent → f'.clients ≡ f.clients → f'.said ≡ f.said → f'.asked ≡ f.asked
          → map (named_at (next (Gave answer)).state) (next (Gave answer)).state.given ≡ map (λ page. Some page) f'.gives.items → FollowedNodeStands W J (next (Gave answer)) (next (Gave answer)).state.log f'
      answered answer agent follows f' agent_is clients said asked gives =
          record {
            sends = s.sends;
            clients =
                subst (λ (log : List Step). ClientsStand W J run.node log f'.clients.items) (sym (offered_log answer))
                (subst (λ cs. ClientsStand W J run.node (run.state.log ++ step_of_answer answer ∷ []) cs.items) (sym clients) (clients_as W J run.node run.state.log (step_of_answer answer) f.clients.items (takes_none answer) s.clients));
            agent =
                record {
                  buffers = s.agent.buffers;
                  follows = subst (λ (k : PlainAgent (Unit {0})). Follows k (agent_run W.settings (next (Gave answer)) s.agent.buffers)) (sym agent_is) follows;
                  comes = next_comes (Gave answer) s.agent.comes;
                  sheets = s.agent.sheets ∙ sym (sheets_stay answer);
                  paged = s.agent.paged;
                };
            asked = asked ∙ s.asked ∙ sym (taken_still Asks run.state.log (step_of_answer answer) (asks_none answer)) ∙ ap (taken Asks) (sym (offered_log answer));
            said = ap (λ l. l.items) said ∙ s.said ∙ sym ((says W.settings run.node run.state).answers answer);
            gives = gives;
          }

      -- what is noted of a buffer that came back
      pub none_given : (answer : Answered) → (next (Gave answer)).state.given ≡ run.state.given → map (named_at (next (Gave answer)).state) (next (Gave answer)).state.given ≡ map (λ page. Some page) f.gives.items
      none_given answer same =
          ap (map (named_at (next (Gave answer)).state)) same
          ∙ named_more run.state.given f.gives.items run.state (next (Gave answer)).state [] (sheets_stay answer ∙ sym (append-nil (sheets_of run.state.taken))) s.gives

      -- and of one that was given
      pub one_given : (stamp : ℕ) (page : FoundPage) (sheet : Sheet) → buffer.chunk.page ≡ Some sheet → page ≡ name_of sheet → (gives : List FoundPage) → gives ≡ f.gives.items ++ page ∷ []
          → map (named_at (next (Gave (Given stamp))).state) (next (Gave (Given stamp))).state.given ≡ map (λ page. Some page) gives
      one_given stamp page sheet page_is name gives is =
          let after = (next (Gave (Given stamp))).state in
          let given : GivenPlace = record { place = o.place; stamp = stamp } in
          let all : after.given ≡ run.state.given ++ given ∷ [] = given_there run.state.hand refl o.first in
          let sheet_there : slice_get (sheets_of run.state.taken) o.place ≡ Some sheet = mapped_there s.agent.buffers o.place o.there (sheets_of run.state.taken) s.agent.sheets in
          let named : named_at after given ≡ Some page = ap (λ (l : List Sheet). option_map name_of (slice_get l o.place)) (sheets_stay (Given stamp)) ∙ ap (option_map name_of) sheet_there ∙ ap Some (sym name) in
          ap (map (named_at after)) all ∙ map-append (named_at after) run.state.given (given ∷ [])
          ∙ ap (λ (l : List (Option FoundPage)). l ++ named_at after given ∷ []) (named_more run.state.given f.gives.items run.state after [] (sheets_stay (Given stamp) ∙ sym (append-nil (sheets_of run.state.taken))) s.gives)
          ∙ ap (λ (n : Option FoundPage). map (λ page. Some page) f.gives.items ++ n ∷ []) named ∙ sym (map-append (λ page. Some page) f.gives.items (page ∷ [])) ∙ ap (map (λ page. Some page)) (sym is)
        where
          given_there : (hand : List ℕ) → run.state.hand ≡ hand → slice_get run.state.hand 0 ≡ Some o.place → (next (Gave (Given stamp))).state.given ≡ run.state.given ++ record { place = o.place; stamp = stamp } ∷ []
          given_there [] e at = let none : None ≡ Some o.place = sym (ap (λ (l : List ℕ). slice_get l 0) e) ∙ at in absurd cc
          given_there (place ∷ hand) e at =
              let same : place ≡ o.place = same_Some place o.place (sym (ap (λ (l : List ℕ). slice_get l 0) e) ∙ at) in
              ap (λ (l : List ℕ). (after_gave (record run.state { hand = l }) (Given stamp)).given) e ∙ ap (λ (p : ℕ). run.state.given ++ record { place = p; stamp = stamp } ∷ []) same

          mapped_there : (buffers : List Unleased) (place : ℕ) → slice_get buffers place ≡ Some buffer → (sheets : List Sheet) → map sheet_in buffers ≡ sheets → slice_get sheets place ≡ Some sheet
          mapped_there [] place at sheets e = let none : None ≡ Some buffer = at in absurd cc
          mapped_there (b ∷ buffers) place at [] e = absurd cc
          mapped_there (b ∷ buffers) zero at (x ∷ sheets) e =
              let first : sheet_in b ≡ x = cc in
              let same : sheet_in b ≡ sheet = ap (λ (b : Unleased). sheet_in b) (same_Some b buffer at) ∙ ap (λ (p : Option Sheet). sheet_in (record buffer { chunk = record (buffer.chunk) { page = p } })) page_is in
              ap Some (sym first ∙ same)
          mapped_there (b ∷ buffers) (suc place) at (x ∷ sheets) e = let others : map sheet_in buffers ≡ sheets = cc in mapped_there buffers place at sheets others

-- the name of a page that is there
pub named_so : (p : Option Sheet) (page : FoundPage) → IsSome p → IfSome p (λ sheet. page ≡ name_of sheet) → (sheet : Sheet) × (p ≡ Some sheet) × (page ≡ name_of sheet)
named_so None page some named = absurd cc
named_so (Some sheet) page some named = (sheet, refl, named)
