-- Over any calls the run of an agent is the model's.
use Rattle.std.proofs.Common.{◌≡◌, ℕ, List, [], ◌∷◌, ◌++◌, map, fold, refl, sym, ap, ◌∙◌, append-nil}
use Rattle.hs_agent.proofs.Prelude.{append_assoc, PlainSettings, EventsLeadOn, AgentState, AgentEvent, Took, Gave, step_of, step_of_answer, after, after_from, after_event, take_input, take_answer, AgentRun, state_of}
use Rattle.hs_law_agent.specs.Laws.{StepsSayWhatTheyTell, noted_as}
use Rattle.hs_agent.specs.Runs.{new_run}
use Rattle.hs_agent.specs.Calls.{Call, Takes, Offers, Answers, after_call, run_after, events_in, events_of, told_at, told_from, MeetsModel}
use Rattle.hs_agent.proofs.Following.{answer-log}
use Rattle.hs_agent.proofs.Unchanged.{input-log}

-- the log grows by a step for each event
log-from : (settings : PlainSettings) (node : ℕ) (state : AgentState) (events : List AgentEvent) → (after_from settings node state events).log ≡ state.log ++ map noted_as events
log-from settings node state [] = sym (append-nil state.log)
log-from settings node state (Took input ∷ events) =
    log-from settings node (after_event settings node state (Took input)) events
    ∙ append_assoc (take_input settings node state input).log (step_of input ∷ []) (map noted_as events)
    ∙ ap (λ l. l ++ step_of input ∷ map noted_as events) (input-log settings node state input)
log-from settings node state (Gave answer ∷ events) =
    log-from settings node (after_event settings node state (Gave answer)) events
    ∙ append_assoc (take_answer state answer).log (step_of_answer answer ∷ []) (map noted_as events)
    ∙ ap (λ l. l ++ step_of_answer answer ∷ map noted_as events) (answer-log state answer)

module _ {L : Type 0} where
  -- a call leaves the settings and the node, and adds its events
  pub record GoesOn (run later : AgentRun L) (more : List AgentEvent) : Type 0 where
    pub settings : later.settings ≡ run.settings
    pub node : later.node ≡ run.node
    pub start : later.start ≡ run.start
    pub events : later.events ≡ run.events ++ more

  one_call : (run : AgentRun L) (call : Call L) → GoesOn run (after_call run call) (events_in call)
  one_call run (Takes input came) = record { settings = refl; node = refl; start = refl; events = refl }
  one_call run Offers = record { settings = refl; node = refl; start = refl; events = sym (append-nil run.events) }
  one_call run (Answers answer back) = record { settings = refl; node = refl; start = refl; events = refl }

  all_calls : (run : AgentRun L) (calls : List (Call L)) → GoesOn run (fold after_call run calls) (events_of calls)
  all_calls run [] = record { settings = refl; node = refl; start = refl; events = sym (append-nil run.events) }
  all_calls run (call ∷ calls) =
      let first = one_call run call in
      let rest = all_calls (after_call run call) calls in
      record {
        settings = rest.settings ∙ first.settings;
        node = rest.node ∙ first.node;
        start = rest.start ∙ first.start;
        events = rest.events ∙ ap (λ l. l ++ events_of calls) first.events ∙ append_assoc run.events (events_in call) (events_of calls);
      }

  module _ (go_on : EventsLeadOn) (say : StepsSayWhatTheyTell) where
    -- what was said before, and what a call tells
    one_told : (run : AgentRun L) (call : Call L) → (state_of run).said ++ told_at run call ≡ (state_of (after_call run call)).said
    one_told run (Takes input came) =
        sym ((say run.settings run.node (state_of run)).inputs input) ∙ ap (λ (s : AgentState). s.said) (sym (go_on run.settings run.node run.start run.events (Took input ∷ [])))
    one_told run Offers = append-nil (state_of run).said
    one_told run (Answers answer back) =
        append-nil (state_of run).said
        ∙ sym ((say run.settings run.node (state_of run)).answers answer)
        ∙ ap (λ (s : AgentState). s.said) (sym (go_on run.settings run.node run.start run.events (Gave answer ∷ [])))

    all_told : (run : AgentRun L) (calls : List (Call L)) → (state_of run).said ++ told_from run calls ≡ (state_of (fold after_call run calls)).said
    all_told run [] = append-nil (state_of run).said
    all_told run (call ∷ calls) =
        sym (append_assoc (state_of run).said (told_at run call) (told_from (after_call run call) calls))
        ∙ ap (λ l. l ++ told_from (after_call run call) calls) (one_told run call)
        ∙ all_told (after_call run call) calls

    pub meets-model : (settings : PlainSettings) (node : ℕ) (calls : List (Call L)) → MeetsModel settings node calls
    meets-model settings node calls =
        let on = all_calls (new_run {L = L} settings node) calls in
        let state : state_of (run_after settings node calls) ≡ after settings node (events_of calls) = (λ i. after_from (on.settings i) (on.node i) (on.start i) (on.events i)) in
        record {
          state = state;
          told = all_told (new_run {L = L} settings node) calls ∙ ap (λ (s : AgentState). s.said) state;
          log = log-from settings node (after settings node []) (events_of calls);
        }
