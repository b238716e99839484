-- The agent takes an item that was taken out for it: the node's run performed the step.
use Rattle.std.proofs.Common.{◌≡◌, ℕ, ◌+◌, ◌<◌, ◌^◌, List, [], ◌∷◌, ◌++◌, map, Option, Some, None, sym, ap, subst, ◌∙◌, option_map, append_assoc, count_by}
use Rattle.hs_replay.proofs.Prelude.{map-append, AllByRecursion, option_and_then, all_each, Input, PlainAgent, sheet_in, Follows, Knows, Told, Messages, Step, Asks, taken, asks_to, is_from, NodeRun, event_of, perform, Machine, heard_in, after_steps, StepByStep, EventsGoOn, EventsAddThis, StepsSayWhatTheyTell, sheets_of, AgentState, AgentEvent, Took, after_event, PlainSettings, PlainWorkload, Buffer, Sheet, PlainReplayNode, IsAmid, IsReady, IsThere, TookOne, WentBy, step_from, Queue, Remain, ReplayClientsStand, ReplayAgentStands, IsLent, run_of}
use Rattle.std.specs.Option.{option_to_list}
use Rattle.hs_base.proofs.Alls.{all_append}
use Rattle.hs_agent.specs.declared.input.Input.TheVariants as inputs
use Rattle.hs_agent.specs.Runs.{IsTakable, after_input, buffers_in, input_of, point_of, told_in}
use Rattle.hs_agent.proofs.Brought.{sheets_brought}
use Rattle.hs_law_journal.specs.Fitting.{MayTake}
use Rattle.hs_law_run.specs.Conditions.{MachinesFit}
use Rattle.hs_law_agent.specs.Stepping.{after, told_by}
use Rattle.hs_replay.specs.Passing.{FitsChunk}

-- ---- lists

-- what remains when the whole has more behind it
pub more_remain : {A : Type 0} (gone : ℕ) (all rest more : List A) → Remain gone all rest → Remain gone (all ++ more) (rest ++ more)
more_remain gone all rest more r = record { front = r.front; all_is = ap (λ l. l ++ more) r.all_is ∙ append_assoc r.front rest more; count = r.count }

-- ---- runs

-- one step more
pub one_more : StepByStep → (settings : PlainSettings) (heard : Messages) (steps : List Step) (step : Step) (start run : NodeRun) (event : AgentEvent) → after_steps settings heard steps start ≡ Some run
    → event_of run heard step ≡ Some event → after_steps settings heard (steps ++ step ∷ []) start ≡ Some (perform settings [] run event)
one_more by_steps settings heard steps step start run event came ready =
    by_steps.steps settings heard steps (step ∷ []) start ∙ ap (option_and_then (after_steps settings heard (step ∷ []))) came
    ∙ ap (λ (o : Option AgentEvent). option_and_then (after_steps settings heard []) (option_map (perform settings [] run) o)) ready

-- ---- inputs

-- the chunk that an input brings, in its buffer
brings_lent : {g : _} (settings : PlainSettings) (run : NodeRun) (input : Input (Unit {0}) g) → FitsChunk settings run input → AllByRecursion (IsLent settings run) (buffers_in input)
brings_lent settings run (inputs.Chunk client held) fits = (fits.1, tt)
brings_lent settings run (inputs.Crumb client crumb) fits = tt
brings_lent settings run (inputs.Trigger client trigger) fits = tt
brings_lent settings run (inputs.Ask ask) fits = tt
brings_lent settings run inputs.Turn fits = tt

-- the agent may take it
may_take : {g : _} (settings : PlainSettings) (run : NodeRun) (buffers : List (Buffer (Unit {0}))) (state : AgentState) (input : Input (Unit {0}) g) → state ≡ after settings run.node run.events
    → FitsChunk settings run input → MayTake settings run.node state (input_of input) → IsTakable (point_of (run_of settings run buffers None)) input
may_take settings run buffers state (inputs.Chunk client held) comes fits may = fits.0
may_take settings run buffers state (inputs.Crumb client crumb) comes fits may = may
may_take settings run buffers state (inputs.Trigger client trigger) comes fits may = (may.0, subst (λ (s : AgentState). s.admitted + 1 < 2 ^ 32) comes may.1)
may_take settings run buffers state (inputs.Ask ask) comes fits may = may
may_take settings run buffers state inputs.Turn comes fits may = tt

module _ (W : PlainWorkload) (m : Machine) (n : ℕ) (run : NodeRun) (step : Step) {g : _} (input : Input (Unit {0}) g) (old : PlainReplayNode) (ready : IsReady W m n run step input old) where
  abbrev pub stood : ReplayAgentStands W.settings run None old.agent
  stood = ready.stands.agent

  pub takable : MachinesFit → Knows old.agent (λ r. IsTakable (point_of r) input)
  takable fit =
      λ working.
      let fits = fit W ready.comes.valid m ready.comes.reached n ready.comes.start ready.comes.at in
      let may = fits.takes ready.comes.steps step run (input_of input) ready.comes.came ready.ready in
      let here : MayTake W.settings run.node run.state (input_of input) = subst (λ i. MayTake W.settings i run.state (input_of input)) (sym ready.comes.number) may in
      (run_of W.settings run stood.buffers None, stood.follows, may_take W.settings run stood.buffers run.state input stood.comes ready.chunk here)

  abbrev pub event : AgentEvent
  event = Took (input_of input)

  abbrev pub next : NodeRun
  next = perform W.settings [] run event

  pub next_log : EventsAddThis → next.state.log ≡ run.state.log ++ step ∷ []
  next_log adds = (adds W.settings run.node run.state).log event ∙ ap (λ (s : Step). run.state.log ++ s ∷ []) ready.noted

  module _ (by_steps : StepByStep) (go_on : EventsGoOn) (adds : EventsAddThis) (says : StepsSayWhatTheyTell) where
    next_comes : next.state ≡ after W.settings next.node next.events
    next_comes = ap (λ (s : AgentState). after_event W.settings run.node s event) stood.comes ∙ sym (go_on W.settings run.node run.events (event ∷ []))

    module _ (agent : PlainAgent (Unit {0})) (told : Option Told) (said : List Told) (follows : Follows agent (after_input (run_of W.settings run stood.buffers None) input))
        (tells : told ≡ told_in (run_of W.settings run stood.buffers None) input) (joins : said ≡ old.said ++ option_to_list told) where
      next_agent : ReplayAgentStands W.settings next None agent
      next_agent =
          record {
            buffers = stood.buffers ++ buffers_in input;
            follows = follows;
            comes = next_comes;
            lent =
                all_each (IsLent W.settings run) (IsLent W.settings next) (stood.buffers ++ buffers_in input) (λ buffer l. record { drawn = l.drawn; size = l.size })
                (all_append (IsLent W.settings run) stood.buffers (buffers_in input) stood.lent (brings_lent W.settings run input ready.chunk));
            sheets =
                map-append sheet_in stood.buffers (buffers_in input) ∙ ap (λ (l : List Sheet). l ++ map sheet_in (buffers_in input)) stood.sheets
                ∙ ap (λ (l : List Sheet). sheets_of run.state.taken ++ l) (sheets_brought input) ∙ sym ((adds W.settings run.node run.state).chunks event);
          }

      told_is : told ≡ told_by W.settings run.node run.state (input_of input)
      told_is = tells ∙ ap (λ (s : AgentState). told_by W.settings run.node s (input_of input)) (sym stood.comes)

      next_said : next.state.said ≡ run.state.said ++ option_to_list told
      next_said = (says W.settings run.node run.state).inputs (input_of input) ∙ ap (λ (t : Option Told). run.state.said ++ option_to_list t) (sym told_is)

      abbrev gone : ℕ
      gone = count_by (is_from (record { 0 = run.node })) (heard_in W m.journal)

      pub taken_amid : IsAmid W m n next (record old { agent = agent; said = said })
      taken_amid =
          record {
            comes =
                record {
                  valid = ready.comes.valid;
                  reached = ready.comes.reached;
                  start = ready.comes.start;
                  at = ready.comes.at;
                  steps = ready.comes.steps ++ step ∷ [];
                  came = one_more by_steps W.settings (heard_in W m.journal) ready.comes.steps step ready.comes.start run event ready.comes.came ready.ready;
                  number = ready.comes.number;
                };
            stands =
                record {
                  sends = ready.stands.sends;
                  players = subst (λ (log : List Step). ReplayClientsStand W m run.node log old.players) (sym (next_log adds)) ready.stands.players;
                  agent = next_agent;
                  pool = ready.stands.pool;
                  asks = subst (λ (log : List Step). Remain (taken Asks log) (asks_to run.node (heard_in W m.journal)) old.asks) (sym (next_log adds)) ready.stands.asks;
                  said =
                      subst (λ (l : List Told). Remain gone next.state.said l) (sym joins)
                      (subst (λ (l : List Told). Remain gone l (old.said ++ option_to_list told)) (sym next_said) (more_remain gone run.state.said old.said (option_to_list told) ready.stands.said));
                };
          }

-- the agent took what was ready
pub went_one : EventsAddThis → (W : PlainWorkload) (m : Machine) (n : ℕ) (step : Step) (run : NodeRun) {g : _} (input : Input (Unit {0}) g) (old new : PlainReplayNode) → IsReady W m n run step input old
    → IsAmid W m n (perform W.settings [] run (Took (input_of input))) new → WentBy W m n run (step ∷ []) new
went_one adds W m n step run input old new ready amid =
    record {
      next = perform W.settings [] run (Took (input_of input));
      by = ap (λ (o : Option AgentEvent). option_and_then (after_steps W.settings (heard_in W m.journal) []) (option_map (perform W.settings [] run) o)) ready.ready;
      log = next_log W m n run step input old ready adds;
      amid = amid;
    }

-- the agent took an item that was there
pub took_one : EventsAddThis → (W : PlainWorkload) (m : Machine) (n : ℕ) (queue : Queue) (run : NodeRun) {g : _} (input : Input (Unit {0}) g) (old new : PlainReplayNode) → IsThere W m n queue run input old
    → IsAmid W m n (perform W.settings [] run (Took (input_of input))) new → TookOne W m n queue run new
took_one adds W m n queue run input old new there amid = record { went = went_one adds W m n (step_from queue) run input old new there.ready amid; within = there.within }
