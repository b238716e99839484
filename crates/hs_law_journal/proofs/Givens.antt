-- An input gives no buffer back; a give that was made gives one. So the buffers that were given back bear the stamps of the gives in the
-- log, in order.
use Rattle.std.proofs.Common.{◌≡◌, ℕ, ◌<◌, List, [], ◌∷◌, ◌++◌, length, refl, sym, ap, subst, ◌∙◌, Option, Some, None, inl, inr, arith, map, filter_map, option_map, slice_get, append-nil}
use Rattle.hs_law_journal.proofs.Prelude.{AllByRecursion, range_with_len, map-append, filter_map-append, all_set, all_at, Messages, Step, PlainJournal, PlainSettings, PlainWorkload, NodeRun, Run, event_of, step_node, node_start, run_start, Performs, Leads, Stays, Goes, EventsAddThis, AgentState, Input, Chunk, Crumbed, Triggered, Asked, Turn, Answered, Given, Missed, Unread, AgentEvent, Took, Gave, after_event}
use Rattle.std.specs.List.{cons_option}
use Rattle.hs_records.specs.declared.journal.Step.TheVariants as steps
use Rattle.hs_law_journal.specs.Gives.{given_stamp, GivesAsNoted, GivesAreNoted}
use Rattle.hs_law_journal.proofs.Extending.{noted_step}
use Rattle.hs_law_journal.proofs.Steps.{step_from, heard_from}
use Rattle.hs_law_agent.specs.State.{GivenPlace}
use Rattle.hs_law_agent.specs.Stepping.{step_of, give_back}

abbrev IsGive : AgentEvent → Type 0
IsGive (Gave (Given stamp)) = Unit {0}
IsGive _ = ⊥

abbrev stamps_in : List GivenPlace → List ℕ
stamps_in given = map (λ (g : GivenPlace). g.stamp) given

no_give : (step : Step) → given_stamp step ≡ None → (log : List Step) → filter_map given_stamp (log ++ step ∷ []) ≡ filter_map given_stamp log
no_give step none log =
    filter_map-append given_stamp log (step ∷ []) ∙ ap (λ (o : Option ℕ). filter_map given_stamp log ++ cons_option o []) none ∙ append-nil (filter_map given_stamp log)

input_none : (input : Input) → given_stamp (step_of input) ≡ None
input_none (Chunk client sheet) = refl
input_none (Crumbed client crumb) = refl
input_none (Triggered client trigger) = refl
input_none (Asked ask) = refl
input_none Turn = refl

module _ (adds : EventsAddThis) (settings : PlainSettings) (node : ℕ) where
  -- a give of a hand that has a buffer
  given_case : (stamp : ℕ) (hand : List ℕ) (state : AgentState) → 0 < length hand → stamps_in (give_back stamp hand state).given ≡ stamps_in state.given ++ stamp ∷ []
  given_case stamp [] state h = absurd (omega (arith, h))
  given_case stamp (place ∷ hand) state h = map-append (λ (g : GivenPlace). g.stamp) state.given (record { place = place; stamp = stamp } ∷ [])

  event_same : (state : AgentState) (event : AgentEvent) → (IsGive event → 0 < length state.hand) → stamps_in state.given ≡ filter_map given_stamp state.log
      → stamps_in (after_event settings node state event).given ≡ filter_map given_stamp (after_event settings node state event).log
  event_same state (Took input) some h =
      ap stamps_in ((adds settings node state).given input) ∙ h ∙ sym (ap (filter_map given_stamp) ((adds settings node state).log (Took input)) ∙ no_give (step_of input) (input_none input) state.log)
  event_same state (Gave (Given stamp)) some h =
      given_case stamp state.hand state (some tt)
      ∙ ap (λ (stamps : List ℕ). stamps ++ stamp ∷ []) h
      ∙ sym (ap (filter_map given_stamp) ((adds settings node state).log (Gave (Given stamp))) ∙ filter_map-append given_stamp state.log (steps.Given stamp ∷ []))
  event_same state (Gave (Missed stamp)) some h = h ∙ sym (ap (filter_map given_stamp) ((adds settings node state).log (Gave (Missed stamp))) ∙ no_give (steps.Missed stamp) refl state.log)
  event_same state (Gave Unread) some h = h ∙ sym (ap (filter_map given_stamp) ((adds settings node state).log (Gave Unread)) ∙ no_give steps.Unread refl state.log)

-- ---- all steps

some_hand : (answer : Answered) (hand : List ℕ) (event : AgentEvent) → option_map (λ _. Gave answer) (slice_get hand 0) ≡ Some event → 0 < length hand
some_hand answer [] event h = let no : None ≡ Some event = h in absurd cc
some_hand answer (place ∷ hand) event h = omega arith

give_ready : (run : NodeRun) (heard : Messages) (step : Step) (event : AgentEvent) → event_of run heard step ≡ Some event → IsGive event → 0 < length run.state.hand
give_ready run heard step (Gave (Given stamp)) h give =
    some_hand (Given stamp) run.state.hand (Gave (Given stamp)) (ap (event_of run heard) (noted_step run heard (Gave (Given stamp)) step h) ∙ h)
give_ready run heard step (Gave (Missed stamp)) h give = absurd give
give_ready run heard step (Gave Unread) h give = absurd give
give_ready run heard step (Took input) h give = absurd give

step_gives : EventsAddThis → (settings : PlainSettings) (heard : Messages) (run stepped : NodeRun) → GivesAsNoted run → step_node settings heard run ≡ Some stepped → GivesAsNoted stepped
step_gives adds settings heard run stepped g h =
    let s = step_from settings heard run stepped h in
    subst GivesAsNoted (sym s.is) (event_same adds settings run.node run.state s.event (give_ready run heard s.step s.event s.met) g)

performs_gives : EventsAddThis → (settings : PlainSettings) (run next : Run) → AllByRecursion GivesAsNoted run.nodes → Performs settings run next → AllByRecursion GivesAsNoted next.nodes
performs_gives adds settings run next all (inl s) =
    subst (λ (r : Run). AllByRecursion GivesAsNoted r.nodes) (sym s.result)
    (all_set GivesAsNoted run.nodes s.place s.stepped all (step_gives adds settings run.heard s.node s.stepped (all_at GivesAsNoted run.nodes s.place s.node all s.stands) s.ready))
performs_gives adds settings run next all (inr k) = let s = heard_from run next k in subst (λ (r : Run). AllByRecursion GivesAsNoted r.nodes) (sym s.is) all

leads_gives : EventsAddThis → (settings : PlainSettings) (run last : Run) → AllByRecursion GivesAsNoted run.nodes → Leads settings run last → AllByRecursion GivesAsNoted last.nodes
leads_gives adds settings run last all (Stays r) = all
leads_gives adds settings run last all (Goes r next l p leads) = leads_gives adds settings next last (performs_gives adds settings run next all p) leads

starts_gives : (W : PlainWorkload) (J : PlainJournal) (nodes : List ℕ) → AllByRecursion GivesAsNoted (map (node_start W J) nodes)
starts_gives W J [] = tt
starts_gives W J (node ∷ nodes) = (refl, starts_gives W J nodes)

pub gives_are_noted : EventsAddThis → GivesAreNoted
gives_are_noted adds W J run leads = leads_gives adds W.settings (run_start W J) run (starts_gives W J (range_with_len 0 W.settings.nodes)) leads
