-- What a pass works off: with each item that an agent takes it bears one thing more at most, and a turn takes something off where something
-- is pinned.
use Rattle.std.proofs.Common.{◌≡◌, ℕ, zero, suc, ◌+◌, ◌*◌, ◌<◌, ◌≤◌, ◌==◌, List, [], ◌∷◌, ◌++◌, length, refl, sym, ap, ◌∙◌, arith, map, replicate}
use Rattle.hs_run.proofs.Prelude.{flat_map, length-append, map-append, noted_as, Step, after, AgentEvent, asks_in, crumbs_in, steps_of, triggers_in, PlainSettings, PlainWorkload, NodeWork}
use Rattle.hs_records.specs.declared.journal.Step.TheVariants as steps
use Rattle.hs_law_agent.specs.Laws.{CanReport, EventsAddFew, StepsSayWhatTheyTell, TurnsReport, EventsGoOn}
use Rattle.hs_law_agent.specs.State.{AgentState, start}
use Rattle.hs_law_agent.specs.Stepping.{Input, Chunk, Crumbed, Triggered, Asked, Turn, Answered, Given, Missed, Unread, Took, Gave, after_from, after_event, step_of_answer}
use Rattle.hs_law_journal.specs.Doings.{chunks_in}
use Rattle.hs_law_journal.proofs.ItemsTaken.{taken_chunks, taken_crumbs, taken_triggers, taken_asks}
use Rattle.hs_law_journal.proofs.Loads.{load_input, weight}
use Rattle.hs_law_journal.specs.Following.{Queue, Chunks, Crumbs, Triggers, Asks, taken, takes}
use Rattle.hs_law_journal.specs.LoopPasses.{IsPass, step_from}
use Rattle.hs_law_journal.specs.Passes.{queues_of}
use Rattle.hs_base.proofs.Counts.{count_append, count_cons, one_few, one_if}
use Rattle.hs_run_actors.specs.Agents.{state_at}
use Rattle.hs_run.specs.Accounts.{weigh, worked, load, load_of}

-- ---- what is taken

worked_both : (xs ys : List Step) → worked (xs ++ ys) ≡ worked xs + worked ys
worked_both [] ys = let none : worked ys ≡ 0 + worked ys = omega arith in none
worked_both (x ∷ xs) ys = let rest = worked_both xs ys in omega (arith, rest)

none_given : (answer : Answered) → 0 ≤ weigh (step_of_answer answer)
none_given answer = omega arith

weighs : (queue : Queue) (step : Step) → one_if (takes queue step) ≤ weigh step
weighs (Chunks client) (steps.Chunk other) = one_few (other == client)
weighs (Crumbs client) (steps.Crumb other) = one_few (other == client)
weighs (Triggers client) (steps.Trigger other) = one_few (other == client)
weighs Asks steps.Ask = omega arith
weighs _ _ = omega arith

taken_few : (queue : Queue) (log : List Step) → taken queue log ≤ worked log
taken_few queue [] = omega arith
taken_few queue (step ∷ log) = let both = count_cons (takes queue) step log in let here = weighs queue step in let rest = taken_few queue log in omega (arith, both, here, rest)

-- what was taken more in a pass was taken in it
more_few : (queue : Queue) (events pass : List AgentEvent) → taken queue (steps_of (events ++ pass)) ≤ taken queue (steps_of events) + worked (steps_of pass)
more_few queue events pass =
    let same = ap (taken queue) (map-append noted_as events pass) in let both = count_append (takes queue) (steps_of events) (steps_of pass) in let few = taken_few queue (steps_of pass) in omega (arith, same, both, few)

-- ---- a pass that takes nothing begins with its turn

weighs_one : (queue : Queue) → weigh (step_from queue) ≡ 1
weighs_one (Chunks client) = refl
weighs_one (Crumbs client) = refl
weighs_one (Triggers client) = refl
weighs_one Asks = refl

block_weighs : (count : ℕ) (queue : Queue) → length (replicate count (step_from queue)) ≤ worked (replicate count (step_from queue))
block_weighs zero queue = omega arith
block_weighs (suc count) queue = let one = weighs_one queue in let rest = block_weighs count queue in omega (arith, one, rest)

blocks_weigh : (counts : Queue → ℕ) (queues : List Queue) → length (flat_map (λ queue. replicate (counts queue) (step_from queue)) queues) ≤ worked (flat_map (λ queue. replicate (counts queue) (step_from queue)) queues)
blocks_weigh counts [] = omega arith
blocks_weigh counts (queue ∷ queues) =
    let block = replicate (counts queue) (step_from queue) in
    let rest = flat_map (λ queue. replicate (counts queue) (step_from queue)) queues in
    let long = length-append block rest in
    let both = worked_both block rest in
    let first = block_weighs (counts queue) queue in
    let later = blocks_weigh counts queues in
    omega (arith, long, both, first, later)

empty : {X : Type 0} (xs : List X) → length xs ≡ 0 → xs ≡ []
empty [] none = refl
empty (x ∷ xs) none = absurd (omega (arith, none))

turn_of : (event : AgentEvent) → noted_as event ≡ steps.Turn → event ≡ Took Turn
turn_of (Took (Chunk client sheet)) h = let no : steps.Chunk client ≡ steps.Turn = h in absurd cc
turn_of (Took (Crumbed client crumb)) h = let no : steps.Crumb client ≡ steps.Turn = h in absurd cc
turn_of (Took (Triggered client trigger)) h = let no : steps.Trigger client ≡ steps.Turn = h in absurd cc
turn_of (Took (Asked ask)) h = let no : steps.Ask ≡ steps.Turn = h in absurd cc
turn_of (Took Turn) h = refl
turn_of (Gave (Given stamp)) h = let no : steps.Given stamp ≡ steps.Turn = h in absurd cc
turn_of (Gave (Missed stamp)) h = let no : steps.Missed stamp ≡ steps.Turn = h in absurd cc
turn_of (Gave Unread) h = let no : steps.Unread ≡ steps.Turn = h in absurd cc

record BeginsWithTurn (pass : List AgentEvent) : Type 0 where
  rest : List AgentEvent
  is : pass ≡ Took Turn ∷ rest

begins_with_turn : (W : PlainWorkload) (pass : List AgentEvent) → IsPass W pass → worked (steps_of pass) ≡ 0 → BeginsWithTurn pass
begins_with_turn W pass p none =
    let blocks = flat_map (λ queue. replicate (p.counts queue) (step_from queue)) (queues_of W) in
    let whole = ap worked p.steps_are ∙ worked_both blocks (steps.Turn ∷ map step_of_answer p.offers) in
    let long = blocks_weigh p.counts (queues_of W) in
    let nothing : blocks ≡ [] = empty blocks (omega (arith, whole, none, long)) in
    first pass (map step_of_answer p.offers) (p.steps_are ∙ ap (λ front. front ++ steps.Turn ∷ map step_of_answer p.offers) nothing)
  where
    first : (pass : List AgentEvent) (offers : List Step) → map noted_as pass ≡ steps.Turn ∷ offers → BeginsWithTurn pass
    first [] offers h = let no : [] ≡ steps.Turn ∷ offers = h in absurd cc
    first (event ∷ rest) offers h = record { rest = rest; is = ap (λ e. e ∷ rest) (turn_of event (head_of h)) }
      where
        head_of : noted_as event ∷ map noted_as rest ≡ steps.Turn ∷ offers → noted_as event ≡ steps.Turn
        head_of e = cc

-- ---- what an agent bears

module _ (add : EventsAddFew) (says : StepsSayWhatTheyTell) (settings : PlainSettings) (node : ℕ) where
  input_weighs : (input : Input) → weight input ≡ weigh (noted_as (Took input))
  input_weighs (Chunk client sheet) = refl
  input_weighs (Crumbed client crumb) = refl
  input_weighs (Triggered client trigger) = refl
  input_weighs (Asked ask) = refl
  input_weighs Turn = refl

  load_event : (state : AgentState) (event : AgentEvent) → load (after_event settings node state event) ≤ load state + weigh (noted_as event)
  load_event state (Took input) = let more = load_input add says settings node state input in let same = input_weighs input in omega (arith, more, same)
  load_event state (Gave answer) =
      let more = (add settings node state).offered answer in let said = ap length ((says settings node state).answers answer) in let none = none_given answer in omega (arith, more, said, none)

  load_events : (state : AgentState) (events : List AgentEvent) → load (after_from settings node state events) ≤ load state + worked (steps_of events)
  load_events state [] = omega arith
  load_events state (event ∷ events) = let here = load_event state event in let rest = load_events (after_event settings node state event) events in omega (arith, here, rest)

  -- a turn takes something off
  load_turn : TurnsReport → (state : AgentState) (rest : List AgentEvent) → CanReport settings state → worked (steps_of rest) ≡ 0 → load (after_from settings node state (Took Turn ∷ rest)) < load state
  load_turn reports state rest can none =
      let less = reports settings node state can in
      let said = ap length ((says settings node state).inputs Turn) in
      let both = length-append state.said [] in
      let later = load_events (after_event settings node state (Took Turn)) rest in
      omega (arith, less, said, both, later, none)

-- ---- a pass

-- what an agent bears was taken
pub load_taken : EventsAddFew → StepsSayWhatTheyTell → (W : PlainWorkload) (work : NodeWork) → load_of W work ≤ worked (steps_of work.events)
load_taken add says W work = let all = load_events add says W.settings work.node (start W.settings) work.events in let none : load (start W.settings) ≡ 0 = refl in omega (arith, all, none)

-- in a pass so much is worked off, at least: `before` and `behind` are how many messages of the node were heard
abbrev pub Gains : PlainWorkload → ℕ → NodeWork → ℕ → NodeWork → ℕ → Type 0
Gains W gain old before new behind = load_of W new + (2 * worked (steps_of old.events) + before) + gain ≤ load_of W old + (2 * worked (steps_of new.events) + behind)

module _ (add : EventsAddFew) (says : StepsSayWhatTheyTell) (on : EventsGoOn) (W : PlainWorkload) (old new : NodeWork) (same : new.node ≡ old.node) (pass : List AgentEvent) (events : new.events ≡ old.events ++ pass) (is_pass : IsPass W pass) (before behind : ℕ)
    (grows : before ≤ behind)
  where
    state_on : state_at W new ≡ after_from W.settings old.node (state_at W old) pass
    state_on = ap (λ node. after W.settings node new.events) same ∙ ap (after W.settings old.node) events ∙ on W.settings old.node old.events pass

    worked_on : worked (steps_of new.events) ≡ worked (steps_of old.events) + worked (steps_of pass)
    worked_on = ap (λ list. worked (steps_of list)) events ∙ ap worked (map-append noted_as old.events pass) ∙ worked_both (steps_of old.events) (steps_of pass)

    load_on : load_of W new ≤ load_of W old + worked (steps_of pass)
    load_on = let all = load_events add says W.settings old.node (state_at W old) pass in let is = ap load state_on in omega (arith, all, is)

    pub gains_even : Gains W 0 old before new behind
    gains_even = let l = load_on in let w = worked_on in omega (arith, l, w, grows)

    gains_worked : 0 < worked (steps_of pass) → Gains W 1 old before new behind
    gains_worked some = let l = load_on in let w = worked_on in omega (arith, l, w, grows, some)

    pub gains_heard : before < behind → Gains W 1 old before new behind
    gains_heard more = let l = load_on in let w = worked_on in omega (arith, l, w, more)

    gains_queue : (queue : Queue) → taken queue (steps_of old.events) < taken queue (steps_of new.events) → Gains W 1 old before new behind
    gains_queue queue more = let few = more_few queue old.events pass in let is = ap (λ list. taken queue (steps_of list)) events in gains_worked (omega (arith, few, is, more))

    pub gains_chunk : (client : ℕ) → length (chunks_in client old.events) < length (chunks_in client new.events) → Gains W 1 old before new behind
    gains_chunk client more = let was = taken_chunks client old.events in let is = taken_chunks client new.events in gains_queue (Chunks client) (omega (arith, was, is, more))

    pub gains_crumb : (client : ℕ) → length (crumbs_in client old.events) < length (crumbs_in client new.events) → Gains W 1 old before new behind
    gains_crumb client more = let was = taken_crumbs client old.events in let is = taken_crumbs client new.events in gains_queue (Crumbs client) (omega (arith, was, is, more))

    pub gains_trigger : (client : ℕ) → length (triggers_in client old.events) < length (triggers_in client new.events) → Gains W 1 old before new behind
    gains_trigger client more = let was = taken_triggers client old.events in let is = taken_triggers client new.events in gains_queue (Triggers client) (omega (arith, was, is, more))

    pub gains_ask : length (asks_in old.events) < length (asks_in new.events) → Gains W 1 old before new behind
    gains_ask more = let was = taken_asks old.events in let is = taken_asks new.events in gains_queue Asks (omega (arith, was, is, more))

    gains_turn : TurnsReport → CanReport W.settings (state_at W old) → (n : ℕ) → worked (steps_of pass) ≡ n → Gains W 1 old before new behind
    gains_turn reports can (suc n) is = gains_worked (omega (arith, is))
    gains_turn reports can zero is =
        let turn = begins_with_turn W pass is_pass is in
        let none = sym (ap (λ list. worked (steps_of list)) turn.is) ∙ is in
        let less = load_turn add says W.settings old.node reports (state_at W old) turn.rest can (omega (arith, none)) in
        let now = ap load (state_on ∙ ap (after_from W.settings old.node (state_at W old)) turn.is) in
        let w = worked_on in
        omega (arith, less, now, w, is, grows)

    pub gains_report : TurnsReport → CanReport W.settings (state_at W old) → Gains W 1 old before new behind
    gains_report reports can = gains_turn reports can (worked (steps_of pass)) refl
