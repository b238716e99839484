-- The agent takes an input that may come.
use Rattle.std.proofs.Common.{◌≡◌, ℕ, List, [], ◌∷◌, ◌++◌, map, Option, Some, None, refl, sym, ap, subst, ◌∙◌, arith, append_assoc}
use Rattle.hs_run_actors.proofs.Prelude.{map-append, IsSome, slice_get, AllByRecursion, flat_map, option_to_list, all_append, PlainAgent, sheet_in, AgentRun, Follows, Knows, point_of, Told, EventsGoOn, EventsAddFew, StepsSayWhatTheyTell, brought_by, AgentState, start, AgentEvent, Took, Gave, Answered, after_from, after_event, PlainSettings, PlainWorkload, Leased, Buffer, buffer_of, Sheet, AgentIs, AgentWorks, IsPageThere, IsPooled, IsWithin, Label, label_of, run_at, state_at, NodeWork}
use Rattle.hs_agent.specs.declared.input.Input.{Input}
use Rattle.hs_agent.specs.declared.input.Input.TheVariants as inputs
use Rattle.hs_agent.specs.Runs.{IsTakable, after_input, buffers_in, input_of, told_in}
use Rattle.hs_law_journal.specs.LoopPasses.{HandsReady}
use Rattle.hs_law_agent.specs.Stepping as model
use Rattle.hs_run_actors.specs.Agents.{MayCome, with_input}
use Rattle.hs_run_actors.proofs.Admitted.{admitted_few}

-- ---- offers are made of what is in the hand

pub hands_took : (settings : PlainSettings) (node : ℕ) (state : AgentState) (events : List AgentEvent) (input : model.Input) → HandsReady settings node state events → HandsReady settings node state (events ++ Took input ∷ [])
hands_took settings node state [] input ready = tt
hands_took settings node state (Took other ∷ events) input ready = hands_took settings node (after_event settings node state (Took other)) events input ready
hands_took settings node state (Gave answer ∷ events) input ready = (ready.0, hands_took settings node (after_event settings node state (Gave answer)) events input ready.1)

pub hands_gave : (settings : PlainSettings) (node : ℕ) (state : AgentState) (events : List AgentEvent) (answer : Answered) → HandsReady settings node state events → IsSome (slice_get (after_from settings node state events).hand 0)
    → HandsReady settings node state (events ++ Gave answer ∷ [])
hands_gave settings node state [] answer ready there = (there, tt)
hands_gave settings node state (Took other ∷ events) answer ready there = hands_gave settings node (after_event settings node state (Took other)) events answer ready there
hands_gave settings node state (Gave other ∷ events) answer ready there = (ready.0, hands_gave settings node (after_event settings node state (Gave other)) events answer ready.1 there)

-- ---- the sheets of events

pub brought_more : (events more : List AgentEvent) → flat_map brought_by (events ++ more) ≡ flat_map brought_by events ++ flat_map brought_by more
brought_more [] more = refl
brought_more (event ∷ events) more = ap (λ (l : List Sheet). brought_by event ++ l) (brought_more events more) ∙ sym (append_assoc (brought_by event) (flat_map brought_by events) (flat_map brought_by more))

-- ---- inputs

-- a buffer in which a page came is of the page's client
owner_is : (buffer : Buffer Leased) (sheet : Sheet) → buffer.chunk.page ≡ Some sheet → (sheet_in buffer).header.client ≡ sheet.header.client
owner_is buffer sheet e = ap (λ (page : Option Sheet). (sheet_in (record buffer { chunk = record (buffer.chunk) { page = page } })).header.client) e

brought : {g : _} (input : Input Leased g) → map sheet_in (buffers_in input) ≡ flat_map brought_by (Took (input_of input) ∷ [])
brought (inputs.Chunk client held) = refl
brought (inputs.Crumb client crumb) = refl
brought (inputs.Trigger client trigger) = refl
brought (inputs.Ask ask) = refl
brought inputs.Turn = refl

module _ (W : PlainWorkload) (work : NodeWork) where
  may_take : {g : _} (few : EventsAddFew) (buffers : List (Buffer Leased)) (input : Input Leased g) → MayCome W work input → IsTakable (point_of (run_at W work buffers None)) input
  may_take few buffers (inputs.Chunk client held) may =
      record {
        started = subst (λ (page : Option Sheet). IsSome page) (sym may.page) refl;
        from = owner_is (buffer_of held) may.sheet may.page ∙ may.owner;
        size = may.size;
      }
  may_take few buffers (inputs.Crumb client crumb) may = may.1
  may_take few buffers (inputs.Trigger client trigger) may =
      let all = admitted_few few W.settings work.node work.events in
      let room = may.2 in
      (may.1, omega (arith, all, room))
  may_take few buffers (inputs.Ask ask) may = may
  may_take few buffers inputs.Turn may = tt

  -- what it brings
  brings_pooled : {g : _} (input : Input Leased g) → MayCome W work input → AllByRecursion (IsPooled W work.pool) (buffers_in input)
  brings_pooled (inputs.Chunk client held) may = (record { size = may.size; pool_is = may.pool_is }, tt)
  brings_pooled (inputs.Crumb client crumb) may = tt
  brings_pooled (inputs.Trigger client trigger) may = tt
  brings_pooled (inputs.Ask ask) may = tt
  brings_pooled inputs.Turn may = tt

  brings_pages : {g : _} (input : Input Leased g) → MayCome W work input → AllByRecursion (IsPageThere W work.node work.pool) (buffers_in input)
  brings_pages (inputs.Chunk client held) may = (record { client = client; is = may }, tt)
  brings_pages (inputs.Crumb client crumb) may = tt
  brings_pages (inputs.Trigger client trigger) may = tt
  brings_pages (inputs.Ask ask) may = tt
  brings_pages inputs.Turn may = tt

  is_within : {g : _} (input : Input Leased g) → MayCome W work input → IsWithin W work.node (Took (input_of input))
  is_within (inputs.Chunk client held) may = (may.low, owner_is (buffer_of held) may.sheet may.page ∙ may.owner)
  is_within (inputs.Crumb client crumb) may = may
  is_within (inputs.Trigger client trigger) may = (may.0, may.1)
  is_within (inputs.Ask ask) may = may
  is_within inputs.Turn may = tt

  module _ {g : _} (agent : PlainAgent Leased) (said : List Told) (input : Input Leased g) (works : AgentWorks W work agent said) (may : MayCome W work input) where
    abbrev pub run : AgentRun Leased
    run = run_at W work works.is.buffers None

    pub takable : EventsAddFew → Knows agent (λ r. IsTakable (point_of r) input)
    takable few = λ working. (run, works.is.follows, may_take few works.is.buffers input may)

    pub took_is : EventsGoOn → (agent' : PlainAgent Leased) → Follows agent' (after_input run input) → AgentIs W (with_input input work) None agent'
    took_is go_on agent' follows =
        record {
          buffers = works.is.buffers ++ buffers_in input;
          follows = follows;
          labels =
              map-append label_of works.is.buffers (buffers_in input) ∙ ap (λ (l : List Label). l ++ map label_of (buffers_in input)) works.is.labels ∙ sym (map-append label_of work.came (buffers_in input));
          pooled = all_append (IsPooled W work.pool) works.is.buffers (buffers_in input) works.is.pooled (brings_pooled input may);
          pages = all_append (IsPageThere W work.node work.pool) work.came (buffers_in input) works.is.pages (brings_pages input may);
          sheets =
              map-append sheet_in work.came (buffers_in input) ∙ ap (λ (l : List Sheet). l ++ map sheet_in (buffers_in input)) works.is.sheets
              ∙ ap (λ (l : List Sheet). flat_map brought_by work.events ++ l) (brought input) ∙ sym (brought_more work.events (Took (input_of input) ∷ []));
          within = all_append (IsWithin W work.node) work.events (Took (input_of input) ∷ []) works.is.within (is_within input may, tt);
          hands = hands_took W.settings work.node (start W.settings) work.events (input_of input) works.is.hands;
        }

    pub took : EventsGoOn → StepsSayWhatTheyTell → (agent' : PlainAgent Leased) (told : Option Told) (said' : List Told) → Follows agent' (after_input run input) → told ≡ told_in run input → said' ≡ said ++ option_to_list told
        → AgentWorks W (with_input input work) agent' said'
    took go_on says agent' told said' follows tells joins =
        let e : AgentEvent = Took (input_of input) in
        let more = (says W.settings work.node (state_at W work)).inputs (input_of input) in
        record {
          is = took_is go_on agent' follows;
          said_is =
              ap (λ (l : List Told). work.moved ++ l) joins ∙ sym (append_assoc work.moved said (option_to_list told)) ∙ ap (λ (l : List Told). l ++ option_to_list told) works.said_is
              ∙ ap (λ (t : Option Told). (state_at W work).said ++ option_to_list t) tells ∙ sym more ∙ ap (λ (s : AgentState). s.said) (sym (go_on W.settings work.node work.events (e ∷ [])));
        }
