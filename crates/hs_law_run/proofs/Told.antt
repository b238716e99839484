-- The doings of the schedule, told pass by pass, are what its machine has at each stage.
use Rattle.std.proofs.Common.{◌≡◌, ℕ, suc, ◌+◌, ◌<◌, ◌≤◌, List, [], ◌∷◌, ◌++◌, length, refl, sym, ap, ◌∙◌, Option, Some, arith, map, slice_get, unwrap_or, length-append}
use Rattle.hs_law_run.proofs.Prelude.{range_with_len, option_map_or, NodeId, Message, Messages, Step, AgentState, AgentEvent, after_event, after, PlainSettings, PlainWorkload, NodeRun, log_at, node_at, Known}
use Rattle.hs_law_agent.specs.Laws.{StepsSayWhatTheyTell}
use Rattle.hs_law_agent.specs.Stepping.{after_from}
use Rattle.hs_law_journal.proofs.Heard.{said_by, event_says}
use Rattle.hs_law_journal.proofs.Joined.{mapped_long, grown, grown_all}
use Rattle.hs_law_journal.specs.Doings.{NodeDoings, all_events, events_in, steps_of, heard_in, state_after, last_state, all_heard, journal_of}
use Rattle.hs_law_run.proofs.Came.{added_is}
use Rattle.hs_law_run.proofs.Followed.{log_of}
use Rattle.hs_law_run.proofs.Passes.{run_there, pass_at, more_at, events_grow, heard_grows, starts_bare, heard_none}
use Rattle.hs_law_run.proofs.Stages.{reached, shaped}
use Rattle.hs_law_run.proofs.Standing.{kept, held_at, number_at, told_is}
use Rattle.hs_law_run.specs.Told.{stage, events_at, heard_at, node_doings, doings_of}
use Rattle.hs_law_journal.proofs.ItemsTaken.{own_log}
use Rattle.hs_law_run.specs.Stories.{added}
use Rattle.std.proofs.lemmas.Simd.{map-map}

-- events take back no message
said_from : (says : StepsSayWhatTheyTell) (settings : PlainSettings) (node : ℕ) (events : List AgentEvent) (state : AgentState) → length state.said ≤ length (after_from settings node state events).said
said_from says settings node [] state = omega arith
said_from says settings node (event ∷ events) state =
    let first = ap length (event_says settings says node state event) in
    let both = length-append state.said (said_by settings node state event) in
    let rest = said_from says settings node events (after_event settings node state event) in
    omega (arith, first, both, rest)

module _ (known : Known) (W : PlainWorkload) (count : ℕ) where
  heard_add : (k : ℕ) → k < count → heard_at W (suc k) ≡ heard_at W k ++ added (heard_at W) k
  heard_add k low =
      let h = heard_grows known W k in h ∙ ap (λ (more : Messages). heard_at W k ++ more) (sym (added_is (heard_at W k) (heard_at W (suc k)) (more_at known W k) h))

  pub heard_are : (k : ℕ) → k ≤ count → heard_in (doings_of W count) k ≡ heard_at W k
  heard_are k low = grown (heard_at W) (added (heard_at W)) count (heard_none known W) heard_add k low

  pub all_heard_are : all_heard (doings_of W count) ≡ heard_at W count
  all_heard_are = grown_all (heard_at W) (added (heard_at W)) count (heard_none known W) heard_add

  module _ (i : ℕ) (low : i < W.settings.nodes) where
    pub added_are : (k : ℕ) → added (events_at W i) k ≡ (pass_at known W k i low).from.new
    added_are k = added_is (events_at W i k) (events_at W i (suc k)) (pass_at known W k i low).from.new (events_grow known W k i low)

    events_add : (k : ℕ) → k < count → events_at W i (suc k) ≡ events_at W i k ++ added (events_at W i) k
    events_add k few = events_grow known W k i low ∙ ap (λ (new : List AgentEvent). events_at W i k ++ new) (sym (added_are k))

    pub events_are : (k : ℕ) → k ≤ count → events_in (node_doings W count i) k ≡ events_at W i k
    events_are k few = grown (events_at W i) (added (events_at W i)) count (starts_bare known W i) events_add k few

    pub all_events_are : all_events (node_doings W count i) ≡ events_at W i count
    all_events_are = grown_all (events_at W i) (added (events_at W i)) count (starts_bare known W i) events_add

    pub long : length (node_doings W count i).passes ≡ count
    long = mapped_long (added (events_at W i)) count

    -- where the agent stands at a stage
    pub record StandsAt (k : ℕ) : Type 0 where
      pub run : NodeRun
      pub there : node_at W (stage W k).journal i ≡ Some run
      pub events : events_at W i k ≡ run.events
      pub number : run.node ≡ i
      pub state : after W.settings i (events_at W i k) ≡ run.state
      pub log : log_at (stage W k).journal i ≡ steps_of (events_at W i k)

    pub stands_at : (k : ℕ) → StandsAt k
    stands_at k =
        let m = stage W k in
        let r = reached W k in
        let f = run_there known W m i low in
        let number = number_at known W m i f.0 f.1 in
        let events = ap (λ (o : Option NodeRun). option_map_or (λ (run : NodeRun). run.events) o []) f.1 in
        let state : after W.settings i (events_at W i k) ≡ f.0.state =
        ap (after W.settings i) events ∙ ap (λ (n : ℕ). after W.settings n f.0.events) (sym number) ∙ sym (held_at known W m r i f.0 f.1).comes
        in
        record {
          run = f.0;
          there = f.1;
          events = events;
          number = number;
          state = state;
          log = sym (log_of known W m (kept known W m r).done i f.0 f.1) ∙ ap (λ (state : AgentState). state.log) (sym state) ∙ own_log known.adds W.settings i (events_at W i k);
        }

    pub said_rises : (k : ℕ) → length (stands_at k).run.state.said ≤ length (stands_at (suc k)).run.state.said
    said_rises k =
        let new = (pass_at known W k i low).from.new in
        let was = ap (λ (state : AgentState). length state.said) (stands_at k).state in
        let now = ap (λ (state : AgentState). length state.said) (ap (after W.settings i) (sym (events_grow known W k i low)) ∙ (stands_at (suc k)).state) in
        let on = ap (λ (state : AgentState). length state.said) (known.go_on W.settings i (events_at W i k) new) in
        let more = said_from known.says W.settings i new (after W.settings i (events_at W i k)) in
        omega (arith, was, now, on, more)

    pub state_there : (k : ℕ) → k ≤ count → state_after W.settings (node_doings W count i) k ≡ (stands_at k).run.state
    state_there k few = ap (after W.settings i) (events_are k few) ∙ (stands_at k).state

    pub last_there : last_state W.settings (node_doings W count i) ≡ (stands_at count).run.state
    last_there = ap (after W.settings i) all_events_are ∙ (stands_at count).state

  -- ---- the journal

  by_places : {X : Type 0} (f : ℕ → X) (d : X) (first : ℕ) (xs : List X) → ((i : ℕ) → i < length xs → f (first + i) ≡ unwrap_or (slice_get xs i) d) → map f (range_with_len first (length xs)) ≡ xs
  by_places f d first [] each = refl
  by_places {X = X} f d first (x ∷ xs) each =
      let zeroth : first ≡ first + 0 = omega arith in
      ap (λ (y : X). y ∷ map f (range_with_len (first + 1) (length xs))) (ap f zeroth ∙ each 0 (omega arith))
      ∙ ap (λ (rest : List X). x ∷ rest) (by_places f d (first + 1) xs (λ i low. let next : first + 1 + i ≡ first + suc i = omega arith in ap f next ∙ each (suc i) (omega (arith, low))))

  logs_are : map (λ (n : NodeDoings). steps_of (all_events n)) (doings_of W count).nodes ≡ (stage W count).journal.logs
  logs_are =
      let w = shaped W (stage W count) (reached W count) in
      let logs = w.logs in
      map-map (λ (n : NodeDoings). steps_of (all_events n)) (node_doings W count) (range_with_len 0 W.settings.nodes)
      ∙ ap (λ n. map (λ i. steps_of (all_events (node_doings W count i))) (range_with_len 0 n)) (sym logs)
      ∙ by_places (λ i. steps_of (all_events (node_doings W count i))) [] 0 (stage W count).journal.logs
      (λ i few.
      let zeroth : 0 + i ≡ i = omega arith in
      let low : i < W.settings.nodes = omega (arith, few, logs) in
      ap (λ j. steps_of (all_events (node_doings W count j))) zeroth ∙ ap steps_of (all_events_are i low) ∙ sym (stands_at i low count).log)

  pub journal_is : journal_of W (doings_of W count) ≡ (stage W count).journal
  journal_is =
      let w = shaped W (stage W count) (reached W count) in
      let J = (stage W count).journal in
      let told = ap (map (λ (m : Message). m.node)) all_heard_are ∙ told_is known W (stage W count) (reached W count) in
      ap (λ (n : ℕ). record { nodes = n; clients = W.settings.clients; draws = J.draws; logs = map (λ (n : NodeDoings). steps_of (all_events n)) (doings_of W count).nodes; told = map (λ (m : Message). m.node) (all_heard (doings_of W count)) }) (sym w.nodes)
      ∙ ap (λ (n : ℕ). record { nodes = J.nodes; clients = n; draws = J.draws; logs = map (λ (n : NodeDoings). steps_of (all_events n)) (doings_of W count).nodes; told = map (λ (m : Message). m.node) (all_heard (doings_of W count)) }) (sym w.clients)
      ∙ ap (λ (logs : List (List Step)). record { nodes = J.nodes; clients = J.clients; draws = J.draws; logs = logs; told = map (λ (m : Message). m.node) (all_heard (doings_of W count)) }) logs_are
      ∙ ap (λ (told : List NodeId). record { nodes = J.nodes; clients = J.clients; draws = J.draws; logs = J.logs; told = told }) told
