-- What a pass works off at a node: with each item that the agent takes it bears one thing more at most, and a turn takes something off
-- where something is pinned.
use Rattle.std.proofs.Common.{◌≡◌, ◌⊎◌, inl, inr, ℕ, zero, suc, ◌+◌, ◌<◌, ◌≤◌, true, false, List, [], ◌∷◌, ◌++◌, length, refl, sym, ap, subst, ◌∙◌, Option, Some, None, arith, option_map, slice_get, eq-eqb, length-append}
use Rattle.hs_law_run.proofs.Prelude.{option_and_then, same_Some, option_unmap, one_if, count_cons, count_append, Messages, Step, noted_as, EventsAddThis, CanReport, AgentState, Input, Chunk, Crumbed, Triggered, Asked, Turn, AgentEvent, Took, Gave, after_event, PlainSettings, ClientSends, Queue, Chunks, Crumbs, Triggers, Asks, takes, taken, asks_to, NodeRun, next_of, event_of, perform, is_offer, sum_to, sum_le, sum_lt}
use Rattle.std.specs.Option.{option_to_list}
use Rattle.hs_records.specs.declared.journal.Step.TheVariants as steps
use Rattle.hs_law_agent.specs.Laws.{borne, EventsAddFew, StepsSayWhatTheyTell, TurnsReport}
use Rattle.hs_law_agent.specs.Stepping.{told_by}
use Rattle.hs_law_agent.specs.Stepping as model
use Rattle.hs_law_journal.proofs.Loads.{load_in, load_input, weight}

-- ---- what is taken

-- how many items of its clients an agent took
abbrev pub of_client : List Step → ℕ → ℕ
of_client log c = taken (Chunks c) log + taken (Crumbs c) log + taken (Triggers c) log

-- how many items and asks
abbrev pub work : ℕ → List Step → ℕ
work clients log = sum_to (of_client log) clients + taken Asks log

-- what an agent bears and said
abbrev pub load : NodeRun → ℕ
load run = load_in run.state

module _ (clients : ℕ) (log : List Step) where
  taken_one : (queue : Queue) (step : Step) → taken queue (log ++ step ∷ []) ≡ taken queue log + one_if (takes queue step)
  taken_one queue step =
      let both = count_append (takes queue) log (step ∷ []) in
      let last = count_cons (takes queue) step [] in
      omega (arith, both, last)

  client_more : (step : Step) (c : ℕ) → of_client log c ≤ of_client (log ++ step ∷ []) c
  client_more step c =
      let a = taken_one (Chunks c) step in
      let b = taken_one (Crumbs c) step in
      let d = taken_one (Triggers c) step in
      omega (arith, a, b, d)

  pub work_more : (step : Step) → work clients log ≤ work clients (log ++ step ∷ [])
  work_more step =
      let items = sum_le (of_client log) (of_client (log ++ step ∷ [])) clients (λ c low. client_more step c) in
      let asks = taken_one Asks step in
      omega (arith, items, asks)

  -- a step that takes of a client
  work_client : (step : Step) (c : ℕ) → c < clients → of_client log c < of_client (log ++ step ∷ []) c → work clients log < work clients (log ++ step ∷ [])
  work_client step c low less =
      let items = sum_lt (of_client log) (of_client (log ++ step ∷ [])) clients c (λ c low. client_more step c) low less in
      let asks = taken_one Asks step in
      omega (arith, items, asks)

  chunk_works : (c : ℕ) → c < clients → work clients log < work clients (log ++ steps.Chunk c ∷ [])
  chunk_works c low =
      let a = taken_one (Chunks c) (steps.Chunk c) in
      let own = ap one_if (eq-eqb c c refl) in
      let b = taken_one (Crumbs c) (steps.Chunk c) in
      let d = taken_one (Triggers c) (steps.Chunk c) in
      work_client (steps.Chunk c) c low (omega (arith, a, own, b, d))

  crumb_works : (c : ℕ) → c < clients → work clients log < work clients (log ++ steps.Crumb c ∷ [])
  crumb_works c low =
      let a = taken_one (Crumbs c) (steps.Crumb c) in
      let own = ap one_if (eq-eqb c c refl) in
      let b = taken_one (Chunks c) (steps.Crumb c) in
      let d = taken_one (Triggers c) (steps.Crumb c) in
      work_client (steps.Crumb c) c low (omega (arith, a, own, b, d))

  trigger_works : (c : ℕ) → c < clients → work clients log < work clients (log ++ steps.Trigger c ∷ [])
  trigger_works c low =
      let a = taken_one (Triggers c) (steps.Trigger c) in
      let own = ap one_if (eq-eqb c c refl) in
      let b = taken_one (Chunks c) (steps.Trigger c) in
      let d = taken_one (Crumbs c) (steps.Trigger c) in
      work_client (steps.Trigger c) c low (omega (arith, a, own, b, d))

  ask_works : work clients log < work clients (log ++ steps.Ask ∷ [])
  ask_works =
      let items = sum_le (of_client log) (of_client (log ++ steps.Ask ∷ [])) clients (λ c low. client_more steps.Ask c) in
      let asks = taken_one Asks steps.Ask in
      omega (arith, items, asks)

-- ---- one step

module _ (add : EventsAddFew) (this : EventsAddThis) (says : StepsSayWhatTheyTell) (reports : TurnsReport) (settings : PlainSettings) (clients : ℕ) (start : NodeRun)
    (can : (place : ℕ) (places : List ℕ) → start.state.pinned ≡ place ∷ places → CanReport settings start.state)
  where
    said_more : (node : ℕ) (state : AgentState) (input : Input) → length state.said ≤ length (after_event settings node state (Took input)).said
    said_more node state input =
        let said = ap length ((says settings node state).inputs input) in
        let both = length-append state.said (option_to_list (told_by settings node state input)) in
        omega (arith, said, both)

    -- how a node stands beside its start
    pub record Works (run : NodeRun) : Type 0 where
      pub sends : length run.sends ≡ clients
      pub even : load run + work clients start.state.log ≤ load start + work clients run.state.log
      pub mono : work clients start.state.log ≤ work clients run.state.log
      pub told : length start.state.said ≤ length run.state.said
      -- where nothing was taken, a turn took something off, if something was pinned
      pub calm : work clients run.state.log ≤ work clients start.state.log → (run.state ≡ start.state) ⊎ ((start.state.pinned ≡ []) ⊎ (load run < load start))

    -- an item
    item_works : (run : NodeRun) (rest : List Step) (input : Input) → weight input ≡ 1 → work clients run.state.log < work clients (run.state.log ++ noted_as (Took input) ∷ []) → Works run → Works (perform settings rest run (Took input))
    item_works run rest input own less w =
        let log = ap (work clients) ((this settings run.node run.state).log (Took input)) in
        let more = load_input add says settings run.node run.state input in
        let even = w.even in
        let mono = w.mono in
        let said = said_more run.node run.state input in
        let told = w.told in
        record {
          sends = w.sends;
          even = omega (arith, log, more, even, own, less);
          mono = omega (arith, log, mono, less);
          told = omega (arith, told, said);
          calm = λ few. absurd (omega (arith, few, log, mono, less));
        }

    turn_works : (run : NodeRun) (rest : List Step) → Works run → Works (perform settings rest run (Took Turn))
    turn_works run rest w =
        let log = ap (work clients) ((this settings run.node run.state).log (Took Turn)) in
        let more = load_input add says settings run.node run.state Turn in
        let grows = work_more clients run.state.log steps.Turn in
        let even = w.even in
        let mono = w.mono in
        let said = said_more run.node run.state Turn in
        let told = w.told in
        record {
          sends = w.sends;
          even = omega (arith, log, more, even, grows);
          mono = omega (arith, log, mono, grows);
          told = omega (arith, told, said);
          calm = λ few. calm_case (w.calm (omega (arith, few, log, grows)));
        }
      where
        pinned_case : (pinned : List ℕ) → start.state.pinned ≡ pinned → run.state ≡ start.state → (start.state.pinned ≡ []) ⊎ (load (perform settings rest run (Took Turn)) < load start)
        pinned_case [] e same = inl e
        pinned_case (place ∷ places) e same =
            let less = reports settings run.node start.state (can place places e) in
            let here = subst (λ (state : AgentState). borne (after_event settings run.node state (Took Turn)) < borne state) (sym same) less in
            let said = ap length ((says settings run.node run.state).inputs Turn) in
            let both = length-append run.state.said [] in
            let was = ap (λ (state : AgentState). borne state + length state.said) same in
            inr (omega (arith, here, said, both, was))

        calm_case : (run.state ≡ start.state) ⊎ ((start.state.pinned ≡ []) ⊎ (load run < load start))
            → (after_event settings run.node run.state (Took Turn) ≡ start.state) ⊎ ((start.state.pinned ≡ []) ⊎ (load (perform settings rest run (Took Turn)) < load start))
        calm_case (inl same) = inr (pinned_case start.state.pinned refl same)
        calm_case (inr (inl none)) = inr (inl none)
        calm_case (inr (inr less)) = let more = load_input add says settings run.node run.state Turn in inr (inr (omega (arith, less, more)))

    get_low : {X : Type 0} (xs : List X) (i : ℕ) (x : X) → slice_get xs i ≡ Some x → i < length xs
    get_low [] i x h = let never : None ≡ Some x = h in absurd cc
    get_low (y ∷ xs) zero x h = omega arith
    get_low (y ∷ xs) (suc i) x h = let rest = get_low xs i x h in omega (arith, rest)

    client_item : {A : Type 0} (run : NodeRun) (rest : List Step) (client : ℕ) (f : A → Input) (g : ClientSends → Option A) (event : AgentEvent) (o : Option ClientSends) → slice_get run.sends client ≡ o
        → option_and_then (λ (s : ClientSends). option_map (λ a. Took (f a)) (g s)) o ≡ Some event → ((a : A) → weight (f a) ≡ 1)
        → ((a : A) → client < clients → work clients run.state.log < work clients (run.state.log ++ noted_as (Took (f a)) ∷ [])) → Works run → Works (perform settings rest run event)
    client_item run rest client f g event None e met own less w = let never : None ≡ Some event = met in absurd cc
    client_item run rest client f g event (Some s) e met own less w =
        let t = option_unmap (λ a. Took (f a)) (g s) event met in
        let low = get_low run.sends client s e in
        let count = w.sends in
        subst (λ (event : AgentEvent). Works (perform settings rest run event)) t.2 (item_works run rest (f t.0) (own t.0) (less t.0 (omega (arith, low, count))) w)

    pub step_works : (heard : Messages) (run : NodeRun) (step : Step) (rest : List Step) (event : AgentEvent) → is_offer step ≡ false → event_of run heard step ≡ Some event → Works run → Works (perform settings rest run event)
    step_works heard run (steps.Chunk client) rest event quiet met w =
        client_item run rest client (Chunk client) (λ (s : ClientSends). next_of (Chunks client) run.state s.chunks) event (slice_get run.sends client) refl met (λ a. refl) (λ a low. chunk_works clients run.state.log client low) w
    step_works heard run (steps.Crumb client) rest event quiet met w =
        client_item run rest client (Crumbed client) (λ (s : ClientSends). next_of (Crumbs client) run.state s.crumbs) event (slice_get run.sends client) refl met (λ a. refl) (λ a low. crumb_works clients run.state.log client low) w
    step_works heard run (steps.Trigger client) rest event quiet met w =
        client_item run rest client (Triggered client) (λ (s : ClientSends). next_of (Triggers client) run.state s.triggers) event (slice_get run.sends client) refl met (λ a. refl) (λ a low. trigger_works clients run.state.log client low) w
    step_works heard run steps.Ask rest event quiet met w =
        let t = option_unmap (λ ask. Took (Asked ask)) (slice_get (asks_to run.node heard) (taken Asks run.state.log)) event met in
        subst (λ (event : AgentEvent). Works (perform settings rest run event)) t.2 (item_works run rest (Asked t.0) refl (ask_works clients run.state.log) w)
    step_works heard run steps.Turn rest event quiet met w = subst (λ (event : AgentEvent). Works (perform settings rest run event)) (same_Some (Took Turn) event met) (turn_works run rest w)
    step_works heard run (steps.Given stamp) rest event quiet met w = let never : true ≡ false = quiet in absurd cc
    step_works heard run (steps.Missed stamp) rest event quiet met w = let never : true ≡ false = quiet in absurd cc
    step_works heard run steps.Unread rest event quiet met w = let never : true ≡ false = quiet in absurd cc

-- ---- a give

-- a give adds nothing
pub give_works : EventsAddFew → EventsAddThis → StepsSayWhatTheyTell → (settings : PlainSettings) (clients stamp : ℕ) (run : NodeRun) (rest : List Step)
    → (load (perform settings rest run (Gave (model.Given stamp))) ≤ load run) × (length (perform settings rest run (Gave (model.Given stamp))).state.said ≡ length run.state.said) × (work clients (perform settings rest run (Gave (model.Given stamp))).state.log ≡ work clients run.state.log)
give_works add this says settings clients stamp run rest =
    let more = (add settings run.node run.state).offered (model.Given stamp) in
    let said = ap length ((says settings run.node run.state).answers (model.Given stamp)) in
    let log = ap (work clients) ((this settings run.node run.state).log (Gave (model.Given stamp))) in
    (omega (arith, more, said), said, log ∙ same_work)
  where
    same_client : (log : List Step) (c : ℕ) → of_client (log ++ steps.Given stamp ∷ []) c ≡ of_client log c
    same_client log c =
        let a = taken_one clients log (Chunks c) (steps.Given stamp) in
        let b = taken_one clients log (Crumbs c) (steps.Given stamp) in
        let d = taken_one clients log (Triggers c) (steps.Given stamp) in
        omega (arith, a, b, d)

    same_work : work clients (run.state.log ++ steps.Given stamp ∷ []) ≡ work clients run.state.log
    same_work =
        let up = sum_le (of_client run.state.log) (of_client (run.state.log ++ steps.Given stamp ∷ [])) clients (λ c low. let same = same_client run.state.log c in omega (arith, same)) in
        let down = sum_le (of_client (run.state.log ++ steps.Given stamp ∷ [])) (of_client run.state.log) clients (λ c low. let same = same_client run.state.log c in omega (arith, same)) in
        let asks = taken_one clients run.state.log Asks (steps.Given stamp) in
        omega (arith, up, down, asks)
