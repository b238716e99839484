-- What a pass does at each node: what the agent bears grows by what it takes at most, and where it takes nothing, a turn takes something
-- off, if something was pinned.
use Rattle.std.proofs.Common.{◌≡◌, ◌⊎◌, inl, inr, ℕ, ◌+◌, ◌<◌, ◌≤◌, false, List, [], ◌∷◌, length, refl, sym, ap, subst, ◌∙◌, Some, arith, slice_get, length-append}
use Rattle.hs_law_run.proofs.Prelude.{HaveWeights, range_with_len, length-map, length-range_with_len, slice_get-map, same_Some, all_by_place, all_map, all_append, all_at, option_unmap, MIN_SIZE, Step, noted_as, CanReport, AgentState, AgentEvent, PlainWorkload, client_sends, node_sends, node_behind, NodeRun, Run, followed, event_of, perform, is_offer, pool_events, IsLaidOut, Known, Machine, pass_steps, give_steps, agents_take, agents_give, coordinator_hears, passes}
use Rattle.hs_records.specs.declared.journal.Step.TheVariants as steps
use Rattle.hs_law_run.proofs.Followed.{number_is, enough_of, left_is, steps_there, StepsThere, hear_there, IsDone}
use Rattle.hs_law_journal.proofs.Groups.{Spoken, all_spoken}
use Rattle.hs_law_run.proofs.Held.{IsHeld}
use Rattle.hs_law_run.proofs.Keeping.{own_sends, Keeps, take_keeps_held, give_keeps_held}
use Rattle.hs_law_run.proofs.Pins.{reports_pinned}
use Rattle.hs_law_run.proofs.Takes.{before_turn, all_takes}
use Rattle.hs_law_run.proofs.Walks.{Walked, IsThrough, IsEmptied, takes_keep, gives_keep}
use Rattle.hs_law_run.proofs.Working.{work, load, Works, step_works, give_works}

module _ (k : Known) (W : PlainWorkload) (laid : IsLaidOut W) (least : MIN_SIZE ≤ W.settings.size) (weights : HaveWeights W.settings.triggers) where
  abbrev clients : ℕ
  clients = W.settings.clients

  pub spoken : (m : Machine) → Spoken W.settings (followed W m.journal)
  spoken m = all_spoken k.few k.adds k.says W m.journal (followed W m.journal) (k.plays W m.journal).leads

  -- how a node stands behind a pass beside how it stood
  pub record IsWorked (node later : NodeRun) : Type 0 where
    pub even : load later + work clients node.state.log ≤ load node + work clients later.state.log
    pub mono : work clients node.state.log ≤ work clients later.state.log
    pub told : length node.state.said ≤ length later.state.said
    pub calm : work clients later.state.log ≤ work clients node.state.log → (node.state.pinned ≡ []) ⊎ (load later < load node)

  module _ (m : Machine) (g : Keeps k W m) where
    abbrev before : Run
    before = followed W m.journal

    abbrev taken : Machine
    taken = agents_take W m

    abbrev given : Machine
    given = agents_give W taken

    -- ---- the agents take

    can_at : (i : ℕ) (node : NodeRun) → slice_get before.nodes i ≡ Some node → (place : ℕ) (others : List ℕ) → node.state.pinned ≡ place ∷ others → CanReport W.settings node.state
    can_at i node stands =
        let held = all_at (IsHeld W.settings) before.nodes i node g.held stands in
        let number = number_is k W m.journal i node stands in
        let sends = own_sends k W m.journal i node stands ∙ ap (node_sends W m.journal) number in
        let speaks = all_at _ before.nodes i node (spoken m).nodes stands in
        reports_pinned k.places k.stands k.fit W m.journal least weights i before.nodes node held.comes held.holds sends speaks

    record Took (r : NodeRun) : Type 0 where
      node : NodeRun
      stands : slice_get before.nodes r.node ≡ Some node
      worked : IsWorked node r

    record Taking (i : ℕ) (node : NodeRun) (stands : slice_get before.nodes i ≡ Some node) (r : NodeRun) : Type 0 where
      number : r.node ≡ i
      count : length r.state.log + length r.left ≡ length node.state.log + length (pass_steps W m before node)
      works : Works k.few k.adds k.says k.reports W.settings clients node (can_at i node stands) r

    taking_keeps : (i : ℕ) (node : NodeRun) (stands : slice_get before.nodes i ≡ Some node) (run : NodeRun) (step : Step) (rest : List Step) (event : AgentEvent) → run.left ≡ step ∷ rest → is_offer step ≡ false
        → event_of run before.heard step ≡ Some event → Taking i node stands run → Taking i node stands (perform W.settings rest run event)
    taking_keeps i node stands run step rest event left quiet met t =
        let log = ap length ((k.adds W.settings run.node run.state).log event) in
        let both = length-append run.state.log (noted_as event ∷ []) in
        let had = ap length left in
        let count = t.count in
        record {
          number = t.number;
          count = omega (arith, log, both, had, count);
          works = step_works k.few k.adds k.says k.reports W.settings clients node (can_at i node stands) before.heard run step rest event quiet met t.works;
        }

    abbrev ThroughTook : NodeRun → Type 0
    ThroughTook r = IsThrough r × Took r

    take_node : (i : ℕ) (node : NodeRun) → slice_get before.nodes i ≡ Some node → Walked W.settings before.heard ThroughTook (node_behind W m.journal taken.journal node)
    take_node i node stands =
        let behind = node_behind W m.journal taken.journal node in
        let number = number_is k W m.journal i node stands in
        let left = left_is k W m (pass_steps W m before) g.done i node stands in
        let long = ap length left in
        let w =
        takes_keep k.noted W.settings before.heard (Taking i node stands) (taking_keeps i node stands) (pass_steps W m before node) behind left
        (all_append (λ (step : Step). is_offer step ≡ false) (before_turn W m before node) (steps.Turn ∷ [])
        (all_takes (λ (step : Step). is_offer step ≡ false) (λ client. refl) (λ client. refl) (λ client. refl) refl W m before node) (refl, tt))
        (enough_of k W m g.done i node stands)
        (record {
          number = number;
          count = omega (arith, long);
          works =
              record {
                sends = length-map (range_with_len 0 clients) (client_sends W taken.journal node.node) ∙ length-range_with_len 0 clients;
                even = omega arith;
                mono = omega arith;
                told = omega arith;
                calm = λ few. inl refl;
              };
        })
        in
        record { last = w.last; walks = w.walks; ends = (w.ends.0, took_of w.last w.ends.0 w.ends.1) }
      where
        took_of : (r : NodeRun) → IsThrough r → Taking i node stands r → Took r
        took_of r through t =
            record {
              node = node;
              stands = ap (slice_get before.nodes) t.number ∙ stands;
              worked = record { even = t.works.even; mono = t.works.mono; told = t.works.told; calm = λ few. calm_case (t.works.calm few) };
            }
          where
            calm_case : (r.state ≡ node.state) ⊎ ((node.state.pinned ≡ []) ⊎ (load r < load node)) → (node.state.pinned ≡ []) ⊎ (load r < load node)
            calm_case (inl same) =
                let log = ap (λ (state : AgentState). length state.log) same in
                let none = ap length through in
                let count = t.count in
                let turn = length-append (before_turn W m before node) (steps.Turn ∷ []) in
                absurd (omega (arith, log, none, count, turn))
            calm_case (inr rest) = rest

    take_works : StepsThere k W m (pass_steps W m before) g.done ThroughTook
    take_works =
        steps_there k W m (pass_steps W m before) g.done ThroughTook (λ node e. e.0)
        (all_map (Walked W.settings before.heard ThroughTook) (node_behind W m.journal taken.journal) before.nodes
        (all_by_place (λ (node : NodeRun). Walked W.settings before.heard ThroughTook (node_behind W m.journal taken.journal node)) before.nodes take_node))

    -- ---- they give

    taken_done : IsDone W taken
    taken_done = (take_keeps_held k W m g).done

    abbrev middle : Run
    middle = followed W taken.journal

    record GaveSo (r : NodeRun) : Type 0 where
      node : NodeRun
      stands : slice_get middle.nodes r.node ≡ Some node
      few : load r ≤ load node
      told : length r.state.said ≡ length node.state.said
      same : work clients r.state.log ≡ work clients node.state.log

    record Giving (i : ℕ) (node : NodeRun) (stamp : ℕ) (r : NodeRun) : Type 0 where
      number : r.node ≡ i
      few : load r ≤ load node
      told : length r.state.said ≡ length node.state.said
      same : work clients r.state.log ≡ work clients node.state.log

    abbrev EmptiedGave : NodeRun → Type 0
    EmptiedGave r = IsEmptied k.noted W.settings middle.heard r × GaveSo r

    give_node : (i : ℕ) (node : NodeRun) → slice_get middle.nodes i ≡ Some node → Walked W.settings middle.heard EmptiedGave (node_behind W taken.journal given.journal node)
    give_node i node stands =
        let behind = node_behind W taken.journal given.journal node in
        let number = number_is k W taken.journal i node stands in
        let w =
        gives_keep k.noted W.settings middle.heard (Giving i node)
        (λ stamp place hand run rest e p.
        let one_more = give_works k.few k.adds k.says W.settings clients stamp run rest in
        let less = one_more.0 in
        let few = p.few in
        record { number = p.number; few = omega (arith, less, few); told = one_more.1 ∙ p.told; same = one_more.2 ∙ p.same })
        (length node.state.hand) (length (pool_events node)) behind
        (left_is k W taken give_steps taken_done i node stands) refl (record { number = number; few = omega arith; told = refl; same = refl })
        in
        record { last = w.last; walks = w.walks; ends = (w.ends.0, record { node = node; stands = ap (slice_get middle.nodes) w.ends.1.number ∙ stands; few = w.ends.1.few; told = w.ends.1.told; same = w.ends.1.same }) }

    gave_works : StepsThere k W taken give_steps taken_done EmptiedGave
    gave_works =
        steps_there k W taken give_steps taken_done EmptiedGave (λ node e. e.0.through)
        (all_map (Walked W.settings middle.heard EmptiedGave) (node_behind W taken.journal given.journal) middle.nodes
        (all_by_place (λ (node : NodeRun). Walked W.settings middle.heard EmptiedGave (node_behind W taken.journal given.journal node)) middle.nodes give_node))

    given_done : IsDone W given
    given_done = (give_keeps_held k W taken (take_keeps_held k W m g)).done

    -- ---- a node in a pass

    pub pass_works : (i : ℕ) (node later : NodeRun) → slice_get before.nodes i ≡ Some node → slice_get (followed W (passes W m).journal).nodes i ≡ Some later → IsWorked node later
    pass_works i node later stands there =
        let u =
        option_unmap (node_behind W given.journal (coordinator_hears W given).journal) (slice_get (followed W given.journal).nodes i) later
        (sym (slice_get-map (node_behind W given.journal (coordinator_hears W given).journal) (followed W given.journal).nodes i)
        ∙ ap (λ (nodes : List NodeRun). slice_get nodes i) (sym (hear_there k W given given_done).nodes) ∙ there)
        in
        let gave = (all_at EmptiedGave (followed W given.journal).nodes i u.0 gave_works.each u.1).1 in
        let gave_number = number_is k W given.journal i u.0 u.1 in
        let middle_stands : slice_get middle.nodes i ≡ Some gave.node = ap (slice_get middle.nodes) (sym gave_number) ∙ gave.stands in
        let took = (all_at ThroughTook middle.nodes i gave.node take_works.each middle_stands).1 in
        let took_number = number_is k W taken.journal i gave.node middle_stands in
        let same : took.node ≡ node = same_Some took.node node (sym (ap (slice_get before.nodes) (sym took_number) ∙ took.stands) ∙ stands) in
        subst (λ (later : NodeRun). IsWorked node later) u.2
        (subst (λ (node : NodeRun). IsWorked node (node_behind W given.journal (coordinator_hears W given).journal u.0)) same
        (let even = took.worked.even in
        let mono = took.worked.mono in
        let few = gave.few in
        let logs = gave.same in
        let gave_told = gave.told in
        let took_told = took.worked.told in
        record {
          even = omega (arith, even, few, logs);
          mono = omega (arith, mono, logs);
          told = omega (arith, gave_told, took_told);
          calm = λ less. calm_case took.node gave.node u.0 few (took.worked.calm (omega (arith, less, logs)));
        }))
      where
        calm_case : (first second last : NodeRun) → load last ≤ load second → (first.state.pinned ≡ []) ⊎ (load second < load first) → (first.state.pinned ≡ []) ⊎ (load last < load first)
        calm_case first second last few (inl none) = inl none
        calm_case first second last few (inr less) = inr (omega (arith, few, less))
