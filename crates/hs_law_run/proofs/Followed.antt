-- The schedule is followed to its end, piece by piece: each time a client has drawn, agents have taken or given, or the coordinator
-- has heard, the run of the longer journal is that of the shorter one with these steps performed.
use Rattle.std.proofs.Common.{◌≡◌, ℕ, zero, suc, ◌+◌, ◌-◌, ◌/◌, min, ◌<◌, ◌≤◌, true, false, List, [], ◌∷◌, ◌++◌, length, set, drop, replicate, refl, sym, ap, subst, ◌∙◌, Option, Some, None, arith, map, option_map, slice_get, unwrap_or, count_by, append-nil, eq-eqb, nat_eq}
use Rattle.hs_law_run.proofs.Prelude.{AllByRecursion, flat_map, range_with_len, both_true, option_map_or, length-map, length-replicate, length-range_with_len, slice_get-map, slice_get_within, all_by_place, all_map, all_append, all_each, all_at, drop_length, count_append, list_all_from, NodeId, Messages, Draw, Step, PlainJournal, PlainWorkload, draws_at, operations_at, node_behind, run_behind, IsOfJournal, Queue, takes, taken, is_from, NodeRun, Run, log_at, node_start, run_start, followed, Leads, Stays, is_offer, pool_events, supply, said_at, same_supply, Known, Machine, machine_start, done_at, draws_in, pages_started, client_goes, pass_steps, give_steps, with_steps, agents_take, agents_give, told_of, coordinator_hears}
use Rattle.hs_base.proofs.Ranges.{range_found}
use Rattle.hs_base.proofs.Parts.{drop_front}
use Rattle.hs_records.specs.declared.journal.Step.TheVariants as steps
use Rattle.hs_law_journal.specs.Extending.{HasMore, GoesOn, NodesAreOfJournal}
use Rattle.hs_law_journal.specs.Following.{is_done}
use Rattle.hs_law_journal.specs.Supply.{TakesWhatIsThere}
use Rattle.hs_law_run.specs.Lockstep.{with_draws}
use Rattle.hs_law_run.proofs.ExtendedLists.{length_extended, extended_at, extended_more}
use Rattle.hs_law_run.proofs.Rooms.{pass_fits, told_fits}
use Rattle.hs_law_run.proofs.Takes.{before_turn, all_takes}
use Rattle.hs_law_run.proofs.Walks.{leads_on, with_nodes, Walked, walk_all, Enough, IsThrough, takes_walk, IsEmptied, gives_walk, EnoughSaid, is_node, hears_all}

-- ---- lists

set_more : {X : Type 0} (lists : List (List X)) (p q : ℕ) (new : List X)
    → HasMore (unwrap_or (slice_get lists q) []) (unwrap_or (slice_get (set lists p (unwrap_or (slice_get lists p) [] ++ new)) q) [])
set_more [] p q new = record { more = []; is = refl }
set_more (xs ∷ lists) zero zero new = record { more = new; is = refl }
set_more (xs ∷ lists) zero (suc q) new = record { more = []; is = sym (append-nil (unwrap_or (slice_get lists q) [])) }
set_more (xs ∷ lists) (suc p) zero new = record { more = []; is = sym (append-nil xs) }
set_more (xs ∷ lists) (suc p) (suc q) new = set_more lists p q new

pub none_at : (n place : ℕ) → unwrap_or (slice_get (replicate {A = List Step} n []) place) [] ≡ []
none_at zero place = refl
none_at (suc n) zero = refl
none_at (suc n) (suc place) = none_at n place

-- ---- what stands

-- no step is left
pub record IsOver (run : Run) : Type 0 where
  pub nodes : AllByRecursion IsThrough run.nodes
  pub left : run.left ≡ []

over_done : (run : Run) → IsOver run → is_done run ≡ true
over_done run o =
    both_true
    (list_all_from (λ (node : NodeRun). nat_eq (length node.left) 0) run.nodes
    (all_each IsThrough (λ (node : NodeRun). nat_eq (length node.left) 0 ≡ true) run.nodes (λ node e. eq-eqb (length node.left) 0 (ap length e)) o.nodes))
    (eq-eqb (length run.left) 0 (ap length o.left))

-- a machine's journal has a log for each node and is followed to its end
pub record IsDone (W : PlainWorkload) (m : Machine) : Type 0 where
  pub logs : length m.journal.logs ≡ W.settings.nodes
  pub over : IsOver (followed W m.journal)

module _ (k : Known) (W : PlainWorkload) where
  -- the longer journal is followed to where these steps lead
  pub ends_at : (J K : PlainJournal) → GoesOn J K → (last : Run) → Leads W.settings (run_behind W J K (followed W J)) last → IsOver last → last ≡ followed W K
  ends_at J K goes last leads over =
      k.agree W K last
      (record {
        leads = leads_on W.settings (run_start W K) (run_behind W J K (followed W J)) last (k.goes_on W J K goes) leads;
        rests = k.rests W.settings last (over_done last over);
      })

  -- the longer journal is followed to its end too, from where the shorter one led
  pub record There (J K : PlainJournal) : Type 0 where
    pub over : IsOver (followed W K)
    pub leads : Leads W.settings (run_behind W J K (followed W J)) (followed W K)

  advance : (J K : PlainJournal) → GoesOn J K → (last : Run) → Leads W.settings (run_behind W J K (followed W J)) last → IsOver last → There J K
  advance J K goes last leads over =
      let e = ends_at J K goes last leads over in
      record { over = subst IsOver e over; leads = subst (λ (r : Run). Leads W.settings (run_behind W J K (followed W J)) r) e leads }

  pub nodes_of_journal : (J : PlainJournal) → NodesAreOfJournal W J (followed W J)
  nodes_of_journal J = k.runs W J (followed W J) (k.plays W J).leads

  pub fits : (J : PlainJournal) → TakesWhatIsThere (followed W J)
  fits J = k.unsent W J (followed W J) (k.plays W J).leads

  pub count_nodes : (J : PlainJournal) → length (followed W J).nodes ≡ W.settings.nodes
  count_nodes J = sym (length-map (followed W J).nodes (λ (node : NodeRun). node.node)) ∙ ap length (nodes_of_journal J).numbers ∙ length-range_with_len 0 W.settings.nodes

  -- a node stands at the place of its number
  pub number_is : (J : PlainJournal) (i : ℕ) (node : NodeRun) → slice_get (followed W J).nodes i ≡ Some node → node.node ≡ i
  number_is J i node h =
      let found : slice_get (range_with_len 0 W.settings.nodes) i ≡ Some node.node =
      ap (λ numbers. slice_get numbers i) (sym (nodes_of_journal J).numbers) ∙ slice_get-map (λ (node : NodeRun). node.node) (followed W J).nodes i ∙ ap (option_map (λ (node : NodeRun). node.node)) h
      in
      let is = range_found 0 W.settings.nodes i node.node found in omega (arith, is)

  -- the log of a node that is through is its whole log
  pub log_of : (m : Machine) → IsDone W m → (i : ℕ) (node : NodeRun) → slice_get (followed W m.journal).nodes i ≡ Some node → node.state.log ≡ log_at m.journal i
  log_of m h i node stands =
      let o = all_at (IsOfJournal W m.journal) (followed W m.journal).nodes i node (nodes_of_journal m.journal).each stands in
      let through = all_at IsThrough (followed W m.journal).nodes i node h.over.nodes stands in
      sym (append-nil node.state.log) ∙ ap (λ (left : List Step). node.state.log ++ left) (sym through) ∙ o.log ∙ ap (log_at m.journal) (number_is m.journal i node stands)

  -- ---- a client draws

  module _ (m : Machine) (place done : ℕ) (new : List Draw) (h : IsDone W m) where
    abbrev pub drawn : PlainJournal
    drawn = (with_draws m place done new).journal

    drawn_goes : GoesOn m.journal drawn
    drawn_goes =
        record {
          draws = λ q. set_more m.journal.draws place q new;
          logs = λ node. record { more = []; is = sym (append-nil (log_at m.journal node)) };
          told = record { more = []; is = sym (append-nil m.journal.told) };
        }

    pub drawn_over : IsOver (run_behind W m.journal drawn (followed W m.journal))
    drawn_over =
        record {
          nodes =
              all_map IsThrough (node_behind W m.journal drawn) (followed W m.journal).nodes
              (all_each IsThrough (λ (node : NodeRun). IsThrough (node_behind W m.journal drawn node)) (followed W m.journal).nodes
              (λ node e. ap (λ (left : List Step). left ++ drop (length (log_at m.journal node.node)) (log_at m.journal node.node)) e ∙ drop_length (log_at m.journal node.node)) h.over.nodes);
          left = ap (λ (left : List NodeId). left ++ drop (length m.journal.told) m.journal.told) h.over.left ∙ drop_length m.journal.told;
        }

    -- the nodes stand as they stood, with what their clients send more
    pub draws_are : run_behind W m.journal drawn (followed W m.journal) ≡ followed W drawn
    draws_are =
        ends_at m.journal drawn drawn_goes (run_behind W m.journal drawn (followed W m.journal)) (Stays (run_behind W m.journal drawn (followed W m.journal))) drawn_over

    pub draws_there : There m.journal drawn
    draws_there = advance m.journal drawn drawn_goes (run_behind W m.journal drawn (followed W m.journal)) (Stays (run_behind W m.journal drawn (followed W m.journal))) drawn_over

    draws_keep : IsDone W (with_draws m place done new)
    draws_keep = record { logs = h.logs; over = draws_there.over }

  -- ---- the agents make steps

  module _ (m : Machine) (f : NodeRun → List Step) (h : IsDone W m) where
    abbrev pub run : Run
    run = followed W m.journal

    abbrev pub longer : PlainJournal
    longer = (with_steps m (map f run.nodes)).journal

    longer_goes : GoesOn m.journal longer
    longer_goes =
        record {
          draws = λ place. record { more = []; is = sym (append-nil (draws_at m.journal place)) };
          logs = λ node. let more = extended_more m.journal.logs (map f run.nodes) node in record { more = more.0; is = more.1 };
          told = record { more = []; is = sym (append-nil m.journal.told) };
        }

    -- what a node has left are its new steps
    pub left_is : (i : ℕ) (node : NodeRun) → slice_get run.nodes i ≡ Some node → (node_behind W m.journal longer node).left ≡ f node
    left_is i node stands =
        let number = number_is m.journal i node stands in
        let through = all_at IsThrough run.nodes i node h.over.nodes stands in
        let count = count_nodes m.journal in
        let mapped = length-map run.nodes f in
        let below = slice_get_within run.nodes i node stands in
        let logs = h.logs in
        let first : i < length m.journal.logs = omega (arith, below, count, logs) in
        let second : i < length (map f run.nodes) = omega (arith, below, mapped) in
        let found : unwrap_or (slice_get (map f run.nodes) i) [] ≡ f node = ap (λ o. unwrap_or o []) (slice_get-map f run.nodes i ∙ ap (option_map f) stands) in
        let at : log_at longer i ≡ log_at m.journal i ++ f node = extended_at m.journal.logs (map f run.nodes) i first second ∙ ap (λ (more : List Step). log_at m.journal i ++ more) found in
        ap (λ (left : List Step). left ++ drop (length (log_at m.journal node.node)) (log_at longer node.node)) through
        ∙ ap (λ (n : ℕ). drop (length (log_at m.journal n)) (log_at longer n)) number
        ∙ ap (drop (length (log_at m.journal i))) at
        ∙ drop_front (log_at m.journal i) (f node)

    -- the agents make their steps, and stand so then
    pub record StepsThere (Q : NodeRun → Type 0) : Type 0 where
      pub there : There m.journal longer
      pub each : AllByRecursion Q (followed W longer).nodes
      pub heard : (followed W longer).heard ≡ run.heard

    pub steps_there : (Q : NodeRun → Type 0) → ((node : NodeRun) → Q node → IsThrough node) → AllByRecursion (Walked W.settings run.heard Q) (map (node_behind W m.journal longer) run.nodes) → StepsThere Q
    steps_there Q through walked =
        let w = walk_all W.settings (run_behind W m.journal longer run) Q [] (map (node_behind W m.journal longer) run.nodes) walked in
        let last = with_nodes (run_behind W m.journal longer run) w.lasts in
        let over : IsOver last =
        record {
          nodes = all_each Q IsThrough w.lasts through w.each;
          left = ap (λ (left : List NodeId). left ++ drop (length m.journal.told) m.journal.told) h.over.left ∙ drop_length m.journal.told;
        }
        in
        record {
          there = advance m.journal longer longer_goes last w.leads over;
          each = subst (λ (r : Run). AllByRecursion Q r.nodes) (ends_at m.journal longer longer_goes last w.leads over) w.each;
          heard = ap (λ (r : Run). r.heard) (sym (ends_at m.journal longer longer_goes last w.leads over));
        }

    logs_there : length longer.logs ≡ W.settings.nodes
    logs_there = length_extended m.journal.logs (map f run.nodes) ∙ h.logs

  -- ---- they take

  module _ (m : Machine) (h : IsDone W m) where
    abbrev pub before : Run
    before = followed W m.journal

    abbrev pub passed : NodeRun → List Step
    passed = pass_steps W m before

    pub enough_of : (i : ℕ) (node : NodeRun) → slice_get before.nodes i ≡ Some node → Enough (node_behind W m.journal (agents_take W m).journal node) before.heard
    enough_of i node stands queue =
        let few = all_at (λ (n : NodeRun). (queue : Queue) → taken queue n.state.log ≤ supply n before.heard queue) before.nodes i node (fits m.journal).items stands queue in
        let most = pass_fits W m before node queue few in
        let left = ap (λ (steps : List Step). taken queue (node.state.log ++ steps)) (left_is m passed h i node stands) in
        let both = counted queue node.state.log (passed node) in
        let o = all_at (IsOfJournal W m.journal) before.nodes i node (nodes_of_journal m.journal).each stands in
        let there = same_supply (node_behind W m.journal (agents_take W m).journal node) node before.heard queue (sym o.sends) refl in
        omega (arith, most, left, both, there)
      where
        counted : (queue : Queue) (a b : List Step) → taken queue (a ++ b) ≡ taken queue a + taken queue b
        counted queue a b = count_append (takes queue) a b

    pub take_there : StepsThere m passed h IsThrough
    take_there =
        steps_there m passed h IsThrough (λ node e. e)
        (all_map (Walked W.settings before.heard IsThrough) (node_behind W m.journal (agents_take W m).journal) before.nodes
        (all_by_place (λ (node : NodeRun). Walked W.settings before.heard IsThrough (node_behind W m.journal (agents_take W m).journal node)) before.nodes
        (λ i node stands.
        takes_walk k.noted W.settings before.heard (passed node) (node_behind W m.journal (agents_take W m).journal node) (left_is m passed h i node stands)
        (all_append (λ (step : Step). is_offer step ≡ false) (before_turn W m before node) (steps.Turn ∷ [])
        (all_takes (λ (step : Step). is_offer step ≡ false) (λ client. refl) (λ client. refl) (λ client. refl) refl W m before node) (refl, tt))
        (enough_of i node stands))))

    pub take_keeps : IsDone W (agents_take W m)
    take_keeps = record { logs = logs_there m passed h; over = take_there.there.over }

    -- ---- they give

    pub give_there : StepsThere m give_steps h (IsEmptied k.noted W.settings before.heard)
    give_there =
        steps_there m give_steps h (IsEmptied k.noted W.settings before.heard) (λ node e. e.through)
        (all_map (Walked W.settings before.heard (IsEmptied k.noted W.settings before.heard)) (node_behind W m.journal (agents_give W m).journal) before.nodes
        (all_by_place (λ (node : NodeRun). Walked W.settings before.heard (IsEmptied k.noted W.settings before.heard) (node_behind W m.journal (agents_give W m).journal node)) before.nodes
        (λ i node stands.
        gives_walk k.noted W.settings before.heard (range_with_len (length (pool_events node)) (length node.state.hand)) (node_behind W m.journal (agents_give W m).journal node)
        (left_is m give_steps h i node stands) (sym (length-range_with_len (length (pool_events node)) (length node.state.hand))))))

    pub give_keeps : IsDone W (agents_give W m)
    give_keeps = record { logs = logs_there m give_steps h; over = give_there.there.over }

    -- ---- the coordinator hears

    abbrev pub heard_more : PlainJournal
    heard_more = (coordinator_hears W m).journal

    abbrev pub told_now : List NodeId
    told_now = flat_map (told_of before) before.nodes

    heard_goes : GoesOn m.journal heard_more
    heard_goes =
        record {
          draws = λ place. record { more = []; is = sym (append-nil (draws_at m.journal place)) };
          logs = λ node. record { more = []; is = sym (append-nil (log_at m.journal node)) };
          told = record { more = told_now; is = refl };
        }

    abbrev pub behind : Run
    behind = run_behind W m.journal heard_more before

    pub behind_left : behind.left ≡ told_now
    behind_left = ap (λ (left : List NodeId). left ++ drop (length m.journal.told) (m.journal.told ++ told_now)) h.over.left ∙ drop_front m.journal.told told_now

    behind_nodes : AllByRecursion IsThrough behind.nodes
    behind_nodes =
        all_map IsThrough (node_behind W m.journal heard_more) before.nodes
        (all_each IsThrough (λ (node : NodeRun). IsThrough (node_behind W m.journal heard_more node)) before.nodes
        (λ node e. ap (λ (left : List Step). left ++ drop (length (log_at m.journal node.node)) (log_at m.journal node.node)) e ∙ drop_length (log_at m.journal node.node)) h.over.nodes)

    said_behind : (node : NodeId) → said_at behind.nodes node ≡ said_at before.nodes node
    said_behind node =
        ap (λ o. option_map_or (λ (run : NodeRun). length run.state.said) o 0) (slice_get-map (node_behind W m.journal heard_more) before.nodes node.0) ∙ same (slice_get before.nodes node.0)
      where
        same : (o : Option NodeRun) → option_map_or (λ (run : NodeRun). length run.state.said) (option_map (node_behind W m.journal heard_more) o) 0
            ≡ option_map_or (λ (run : NodeRun). length run.state.said) o 0
        same None = refl
        same (Some node) = refl

    enough_said : EnoughSaid behind
    enough_said node =
        let numbers : map (λ (n : NodeRun). n.node) before.nodes ≡ range_with_len 0 (length before.nodes) = (nodes_of_journal m.journal).numbers ∙ ap (range_with_len 0) (sym (count_nodes m.journal)) in
        let most = told_fits before node numbers ((fits m.journal).messages node) in
        let left = ap (count_by (is_node node)) behind_left in
        let there = said_behind node in
        omega (arith, most, left, there)

    -- the coordinator has heard, and the nodes stand as they stood
    pub record HearsThere : Type 0 where
      pub there : There m.journal heard_more
      pub nodes : (followed W heard_more).nodes ≡ map (node_behind W m.journal heard_more) before.nodes
      pub more : Messages
      pub heard : (followed W heard_more).heard ≡ before.heard ++ more
      pub senders : (node : NodeId) → count_by (is_from node) more ≡ count_by (is_node node) told_now

    pub hear_there : HearsThere
    hear_there =
        let w = hears_all W.settings told_now behind behind_left enough_said in
        let over : IsOver w.last = record { nodes = subst (AllByRecursion IsThrough) (sym w.nodes) behind_nodes; left = w.left } in
        record {
          there = advance m.journal heard_more heard_goes w.last w.leads over;
          nodes = ap (λ (r : Run). r.nodes) (sym (ends_at m.journal heard_more heard_goes w.last w.leads over)) ∙ w.nodes;
          more = w.more;
          heard = ap (λ (r : Run). r.heard) (sym (ends_at m.journal heard_more heard_goes w.last w.leads over)) ∙ w.heard;
          senders = λ node. w.senders node ∙ ap (count_by (is_node node)) behind_left;
        }

    pub hear_keeps : IsDone W (coordinator_hears W m)
    hear_keeps = record { logs = h.logs; over = hear_there.there.over }

  -- ---- the whole

  pub client_keeps : (m : Machine) (place : ℕ) → IsDone W m → IsDone W (client_goes W m place)
  client_keeps m place h =
      draws_keep m place (min (done_at m place + W.settings.stride) (length (operations_at W place)))
      (draws_in W m (place / W.settings.clients)
      (pages_started W place (min (done_at m place + W.settings.stride) (length (operations_at W place))) - pages_started W place (done_at m place))) h

  -- nothing was performed, and nothing is left
  nothing_left : (nodes : List ℕ) → AllByRecursion IsThrough (map (node_start W (machine_start W).journal) nodes)
  nothing_left [] = tt
  nothing_left (node ∷ nodes) = (none_at W.settings.nodes node, nothing_left nodes)

  starts_over : IsOver (run_start W (machine_start W).journal)
  starts_over = record { nodes = nothing_left (range_with_len 0 W.settings.nodes); left = refl }

  -- so following it stays at its start
  pub starts_at : run_start W (machine_start W).journal ≡ followed W (machine_start W).journal
  starts_at =
      let J = (machine_start W).journal in
      k.agree W J (run_start W J) (record { leads = Stays (run_start W J); rests = k.rests W.settings (run_start W J) (over_done (run_start W J) starts_over) })

  pub begins : IsDone W (machine_start W)
  begins = record { logs = length-replicate W.settings.nodes []; over = subst IsOver starts_at starts_over }
