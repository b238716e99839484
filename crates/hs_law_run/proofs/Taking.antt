-- What the agents take, step by step: each node comes to where its steps lead, one after another, and its pool stands still meanwhile.
use Rattle.std.proofs.Common.{◌≡◌, ℕ, false, List, [], ◌∷◌, refl, sym, ap, subst, ◌∙◌, Some, arith, map, slice_get}
use Rattle.hs_law_run.proofs.Prelude.{AllByRecursion, slice_get_within, same_Some, all_by_place, all_map, all_append, all_at, get_there, Messages, Step, PlainSettings, PlainWorkload, ClientSends, node_behind, NodeRun, Run, perform, followed, is_offer, pool_history, Known, Machine, pass_steps, with_steps, agents_take, node_at, after_steps, IsReached}
use Rattle.hs_records.specs.declared.journal.Step.TheVariants as steps
use Rattle.hs_law_run.specs.Parts.{AgentTakes, AgentsTakeSo}
use Rattle.hs_law_run.proofs.Followed.{IsDone, count_nodes, enough_of, left_is, StepsThere, steps_there}
use Rattle.hs_law_run.proofs.Growing.{history_of}
use Rattle.hs_law_run.proofs.Held.{node_events, IsHeld, pool_is, take_held, take_events}
use Rattle.hs_law_run.proofs.Keeping.{own_sends}
use Rattle.hs_law_run.proofs.Performed.{bare, bare_is, first_of_steps, walk_performed, walk_number}
use Rattle.hs_law_run.proofs.Standing.{kept, held_at, through_at, number_at}
use Rattle.hs_law_run.proofs.Takes.{before_turn, all_takes}
use Rattle.hs_law_run.proofs.Walks.{Walked, IsThrough, takes_walk}

-- ---- a node takes

pub history_is : (settings : PlainSettings) (run : NodeRun) → IsHeld settings run → pool_history run ≡ history_of (node_events run)
history_is settings run h = ap history_of (pool_is run h.holds.missed)

-- a node that took
pub record Took (settings : PlainSettings) (run later : NodeRun) : Type 0 where
  pub held : IsHeld settings later
  pub events : node_events later ≡ node_events run
  pub sends : later.sends ≡ run.sends
  pub number : later.node ≡ run.node

abbrev pub AreQuiet : List Step → Type 0
AreQuiet steps = AllByRecursion (λ (step : Step). is_offer step ≡ false) steps

pub takes_hold : Known → (settings : PlainSettings) (heard : Messages) (steps : List Step) (run later : NodeRun) → AreQuiet steps → IsHeld settings run → after_steps settings heard steps run ≡ Some later → Took settings run later
takes_hold k settings heard [] run later quiet h e = subst (Took settings run) (same_Some run later e) (record { held = h; events = refl; sends = refl; number = refl })
takes_hold k settings heard (step ∷ rest) run later quiet h e =
    let f = first_of_steps settings heard step rest run later e in
    let next = perform settings [] run f.event in
    let t = takes_hold k settings heard rest next later quiet.1 (take_held k.adds k.go_on k.places settings heard run step [] f.event quiet.0 f.met h) f.on in
    record {
      held = t.held;
      events = t.events ∙ take_events k.adds k.go_on k.places settings heard run step [] f.event quiet.0 f.met h;
      sends = t.sends;
      number = t.number;
    }

pub pass_quiet : (W : PlainWorkload) (m : Machine) (run : Run) (node : NodeRun) → AreQuiet (pass_steps W m run node)
pass_quiet W m run node =
    all_append (λ (step : Step). is_offer step ≡ false) (before_turn W m run node) (steps.Turn ∷ [])
    (all_takes (λ (step : Step). is_offer step ≡ false) (λ client. refl) (λ client. refl) (λ client. refl) refl W m run node) (refl, tt)

-- ---- all nodes make steps

module _ (k : Known) (W : PlainWorkload) (m : Machine) (r : IsReached W m) where
  abbrev pub before : Run
  before = followed W m.journal

  abbrev pub done : IsDone W m
  done = (kept k W m r).done

  abbrev pub behind : (f : NodeRun → List Step) → NodeRun → NodeRun
  behind f node = node_behind W m.journal (with_steps m (map f before.nodes)).journal node

  -- a node that came from one of these by its steps
  pub record CameBy (f : NodeRun → List Step) (later : NodeRun) : Type 0 where
    pub through : IsThrough later
    pub node : NodeRun
    pub stands : slice_get before.nodes later.node ≡ Some node
    pub came : after_steps W.settings before.heard (f node) node ≡ Some later

  came_by : (f : NodeRun → List Step) (i : ℕ) (node : NodeRun) → slice_get before.nodes i ≡ Some node → Walked W.settings before.heard IsThrough (behind f node) → Walked W.settings before.heard (CameBy f) (behind f node)
  came_by f i node stands w =
      let number : w.last.node ≡ i = walk_number W.settings before.heard (behind f node) w.last w.walks ∙ number_at k W m i node stands in
      let same : bare (behind f node) ≡ node =
      ap (λ (sends : List ClientSends). record node { sends = sends; left = [] }) (sym (own_sends k W m.journal i node stands))
      ∙ bare_is node (through_at k W m r i node stands)
      in
      record {
        last = w.last;
        walks = w.walks;
        ends =
            record {
              through = w.ends;
              node = node;
              stands = subst (λ (n : ℕ). slice_get before.nodes n ≡ Some node) (sym number) stands;
              came =
                  sym (ap (λ (left : List Step). after_steps W.settings before.heard left node) (left_is k W m f done i node stands))
                  ∙ sym (ap (after_steps W.settings before.heard (behind f node).left) same)
                  ∙ walk_performed W.settings before.heard (behind f node) w.last w.walks w.ends;
            };
      }

  pub all_came : (f : NodeRun → List Step) → ((i : ℕ) (node : NodeRun) → slice_get before.nodes i ≡ Some node → Walked W.settings before.heard IsThrough (behind f node))
      → StepsThere k W m f done (CameBy f)
  all_came f walk =
      steps_there k W m f done (CameBy f) (λ node c. c.through)
      (all_map (Walked W.settings before.heard (CameBy f)) (behind f) before.nodes
      (all_by_place (λ (node : NodeRun). Walked W.settings before.heard (CameBy f) (behind f node)) before.nodes (λ i node stands. came_by f i node stands (walk i node stands))))

  -- where a node is then
  pub record ComesTo (f : NodeRun → List Step) (i : ℕ) (run : NodeRun) : Type 0 where
    pub later : NodeRun
    pub there : node_at W (with_steps m (map f before.nodes)).journal i ≡ Some later
    pub came : after_steps W.settings before.heard (f run) run ≡ Some later

  pub comes_to : (f : NodeRun → List Step) → StepsThere k W m f done (CameBy f) → (i : ℕ) (run : NodeRun) → slice_get before.nodes i ≡ Some run → ComesTo f i run
  comes_to f there i run stands =
      let J = (with_steps m (map f before.nodes)).journal in
      let low = slice_get_within before.nodes i run stands in
      let was = count_nodes k W m.journal in
      let now = count_nodes k W J in
      let later = get_there (followed W J).nodes i (omega (arith, low, was, now)) in
      let c = all_at (CameBy f) (followed W J).nodes i later.0 there.each later.1 in
      let number = number_at k W (with_steps m (map f before.nodes)) i later.0 later.1 in
      let same : c.node ≡ run = same_Some c.node run (sym c.stands ∙ ap (slice_get before.nodes) number ∙ stands) in
      record { later = later.0; there = later.1; came = subst (λ (n : NodeRun). after_steps W.settings before.heard (f n) n ≡ Some later.0) same c.came }

  -- ---- they take

  takes_there : StepsThere k W m (pass_steps W m before) done (CameBy (pass_steps W m before))
  takes_there =
      all_came (pass_steps W m before)
      (λ i node stands.
      takes_walk k.noted W.settings before.heard (pass_steps W m before node) (behind (pass_steps W m before) node)
      (left_is k W m (pass_steps W m before) done i node stands) (pass_quiet W m before node)
      (enough_of k W m done i node stands))

  pub agent_takes : (i : ℕ) (run : NodeRun) → node_at W m.journal i ≡ Some run → AgentTakes W m (agents_take W m) i run
  agent_takes i run stands =
      let c = comes_to (pass_steps W m before) takes_there i run stands in
      let h = held_at k W m r i run stands in
      let t = takes_hold k W.settings before.heard (pass_steps W m before run) run c.later (pass_quiet W m before run) h c.came in
      record {
        later = c.later;
        node = c.there;
        takes = c.came;
        history = history_is W.settings c.later t.held ∙ ap history_of t.events ∙ sym (history_is W.settings run h);
        heard = takes_there.heard;
      }

pub agents_take_so : Known → AgentsTakeSo
agents_take_so k W valid m r i run stands = agent_takes k W m r i run stands
