-- The moments of the rounds, node by node: where a node stands between two rounds, and the step that a round makes of it.
use Rattle.std.proofs.Common.{◌≡◌, ℕ, zero, suc, ◌<◌, ◌≤◌, List, ◌++◌, length, reverse, sym, ap, subst, ◌∙◌, Some, unwrap_or, arith, map, slice_get, append-nil, append_assoc}
use Rattle.hs_run.proofs.Prelude.{AllByRecursion, length-append, HasItem, get_some, start, AgentEvent, after, PlainWorkload, IsValid, asks_to, asks_in, HandsReady, AreTurns, PlainClientActor, IsPageThere, IsWithin, heard_of, lent_of, NodeWork, PlainNodeActors, RunState, NodeActorsStand, RunStands, told_of, IsSameDoing, Came, NodeBetweenPasses, IsNodeBetweenPasses, IsStep}
use Rattle.hs_records.specs.declared.setting.Setting.TheVariants as settings
use Rattle.hs_coord.specs.declared.asks.Asks.{Asks}
use Rattle.hs_run_actors.specs.Coordinators.{asks_for}
use Rattle.hs_run.specs.Acting.{NodeActorsAct}
use Rattle.hs_run.specs.Meeting.{NodeActorsMeet}
use Rattle.hs_run.specs.Moving.{NodeActorsMove}

pub found : {X : Type 0} (xs : List X) (i : ℕ) (other : X) → i < length xs → slice_get xs i ≡ Some (unwrap_or (slice_get xs i) other)
found xs i other low = let s = get_some xs i low in s.there ∙ ap (λ x. Some x) (ap (λ o. unwrap_or o other) (sym s.there))

module _ (W : PlainWorkload) (valid : IsValid W) (rounds : ℕ) (m : RunState) (came : Came W rounds m) where
  -- ---- who stands where

  first_site : HasItem (came.at 0).standing.nodes 0
  first_site = let nodes = (valid.head settings.Nodes).0 in let count = came.begun.stands.count in get_some (came.at 0).standing.nodes 0 (omega (arith, nodes, count))

  first_caller : HasItem (first_site).item.callers 0
  first_caller =
      let clients = (valid.head settings.Clients).0 in
      let count = (came.begun.stands.each 0 first_site.item first_site.there).count in
      get_some (first_site).item.callers 0 (omega (arith, clients, count))

  pub site_of : RunState → ℕ → PlainNodeActors
  site_of moment node = unwrap_or (slice_get moment.standing.nodes node) first_site.item

  pub caller_of : PlainNodeActors → ℕ → PlainClientActor
  caller_of site client = unwrap_or (slice_get site.callers client) first_caller.item

  pub site_there : (moment : RunState) → RunStands W moment → (node : ℕ) → node < W.settings.nodes → slice_get moment.standing.nodes node ≡ Some (site_of moment node)
  unfolding site_of
  site_there moment stands node low = let count = stands.count in found moment.standing.nodes node first_site.item (omega (arith, low, count))

  pub caller_there : (node : ℕ) (work : NodeWork) (site : PlainNodeActors) → NodeActorsStand W node work site → (client : ℕ) → client < W.settings.clients → slice_get site.callers client ≡ Some (caller_of site client)
  unfolding caller_of
  caller_there node work site stands client few = let count = stands.count in found site.callers client first_caller.item (omega (arith, few, count))

  pub stands_at : (k : ℕ) → k ≤ rounds → RunStands W (came.at k)
  stands_at zero low = came.begun.stands
  stands_at (suc k) low = (came.moves k (omega (arith, low))).stands

  pub site_stands : (k node : ℕ) → k ≤ rounds → node < W.settings.nodes → NodeActorsStand W node ((came.at k).works node) (site_of (came.at k) node)
  site_stands k node low few = (stands_at k low).each node (site_of (came.at k) node) (site_there (came.at k) (stands_at k low) node few)

  -- ---- between rounds

  abbrev pub post_at : (node k : ℕ) → NodeBetweenPasses
  post_at node k = record { work = (came.at k).works node; giver = (site_of (came.at k) node).agent.port.giver }

  moved_all : (k node : ℕ) → k ≤ rounds → node < W.settings.nodes → ((came.at k).works node).moved ≡ (after W.settings node ((came.at k).works node).events).said
  moved_all zero node low few =
      let work = (came.at 0).works node in
      let none = came.begun.works node in
      ap (λ (w : NodeWork). w.moved) none ∙ sym (ap (λ (events : List AgentEvent). (after W.settings node events).said) (ap (λ (w : NodeWork). w.events) none))
  moved_all (suc k) node low few =
      let s = site_stands (suc k) node low few in
      let moves = came.moves k (omega (arith, low)) in
      let met = (came.meets k (omega (arith, low))).stands in
      let none = (moves.each node (site_of (came.met k) node) (site_of (came.at (suc k)) node) (site_there (came.met k) met node few) (site_there (came.at (suc k)) moves.stands node few)).said in
      sym (append-nil ((came.at (suc k)).works node).moved) ∙ ap (λ said. ((came.at (suc k)).works node).moved ++ said) (sym none) ∙ s.agent.stands.works.said_is
      ∙ ap (λ m. (after W.settings m ((came.at (suc k)).works node).events).said) s.node_is

  asked_all : (k node : ℕ) → k ≤ rounds → node < W.settings.nodes → asks_to node (came.at k).heard ≡ ((came.at k).works node).asked
  asked_all zero node low few = ap (asks_to node) came.begun.heard ∙ sym (ap (λ (w : NodeWork). w.asked) (came.begun.works node))
  asked_all (suc k) node low few =
      let moves = came.moves k (omega (arith, low)) in
      (stands_at (suc k) low).coordinator.asks_are node few ∙ ap (λ (asks : List Asks). ((came.at (suc k)).works node).asked ++ asks_for node asks) moves.asks
      ∙ append-nil ((came.at (suc k)).works node).asked

  pub post_stands : (k node : ℕ) → k ≤ rounds → node < W.settings.nodes → IsNodeBetweenPasses W node (came.at k).heard (post_at node k)
  post_stands k node low few =
      let s = site_stands k node low few in
      let work = (came.at k).works node in
      let is = s.agent.stands.works.is in
      let c = (stands_at k low).coordinator in
      let told = get_some (came.at k).standing.coordinator.told node (let count = c.count in omega (arith, few, count)) in
      let waits = ap length (c.waits node told.item told.there) in
      let both = length-append (heard_of node (came.at k).heard) told.item in
      record {
        node_is = s.node_is;
        turns = subst (λ m. AreTurns W.settings m (map lent_of work.came) work.events (site_of (came.at k) node).agent.port.giver.turns) s.node_is s.agent.stands.turns;
        pages = subst (λ m. AllByRecursion (IsPageThere W m work.pool) work.came) s.node_is is.pages;
        sheets = is.sheets;
        within = subst (λ m. AllByRecursion (IsWithin W m) work.events) s.node_is is.within;
        hands = subst (λ m. HandsReady W.settings m (start W.settings) work.events) s.node_is is.hands;
        moved = moved_all k node low few;
        asked = asked_all k node low few;
        hears = omega (arith, waits, both);
      }

  -- ---- a round

  pub acted_there : (k node : ℕ) → k < rounds → node < W.settings.nodes → slice_get (came.acted k).standing.nodes node ≡ Some (site_of (came.acted k) node)
  acted_there k node low few = site_there (came.acted k) (came.acts k low).stands node few

  pub met_there : (k node : ℕ) → k < rounds → node < W.settings.nodes → slice_get (came.met k).standing.nodes node ≡ Some (site_of (came.met k) node)
  met_there k node low few = site_there (came.met k) (came.meets k low).stands node few

  pub site_acts : (k node : ℕ) → k < rounds → node < W.settings.nodes → NodeActorsAct W node ((came.at k).works node) ((came.acted k).works node) (site_of (came.at k) node) (site_of (came.acted k) node)
  site_acts k node low few =
      (came.acts k low).each node (site_of (came.at k) node) (site_of (came.acted k) node) (site_there (came.at k) (stands_at k (omega (arith, low))) node few) (acted_there k node low few)

  pub site_meets : (k node : ℕ) → k < rounds → node < W.settings.nodes → NodeActorsMeet W node ((came.acted k).works node) (site_of (came.acted k) node) (site_of (came.met k) node)
  site_meets k node low few = (came.meets k low).each node (site_of (came.acted k) node) (site_of (came.met k) node) (acted_there k node low few) (met_there k node low few)

  pub site_moves : (k node : ℕ) → k < rounds → node < W.settings.nodes → NodeActorsMove (site_of (came.met k) node) (site_of (came.at (suc k)) node)
  site_moves k node low few =
      (came.moves k low).each node (site_of (came.met k) node) (site_of (came.at (suc k)) node) (met_there k node low few) (site_there (came.at (suc k)) (stands_at (suc k) (omega (arith, low))) node few)

  pub giver_same : (k node : ℕ) → k < rounds → node < W.settings.nodes → (site_of (came.at (suc k)) node).agent.port.giver ≡ (site_of (came.met k) node).agent.port.giver
  giver_same k node low few = ap (λ port. port.giver) (site_moves k node low few).port

  pub doing_same : (k node : ℕ) → k < rounds → IsSameDoing ((came.acted k).works node) ((came.at (suc k)).works node)
  doing_same k node low = subst (λ works. IsSameDoing (works node) ((came.at (suc k)).works node)) (came.meets k low).works ((came.moves k low).works node)

  pub heard_same : (k : ℕ) (low : k < rounds) → (came.at (suc k)).heard ≡ (came.at k).heard ++ (came.acts k low).more
  heard_same k low = (came.moves k low).heard ∙ (came.meets k low).heard ∙ (came.acts k low).heard

  pub round_steps : (k node : ℕ) → k < rounds → node < W.settings.nodes → IsStep W node (came.at k).heard (came.at (suc k)).heard (post_at node k) (post_at node (suc k))
  round_steps k node low few =
      let a = site_acts k node low few in
      let met = (site_meets k node low few).giver in
      let same = doing_same k node low in
      let gives = a.passes.gives in
      let events : ((came.at (suc k)).works node).events ≡ ((came.at k).works node).events ++ a.pass = same.events ∙ ap (λ (w : NodeWork). w.events) a.work_is in
      let asks_are = ap length (a.stands.agent.stands.asks_are) in
      let both = length-append (asks_in ((came.acted k).works node).events) (site_of (came.acted k) node).agent.asks in
      let asked = ap (λ (w : NodeWork). length w.asked) a.work_is in
      let taken = ap (λ (list : List AgentEvent). length (asks_in list)) events in
      let acted = ap (λ (w : NodeWork). length (asks_in w.events)) a.work_is in
      let all = a.passes.asks in
      let hears = (came.acts k low).hears.all node few in
      let heard = ap (λ heard. length (heard_of node heard)) (heard_same k low) in
      let floor = gives.floor in
      let rises = met.rises in
      let last = ap (λ giver. giver.floor) (giver_same k node low few) in
      record {
        pass = a.pass;
        events = events;
        came = a.came;
        came_is = same.came ∙ ap (λ (w : NodeWork). w.came) a.work_is;
        ends = a.passes.ends;
        more = reverse (map told_of (site_of (came.acted k) node).callers) ++ gives.added;
        turns = ap (λ giver. giver.turns) (giver_same k node low few) ∙ met.turns ∙ ap (λ turns. reverse (map told_of (site_of (came.acted k) node).callers) ++ turns) gives.turns
            ∙ sym (append_assoc (reverse (map told_of (site_of (came.acted k) node).callers)) gives.added (site_of (came.at k) node).agent.port.giver.turns);
        high = gives.above;
        floor = omega (arith, floor, rises, last);
        asks = omega (arith, all, taken);
        few = omega (arith, asks_are, both, asked, taken, acted);
        hears = omega (arith, hears, heard);
      }
