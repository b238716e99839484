-- A client's turn: its draws come behind what happened at the pool of its node, and all else stands as it stood.
use Rattle.std.proofs.Common.{◌≡◌, ◌≢◌, ℕ, ◌/◌, ◌<◌, ◌≤◌, ◌^◌, List, [], ◌∷◌, ◌++◌, length, drop, reverse, refl, sym, ap, subst, ◌∙◌, Option, Some, None, arith, map, option_map, slice_get, length-append}
use Rattle.hs_law_run.proofs.Prelude.{option_map_or, length-map, mul-add-lt, div-mul-add, slice_get-map, slice_get_within, drop_length, unwrap_set, unwrap_other, Draw, Step, sheets_of, PlainWorkload, drawn_from, ClientSends, draws_at, node_sends, place_of, length_next, Sheet, PoolEvent, queue_after, node_behind, run_behind, NodeRun, Run, log_at, followed, StampedPoolEvent, event_drawn, pool_history, IsLaidOut, Known, Machine, done_at, next_draws, draws_by, draws_in, client_goes, node_at, IsReached}
use Rattle.hs_law_run.specs.Parts.{next_done, next_pages, next_drawn, sending, ClientGoes}
use Rattle.hs_law_run.specs.Reaching as reaching
use Rattle.hs_law_run.proofs.Drawing.{grown, draws_told}
use Rattle.hs_law_run.proofs.Followed.{draws_are}
use Rattle.hs_law_run.proofs.Growing.{events_back, history_of}
use Rattle.hs_law_run.proofs.Held.{IsHeld}
use Rattle.hs_law_run.proofs.Holding.{Holds, events_in}
use Rattle.hs_law_run.proofs.Keeping.{same_sends, OneMore, one_more, own_sends, next_of_node}
use Rattle.hs_law_run.proofs.Shapes.{done_here, done_other, started_few}
use Rattle.hs_law_run.proofs.Standing.{kept, held_at, through_at, number_at, standing, whole}
use Rattle.hs_law_run.proofs.Taking.{history_is}

module _ (k : Known) (W : PlainWorkload) (laid : IsLaidOut W) (m : Machine) (r : IsReached W m) (i number : ℕ) (run : NodeRun) (low : number < W.settings.clients) (stands : node_at W m.journal i ≡ Some run) where
  abbrev place : ℕ
  place = place_of W.settings.clients i number

  abbrev new : Machine
  new = client_goes W m place

  node_low : i < W.settings.nodes
  node_low =
      let there = slice_get_within (followed W m.journal).nodes i run stands in
      let count = (whole k W laid m r).count in
      omega (arith, there, count)

  place_low : place < length W.clients
  place_low =
      let there = mul-add-lt i W.settings.clients number W.settings.nodes node_low low in
      let count = laid.clients in
      omega (arith, there, count)

  node_is : place / W.settings.clients ≡ i
  node_is = div-mul-add i W.settings.clients number low

  drew_is : draws_in W m (place / W.settings.clients) (next_pages W m place) ≡ next_drawn W m place run
  drew_is =
      ap (λ (n : ℕ). option_map_or (draws_by W (next_pages W m place)) (slice_get (followed W m.journal).nodes n) []) node_is
      ∙ ap (λ o. option_map_or (draws_by W (next_pages W m place)) o []) stands

  draws_here : draws_at new.journal place ≡ draws_at m.journal place ++ next_drawn W m place run
  draws_here =
      let all = (standing k W laid m r).drawn.draws in
      let below = place_low in
      unwrap_set m.journal.draws place (draws_at m.journal place ++ draws_in W m (place / W.settings.clients) (next_pages W m place)) [] (omega (arith, all, below))
      ∙ ap (λ (drew : List Draw). draws_at m.journal place ++ drew) drew_is

  draws_other : (other : ℕ) → place ≢ other → draws_at new.journal other ≡ draws_at m.journal other
  draws_other other ne = unwrap_other m.journal.draws place other (draws_at m.journal place ++ draws_in W m (place / W.settings.clients) (next_pages W m place)) [] ne

  -- ---- the nodes

  runs_are : run_behind W m.journal new.journal (followed W m.journal) ≡ followed W new.journal
  runs_are =
      draws_are k W m place (next_done W m place) (draws_in W m (place / W.settings.clients) (next_pages W m place)) (kept k W m r).done

  node_now : (j : ℕ) → node_at W new.journal j ≡ option_map (node_behind W m.journal new.journal) (node_at W m.journal j)
  node_now j = ap (λ (run : Run). slice_get run.nodes j) (sym runs_are) ∙ slice_get-map (node_behind W m.journal new.journal) (followed W m.journal).nodes j

  -- nothing is left of a node's log
  left_none : (j : ℕ) (node : NodeRun) → node_at W m.journal j ≡ Some node → (node_behind W m.journal new.journal node).left ≡ node.left
  left_none j node at =
      let through = through_at k W m r j node at in
      ap (λ (left : List Step). left ++ drop (length (log_at m.journal node.node)) (log_at m.journal node.node)) through ∙ drop_length (log_at m.journal node.node) ∙ sym through

  node_here : node_at W new.journal i ≡ Some (sending W new.journal i run)
  node_here =
      node_now i
      ∙ ap (option_map (node_behind W m.journal new.journal)) stands
      ∙ ap (λ (left : List Step). Some (record run { sends = node_sends W new.journal run.node; left = left })) (left_none i run stands)
      ∙ ap (λ (n : ℕ). Some (record run { sends = node_sends W new.journal n })) (number_at k W m i run stands)

  other_place : (j other : ℕ) → i ≢ j → other < W.settings.clients → place ≢ place_of W.settings.clients j other
  other_place j other ne below e =
      ne (sym node_is ∙ ap (λ (p : ℕ). p / W.settings.clients) e ∙ div-mul-add j W.settings.clients other below)

  node_other : (j : ℕ) → i ≢ j → node_at W new.journal j ≡ node_at W m.journal j
  node_other j ne = node_now j ∙ go (node_at W m.journal j) refl
    where
      go : (o : Option NodeRun) → node_at W m.journal j ≡ o → option_map (node_behind W m.journal new.journal) (node_at W m.journal j) ≡ node_at W m.journal j
      go None e = ap (option_map (node_behind W m.journal new.journal)) e ∙ sym e
      go (Some node) e =
          let at = number_at k W m j node e in
          let same : node_sends W new.journal node.node ≡ node_sends W m.journal node.node =
          same_sends W m.journal new.journal node.node
          (λ other below. draws_other (place_of W.settings.clients node.node other) (λ e. other_place j other ne below (e ∙ ap (λ (n : ℕ). place_of W.settings.clients n other) at)))
          in
          let own = own_sends k W m.journal j node e in
          ap (option_map (node_behind W m.journal new.journal)) e
          ∙ ap (λ (left : List Step). Some (record node { sends = node_sends W new.journal node.node; left = left })) (left_none j node e)
          ∙ ap (λ (sends : List ClientSends). Some (record node { sends = sends })) (same ∙ sym own)
          ∙ sym e

  -- ---- the pool

  abbrev sheets : List Sheet
  sheets = sheets_of run.state.taken

  others_same : (other : ℕ) → other ≢ number → draws_at new.journal (place_of W.settings.clients i other) ≡ draws_at m.journal (place_of W.settings.clients i other)
  others_same other ne = draws_other (place_of W.settings.clients i other) (λ e. ne (omega (arith, e)))

  more : OneMore W m.journal new.journal i number (next_drawn W m place run)
  more = one_more W m.journal new.journal i number (next_drawn W m place run) low others_same draws_here

  held : IsHeld W.settings run
  held = held_at k W m r i run stands

  sends_are : run.sends ≡ more.a ++ more.s ∷ more.b
  sends_are =
      own_sends k W m.journal i run stands
      ∙ ap (node_sends W m.journal) (number_at k W m i run stands)
      ∙ more.was

  abbrev events_then : ClientSends → List StampedPoolEvent
  events_then s = events_in (more.a ++ s ∷ more.b) sheets run.state.given

  drew_next : next_drawn W m place run ≡ next_draws (next_pages W m place) (length (events_then more.s)) (queue_after W.settings.buffers (events_back (events_then more.s)))
  drew_next =
      next_of_node W (next_pages W m place) run held.holds
      ∙ ap
      (λ (sends : List ClientSends).
      next_draws (next_pages W m place) (length (events_in sends sheets run.state.given)) (queue_after W.settings.buffers (events_back (events_in sends sheets run.state.given)))) sends_are

  -- there is a page for each draw
  enough : next_pages W m place ≤ length more.rest
  enough =
      let s = standing k W laid m r in
      let was = s.drawn.drawn place place_low in
      let most = started_few k W laid place (next_done W m place) in
      let few = started_few k W laid place (done_at m place) in
      let all = more.all (omega (arith, was, few)) in
      omega (arith, was, most, all)

  history_now : pool_history (sending W new.journal i run) ≡ pool_history run ++ map event_drawn (next_drawn W m place run)
  history_now =
      let holds : Holds W.settings.buffers (more.a ++ more.s ∷ more.b) sheets run.state.given run.state.log =
      subst (λ (sends : List ClientSends). Holds W.settings.buffers sends sheets run.state.given run.state.log) sends_are held.holds
      in
      let told = draws_told W.settings.buffers more.a more.b sheets run.state.given run.state.log more.client more.own more.rest (next_pages W m place) enough more.s holds in
      let drew = sym drew_next in
      let later : IsHeld W.settings (sending W new.journal i run) = held_at k W new (reaching.Goes m place place_low r) i (sending W new.journal i run) node_here in
      let was : history_of (events_then more.s) ≡ pool_history run =
      ap (λ (sends : List ClientSends). history_of (events_in sends sheets run.state.given)) (sym sends_are) ∙ sym (history_is W.settings run held)
      in
      history_is W.settings (sending W new.journal i run) later
      ∙ ap (λ (sends : List ClientSends). history_of (events_in sends sheets run.state.given)) more.now
      ∙ ap (λ (drew : List Draw). history_of (events_then (grown more.s (drawn_from more.client (length more.s.drawn) more.rest drew)))) drew_next
      ∙ told
      ∙ ap (λ (drew : List Draw). history_of (events_then more.s) ++ map event_drawn drew) drew
      ∙ ap (λ (front : List PoolEvent). front ++ map event_drawn (next_drawn W m place run)) was

  module _ (few : (later : NodeRun) → node_at W new.journal i ≡ Some later → length (pool_history later) < 2 ^ 32) where
    pub client_goes_so : ClientGoes W m new i place run
    client_goes_so =
        let s = standing k W laid m r in
        let most = few (sending W new.journal i run) node_here in
        let long = ap length history_now in
        let both = length-append (pool_history run) (map event_drawn (next_drawn W m place run)) in
        let mapped = length-map (next_drawn W m place run) event_drawn in
        let count = length_next (next_pages W m place) (length (pool_history run)) (queue_after W.settings.buffers (reverse (pool_history run))) in
        record {
          done = done_here k W laid m place s.drawn place_low;
          draws = draws_here;
          others_done = λ other ne. done_other k W laid m place other ne;
          others_draws = draws_other;
          node = node_here;
          history = history_now;
          stamps = omega (arith, most, long, both, mapped, count);
          others = node_other;
          heard = ap (λ (run : Run). run.heard) (sym runs_are);
        }
