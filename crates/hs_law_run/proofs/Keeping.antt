-- Through the whole schedule each node holds what it should: no buffer is got or given but by the history of its pool, and each give
-- answers the draw of its chunk.
use Rattle.std.proofs.Common.{◌≡◌, ◌≢◌, ℕ, zero, suc, ◌+◌, ◌-◌, ◌*◌, ◌/◌, ◌<◌, ◌≤◌, min, Bool, true, false, List, [], ◌∷◌, ◌++◌, length, reverse, refl, sym, ap, subst, ◌∙◌, Some, None, arith, map, slice_get, unwrap_or, ltb, ltb-true, ltb-false, leb}
use Rattle.hs_law_run.proofs.Prelude.{AllByRecursion, flat_map, range_with_len, option_map_or, leb-true, length-map, map-append, length-reverse, length-range_with_len, div-mul-add, all_by_place, all_map, all_append, all_each, all_at, unwrap_set, unwrap_other, ClientId, Draw, Step, PlainJournal, sheets_of, Operation, PlainWorkload, DrawnPage, stamp_of, drawn_from, drawn_pages, ClientSends, sent_chunks, client_sends, node_sends, operations_at, draws_at, place_of, TimedPage, timed_pages, queue_after, node_behind, IsOfJournal, NodeRun, Run, node_start, followed, is_offer, drawn_event, pool_events, pool_history, rise, Known, Machine, machine_start, done_at, next_draws, draws_by, draws_in, pages_started, client_goes, pass_steps, give_steps, agents_take, agents_give, coordinator_hears, passes}
use Rattle.std.proofs.lemmas.Bool.{leb-false}
use Rattle.std.proofs.lemmas.List.{set_past}
use Rattle.hs_records.specs.declared.journal.Step.TheVariants as steps
use Rattle.hs_client.specs.Sending.{sends_of}
use Rattle.hs_law_run.proofs.Drawing.{grown, draws_keep}
use Rattle.hs_law_run.proofs.Followed.{IsDone, number_is, draws_are, passed, enough_of, left_is, steps_there, StepsThere, take_keeps, give_keeps, hear_there, hear_keeps, client_keeps, begins, starts_at, nodes_of_journal}
use Rattle.hs_law_run.proofs.Growing.{events_back, IsPooled, none_pooled}
use Rattle.hs_law_run.proofs.Held.{node_events, HoldsAt, IsHeld, pool_is, take_held, give_held, HeldUpTo}
use Rattle.hs_law_run.proofs.Holding.{events_in, ClientHolds, Holds}
use Rattle.hs_law_run.proofs.Machines.{clients_keep, end_keeps, machine_end}
use Rattle.hs_law_run.proofs.Takes.{before_turn, all_takes}
use Rattle.hs_law_run.proofs.Walks.{Walked, IsThrough, IsEmptied, takes_keep, gives_keep}

-- ---- lists

pub range_parts : (start a b : ℕ) → range_with_len start (a + suc b) ≡ range_with_len start a ++ (start + a) ∷ range_with_len (start + a + 1) b
range_parts start zero b =
    let same : 0 + suc b ≡ suc b = omega arith in
    let here : start ≡ start + 0 = omega arith in
    ap (range_with_len start) same ∙ ap (λ (n : ℕ). n ∷ range_with_len (n + 1) b) here
range_parts start (suc a) b =
    let same : suc a + suc b ≡ suc (a + suc b) = omega arith in
    let here : start + 1 + a ≡ start + suc a = omega arith in
    ap (range_with_len start) same ∙ ap (λ (rest : List ℕ). start ∷ rest) (range_parts (start + 1) a b)
    ∙ ap (λ (n : ℕ). start ∷ (range_with_len (start + 1) a ++ n ∷ range_with_len (n + 1) b)) here

-- functions that agree on a range map it alike
map_range : {X : Type 0} (f g : ℕ → X) (start count : ℕ) → ((n : ℕ) → start ≤ n → n < start + count → f n ≡ g n) → map f (range_with_len start count) ≡ map g (range_with_len start count)
map_range f g start zero same = refl
map_range {X = X} f g start (suc count) same =
    ap (λ (x : X). x ∷ map f (range_with_len (start + 1) count)) (same start (omega arith) (omega arith))
    ∙ ap (λ (rest : List X). g start ∷ rest) (map_range f g (start + 1) count (λ n low high. same n (omega (arith, low)) (omega (arith, high))))

-- ---- more draws are more pages

pub record MorePages (client : ClientId) (k : ℕ) (pages : List TimedPage) (draws new : List Draw) : Type 0 where
  pub rest : List TimedPage
  pub there : (j : ℕ) (page : TimedPage) → slice_get rest j ≡ Some page → slice_get pages (length draws + j) ≡ Some page
  pub all : length draws ≤ length pages → length draws + length rest ≡ length pages
  pub is : drawn_from client k pages (draws ++ new) ≡ drawn_from client k pages draws ++ drawn_from client (k + length (drawn_from client k pages draws)) rest new

pub more_pages : (client : ClientId) (k : ℕ) (pages : List TimedPage) (draws new : List Draw) → MorePages client k pages draws new
more_pages client k [] draws new = record { rest = []; there = λ j page h. let no : None ≡ Some page = h in absurd cc; all = λ low. omega (arith, low); is = refl }
more_pages client k (page ∷ pages) [] new = let same : k ≡ k + 0 = omega arith in record { rest = page ∷ pages; there = λ j p h. let here : 0 + j ≡ j = omega arith in ap (slice_get (page ∷ pages)) here ∙ h; all = λ low. omega arith; is = ap (λ (n : ℕ). drawn_from client n (page ∷ pages) new) same }
more_pages client k (page ∷ pages) (draw ∷ draws) new =
    let m = more_pages client (k + 1) pages draws new in
    let same : k + 1 + length (drawn_from client (k + 1) pages draws) ≡ k + suc (length (drawn_from client (k + 1) pages draws)) = omega arith in
    let first : DrawnPage = record { client = client; number = k; page = page.page; started = page.started; sent = page.sent; draw = draw } in
    record {
      rest = m.rest;
      there = λ j p h. let here : suc (length draws) + j ≡ suc (length draws + j) = omega arith in ap (slice_get (page ∷ pages)) here ∙ m.there j p h;
      all = λ low. let rest = m.all (omega (arith, low)) in omega (arith, rest);
      is =
          ap (λ (pages : List DrawnPage). first ∷ pages) m.is
          ∙ ap (λ (n : ℕ). first ∷ (drawn_from client (k + 1) pages draws ++ drawn_from client n m.rest new)) same;
    }

-- ---- what a node's clients send

-- nothing was drawn, and nothing is held
starts_held : (n : ℕ) (sends : List ClientSends) → AllByRecursion (λ (s : ClientSends). (s.drawn ≡ []) × (s.chunks ≡ sent_chunks s.drawn)) sends → Holds n sends [] [] []
starts_held n sends all =
    record {
      pooled = subst (λ (pages : List DrawnPage). IsPooled n (map drawn_event pages ++ [])) (sym (none_drawn sends all)) (none_pooled n);
      missed = refl;
      stamps = refl;
      rising = refl;
      clients = λ client s at. none_client client s (all_at (λ (s : ClientSends). (s.drawn ≡ []) × (s.chunks ≡ sent_chunks s.drawn)) sends client s all at);
      answers = tt;
      drawn = λ q sheet h. let no : None ≡ Some sheet = h in absurd cc;
      apart = λ p q a b f g low same. let no : None ≡ Some a = f in absurd cc;
    }
  where
    none_drawn : (sends : List ClientSends) → AllByRecursion (λ (s : ClientSends). (s.drawn ≡ []) × (s.chunks ≡ sent_chunks s.drawn)) sends → flat_map (λ (s : ClientSends). s.drawn) sends ≡ []
    none_drawn [] all = refl
    none_drawn (s ∷ sends) all = ap (λ (front : List DrawnPage). front ++ flat_map (λ (s : ClientSends). s.drawn) sends) all.0.0 ∙ none_drawn sends all.1

    no_page : (s : ClientSends) → s.drawn ≡ [] → (k : ℕ) (d : DrawnPage) → slice_get s.drawn k ≡ Some d → ⊥
    no_page s none k d h = let no : None ≡ Some d = ap (λ (drawn : List DrawnPage). slice_get drawn k) (sym none) ∙ h in absurd cc

    none_client : (client : ℕ) (s : ClientSends) → (s.drawn ≡ []) × (s.chunks ≡ sent_chunks s.drawn) → ClientHolds n sends [] [] [] client s
    none_client client s e =
        record {
          chunks = e.1;
          numbers = λ k d h. absurd (no_page s e.0 k d h);
          own = λ k d h. absurd (no_page s e.0 k d h);
          rises = ap (λ (drawn : List DrawnPage). rise (map (λ (d : DrawnPage). stamp_of d.draw) drawn)) e.0;
          held = λ k d buffer stamp h got. absurd (no_page s e.0 k d h);
          ahead = λ j item most at q sheet h own. let no : None ≡ Some sheet = h in absurd cc;
        }

module _ (W : PlainWorkload) (J K : PlainJournal) where
  -- where a node's clients drew the same, they send the same
  pub same_sends : (node : ℕ) → ((number : ℕ) → number < W.settings.clients → draws_at K (place_of W.settings.clients node number) ≡ draws_at J (place_of W.settings.clients node number)) → node_sends W K node ≡ node_sends W J node
  same_sends node same =
      map_range (client_sends W K node) (client_sends W J node) 0 W.settings.clients
      (λ number low high.
      ap (λ (drew : List Draw). sends_of W.settings (record { node = node; number = number }) (operations_at W (place_of W.settings.clients node number)) drew) (same number (omega (arith, high))))

  -- where one client of a node drew more, it sends more
  pub record OneMore (node number : ℕ) (new : List Draw) : Type 0 where
    pub a : List ClientSends
    pub s : ClientSends
    pub b : List ClientSends
    pub client : ClientId
    pub rest : List TimedPage
    pub all : length (draws_at J (place_of W.settings.clients node number)) ≤ length (timed_pages W.settings.size (operations_at W (place_of W.settings.clients node number)))
        → length (draws_at J (place_of W.settings.clients node number)) + length rest ≡ length (timed_pages W.settings.size (operations_at W (place_of W.settings.clients node number)))
    pub own : client.number ≡ length a
    pub was : node_sends W J node ≡ a ++ s ∷ b
    pub now : node_sends W K node ≡ a ++ grown s (drawn_from client (length s.drawn) rest new) ∷ b

  pub one_more : (node number : ℕ) (new : List Draw) → number < W.settings.clients
      → ((other : ℕ) → other ≢ number → draws_at K (place_of W.settings.clients node other) ≡ draws_at J (place_of W.settings.clients node other))
      → draws_at K (place_of W.settings.clients node number) ≡ draws_at J (place_of W.settings.clients node number) ++ new → OneMore node number new
  one_more node number new low others more =
      let each = W.settings.clients in
      let behind = each - suc number in
      let whole : each ≡ number + suc behind = omega (arith, low) in
      let here = 0 + number in
      let zeroth : 0 + number ≡ number = omega arith in
      let f = client_sends W J node in
      let g = client_sends W K node in
      let client : ClientId = record { node = node; number = number } in
      let ops = operations_at W (place_of each node number) in
      let drew = draws_at J (place_of each node number) in
      let m = more_pages client 0 (timed_pages W.settings.size ops) drew new in
      let count = 0 + length (drawn_pages W.settings.size client ops drew) in
      let counted : count ≡ length (drawn_pages W.settings.size client ops drew) = omega arith in
      let split : (h : ℕ → ClientSends) → map h (range_with_len 0 each) ≡ map h (range_with_len 0 number) ++ h number ∷ map h (range_with_len (number + 1) behind) =
      λ h.
      ap (λ (n : ℕ). map h (range_with_len 0 n)) whole ∙ ap (map h) (range_parts 0 number behind) ∙ map-append h (range_with_len 0 number) (here ∷ range_with_len (here + 1) behind)
      ∙ ap (λ (n : ℕ). map h (range_with_len 0 number) ++ h n ∷ map h (range_with_len (n + 1) behind)) zeroth
      in
      let same : (other : ℕ) → other ≢ number → g other ≡ f other =
      λ other ne. ap (λ (drew : List Draw). sends_of W.settings (record { node = node; number = other }) (operations_at W (place_of each node other)) drew) (others other ne)
      in
      let first : map g (range_with_len 0 number) ≡ map f (range_with_len 0 number) = map_range g f 0 number (λ other lower high. same other (λ e. omega (arith, high, e))) in
      let last : map g (range_with_len (number + 1) behind) ≡ map f (range_with_len (number + 1) behind) = map_range g f (number + 1) behind (λ other lower high. same other (λ e. omega (arith, lower, e))) in
      let middle : g number ≡ grown (f number) (drawn_from client (length (f number).drawn) m.rest new) =
      ap (λ (drew : List Draw). sends_of W.settings client ops drew) more
      ∙ ap (λ (drawn : List DrawnPage). record (f number) { drawn = drawn; chunks = sent_chunks drawn }) (m.is ∙ ap (λ (n : ℕ). drawn_pages W.settings.size client ops drew ++ drawn_from client n m.rest new) counted)
      in
      record {
        a = map f (range_with_len 0 number);
        s = f number;
        b = map f (range_with_len (number + 1) behind);
        client = client;
        rest = m.rest;
        all = m.all;
        own = sym (length-map (range_with_len 0 number) f ∙ length-range_with_len 0 number);
        was = split f;
        now =
            split g
            ∙ ap (λ (front : List ClientSends). front ++ g number ∷ map g (range_with_len (number + 1) behind)) first
            ∙ ap (λ (rest : List ClientSends). map f (range_with_len 0 number) ++ g number ∷ rest) last
            ∙ ap (λ (s : ClientSends). map f (range_with_len 0 number) ++ s ∷ map f (range_with_len (number + 1) behind)) middle;
      }

-- the draws that a node's pool gives next
pub next_of_node : (W : PlainWorkload) (count : ℕ) (node : NodeRun) → HoldsAt W.settings node → draws_by W count node ≡ next_draws count (length (node_events node)) (queue_after W.settings.buffers (events_back (node_events node)))
next_of_node W count node h =
    let is = pool_is node h.missed in
    let long : length (pool_history node) ≡ length (node_events node) = sym (length-reverse (pool_history node)) ∙ ap (λ es. length (events_back es)) is ∙ h.pooled.count in
    ap (λ (n : ℕ). next_draws count n (queue_after W.settings.buffers (reverse (pool_history node)))) long
    ∙ ap (λ es. next_draws count (length (node_events node)) (queue_after W.settings.buffers (events_back es))) is

-- ---- the whole schedule

module _ (k : Known) (W : PlainWorkload) where
  abbrev Held : NodeRun → Type 0
  Held = IsHeld W.settings

  pub record Keeps (m : Machine) : Type 0 where
    pub done : IsDone W m
    pub held : AllByRecursion Held (followed W m.journal).nodes

  pub own_sends : (J : PlainJournal) (i : ℕ) (node : NodeRun) → slice_get (followed W J).nodes i ≡ Some node → node.sends ≡ node_sends W J node.node
  own_sends J i node stands = (all_at (IsOfJournal W J) (followed W J).nodes i node (nodes_of_journal k W J).each stands).sends

  -- a node of which the clients send the same
  behind_held : (J K : PlainJournal) (i : ℕ) (node : NodeRun) → slice_get (followed W J).nodes i ≡ Some node → node_sends W K node.node ≡ node_sends W J node.node → Held node → Held (node_behind W J K node)
  behind_held J K i node stands same h =
      record {
        comes = h.comes;
        holds = subst (λ (sends : List ClientSends). Holds W.settings.buffers sends (sheets_of node.state.taken) node.state.given node.state.log) (own_sends J i node stands ∙ sym same) h.holds;
      }

  -- ---- a client draws

  module _ (m : Machine) (place : ℕ) (h : Keeps m) where
    abbrev count : ℕ
    count = pages_started W place (min (done_at m place + W.settings.stride) (length (operations_at W place))) - pages_started W place (done_at m place)

    abbrev drew : List Draw
    drew = draws_in W m (place / W.settings.clients) count

    abbrev old : PlainJournal
    old = m.journal

    abbrev new : PlainJournal
    new = (client_goes W m place).journal

    module _ (i : ℕ) (node : NodeRun) (stands : slice_get (followed W old).nodes i ≡ Some node) where
      abbrev base : ℕ
      base = node.node * W.settings.clients

      held_here : Held node
      held_here = all_at Held (followed W old).nodes i node h.held stands

      others_same : (other : ℕ) → place ≢ other → draws_at new other ≡ draws_at old other
      others_same other ne = unwrap_other m.journal.draws place other (draws_at old place ++ drew) [] ne

      -- the client is none of the node's
      elsewhere : ((number : ℕ) → number < W.settings.clients → place ≢ base + number) → Held (node_behind W old new node)
      elsewhere away = behind_held old new i node stands (same_sends W old new node.node (λ number low. others_same (base + number) (away number low))) held_here

      -- there is no such client
      nowhere : length m.journal.draws ≤ place → Held (node_behind W old new node)
      nowhere past =
          behind_held old new i node stands
          (same_sends W old new node.node (λ number low. ap (λ (all : List (List Draw)). unwrap_or (slice_get all (base + number)) []) (set_past m.journal.draws place (draws_at old place ++ drew) past))) held_here

      -- it is one of the node's
      here : (number : ℕ) → place ≡ base + number → number < W.settings.clients → place < length m.journal.draws → Held (node_behind W old new node)
      here number is low there =
          let own_place : place / W.settings.clients ≡ i =
          ap (λ (p : ℕ). p / W.settings.clients) is ∙ div-mul-add node.node W.settings.clients number low ∙ number_is k W old i node stands
          in
          let drawn_more : draws_at new (base + number) ≡ draws_at old (base + number) ++ drew =
          subst (λ (p : ℕ). draws_at new p ≡ draws_at old p ++ drew) is (unwrap_set m.journal.draws place (draws_at old place ++ drew) [] there)
          in
          let o = one_more W old new node.node number drew low (λ other ne. others_same (base + other) (λ e. ne (omega (arith, e, is)))) drawn_more in
          let sends_are : node.sends ≡ o.a ++ o.s ∷ o.b = own_sends old i node stands ∙ o.was in
          let sheets = sheets_of node.state.taken in
          let holds : Holds W.settings.buffers (o.a ++ o.s ∷ o.b) sheets node.state.given node.state.log =
          subst (λ (sends : List ClientSends). Holds W.settings.buffers sends sheets node.state.given node.state.log) sends_are held_here.holds
          in
          let next : drew ≡ next_draws count (length (events_in (o.a ++ o.s ∷ o.b) sheets node.state.given)) (queue_after W.settings.buffers (events_back (events_in (o.a ++ o.s ∷ o.b) sheets node.state.given))) =
          ap (λ (n : ℕ). option_map_or (draws_by W count) (slice_get (followed W old).nodes n) []) own_place
          ∙ ap (λ o. option_map_or (draws_by W count) o []) stands
          ∙ next_of_node W count node held_here.holds
          ∙ ap
          (λ (sends : List ClientSends).
          next_draws count (length (events_in sends sheets node.state.given)) (queue_after W.settings.buffers (events_back (events_in sends sheets node.state.given)))) sends_are
          in
          let kept = draws_keep W.settings.buffers o.a o.b sheets node.state.given node.state.log o.client o.own o.rest count o.s holds in
          record {
            comes = held_here.comes;
            holds =
                subst (λ (sends : List ClientSends). Holds W.settings.buffers sends sheets node.state.given node.state.log) (sym o.now)
                (subst (λ (drew : List Draw). Holds W.settings.buffers (o.a ++ grown o.s (drawn_from o.client (length o.s.drawn) o.rest drew) ∷ o.b) sheets node.state.given node.state.log) (sym next) kept);
          }

      client_case : (low high there : Bool) → leb base place ≡ low → ltb place (base + W.settings.clients) ≡ high → ltb place (length m.journal.draws) ≡ there → Held (node_behind W old new node)
      client_case true true true x y z =
          let least = leb-true base place x in
          let most = ltb-true place (base + W.settings.clients) y in
          here (place - base) (omega (arith, least)) (omega (arith, least, most)) (ltb-true place (length m.journal.draws) z)
      client_case low high false x y z = nowhere (ltb-false place (length m.journal.draws) z)
      client_case true false there x y z = let past = ltb-false place (base + W.settings.clients) y in elsewhere (λ number low e. omega (arith, past, low, e))
      client_case false high there x y z = elsewhere (λ number low e. let not_below = below base place x in omega (arith, not_below, e))
        where
          below : (a b : ℕ) → leb a b ≡ false → b < a
          below a b x = leb-false a b x

      client_node : Held (node_behind W old new node)
      client_node = client_case (leb base place) (ltb place (base + W.settings.clients)) (ltb place (length m.journal.draws)) refl refl refl

    pub client_keeps_held : Keeps (client_goes W m place)
    client_keeps_held =
        record {
          done = client_keeps k W m place h.done;
          held =
              subst (λ (r : Run). AllByRecursion Held r.nodes)
              (draws_are k W m place (min (done_at m place + W.settings.stride) (length (operations_at W place))) drew h.done)
              (all_map Held (node_behind W old new) (followed W old).nodes (all_by_place (λ (node : NodeRun). Held (node_behind W old new node)) (followed W old).nodes client_node));
        }

  -- ---- a pass

  module _ (m : Machine) (h : Keeps m) where
    abbrev run_of : Run
    run_of = followed W m.journal

    abbrev ThroughHeld : NodeRun → Type 0
    ThroughHeld r = IsThrough r × Held r

    take_holds : StepsThere k W m (passed k W m h.done) h.done ThroughHeld
    take_holds =
        steps_there k W m (pass_steps W m run_of) h.done ThroughHeld (λ node e. e.0)
        (all_map (Walked W.settings run_of.heard ThroughHeld) (node_behind W m.journal (agents_take W m).journal) run_of.nodes
        (all_by_place (λ (node : NodeRun). Walked W.settings run_of.heard ThroughHeld (node_behind W m.journal (agents_take W m).journal node)) run_of.nodes
        (λ i node stands.
        takes_keep k.noted W.settings run_of.heard Held (λ run step rest event left quiet met p. take_held k.adds k.go_on k.places W.settings run_of.heard run step rest event quiet met p) (pass_steps W m run_of node)
        (node_behind W m.journal (agents_take W m).journal node) (left_is k W m (pass_steps W m run_of) h.done i node stands)
        (all_append (λ (step : Step). is_offer step ≡ false) (before_turn W m run_of node) (steps.Turn ∷ [])
        (all_takes (λ (step : Step). is_offer step ≡ false) (λ client. refl) (λ client. refl) (λ client. refl) refl W m run_of node) (refl, tt))
        (enough_of k W m h.done i node stands)
        (behind_held m.journal (agents_take W m).journal i node stands refl (all_at Held run_of.nodes i node h.held stands)))))

    pub take_keeps_held : Keeps (agents_take W m)
    take_keeps_held =
        record {
          done = take_keeps k W m h.done;
          held = all_each ThroughHeld Held (followed W (agents_take W m).journal).nodes (λ node e. e.1) take_holds.each;
        }

    abbrev EmptiedHeld : NodeRun → Type 0
    EmptiedHeld r = IsEmptied k.noted W.settings run_of.heard r × Held r

    give_node : (i : ℕ) (node : NodeRun) → slice_get run_of.nodes i ≡ Some node → Walked W.settings run_of.heard EmptiedHeld (node_behind W m.journal (agents_give W m).journal node)
    give_node i node stands =
        let behind = node_behind W m.journal (agents_give W m).journal node in
        let held = behind_held m.journal (agents_give W m).journal i node stands refl (all_at Held run_of.nodes i node h.held stands) in
        let events : length (node_events behind) ≡ length (pool_events node) =
        ap (λ (sends : List ClientSends). length (events_in sends (sheets_of node.state.taken) node.state.given)) (sym (own_sends m.journal i node stands))
        ∙ ap length (sym (pool_is node (all_at Held run_of.nodes i node h.held stands).holds.missed))
        in
        let w =
        gives_keep k.noted W.settings run_of.heard (HeldUpTo k.adds k.go_on k.places W.settings) (give_held k.adds k.go_on k.places W.settings) (length node.state.hand) (length (pool_events node)) behind
        (left_is k W m give_steps h.done i node stands) refl (record { held = held; events = events })
        in
        record { last = w.last; walks = w.walks; ends = (w.ends.0, w.ends.1.held) }

    give_holds : StepsThere k W m give_steps h.done EmptiedHeld
    give_holds =
        steps_there k W m give_steps h.done EmptiedHeld (λ node e. e.0.through)
        (all_map (Walked W.settings run_of.heard EmptiedHeld) (node_behind W m.journal (agents_give W m).journal) run_of.nodes
        (all_by_place (λ (node : NodeRun). Walked W.settings run_of.heard EmptiedHeld (node_behind W m.journal (agents_give W m).journal node)) run_of.nodes give_node))

    pub give_keeps_held : Keeps (agents_give W m)
    give_keeps_held =
        record {
          done = give_keeps k W m h.done;
          held = all_each EmptiedHeld Held (followed W (agents_give W m).journal).nodes (λ node e. e.1) give_holds.each;
        }

    pub hear_keeps_held : Keeps (coordinator_hears W m)
    hear_keeps_held =
        record {
          done = hear_keeps k W m h.done;
          held =
              subst (AllByRecursion Held) (sym (hear_there k W m h.done).nodes)
              (all_map Held (node_behind W m.journal (coordinator_hears W m).journal) run_of.nodes
              (all_by_place (λ (node : NodeRun). Held (node_behind W m.journal (coordinator_hears W m).journal node)) run_of.nodes
              (λ i node stands. behind_held m.journal (coordinator_hears W m).journal i node stands refl (all_at Held run_of.nodes i node h.held stands))));
        }

  pub pass_keeps_held : (m : Machine) → Keeps m → Keeps (passes W m)
  pass_keeps_held m h = hear_keeps_held (agents_give W (agents_take W m)) (give_keeps_held (agents_take W m) (take_keeps_held m h))

  -- ---- the start

  abbrev pub no_draws : List Draw
  no_draws = []

  pub undrawn : (clients : List (List Operation)) (place : ℕ) → unwrap_or (slice_get (map (λ _. no_draws) clients) place) [] ≡ []
  undrawn [] place = refl
  undrawn (ops ∷ clients) zero = refl
  undrawn (ops ∷ clients) (suc place) = undrawn clients place

  pub no_pages : (client : ClientId) (pages : List TimedPage) → drawn_from client 0 pages [] ≡ []
  no_pages client [] = refl
  no_pages client (page ∷ pages) = refl

  pub starts_keep : Keeps (machine_start W)
  starts_keep =
      record {
        done = begins k W;
        held =
            subst (λ (r : Run). AllByRecursion Held r.nodes) (starts_at k W)
            (all_map Held (node_start W (machine_start W).journal) (range_with_len 0 W.settings.nodes)
            (all_by_place (λ (node : ℕ). Held (node_start W (machine_start W).journal node)) (range_with_len 0 W.settings.nodes)
            (λ i node stands.
            record {
              comes = refl;
              holds =
                  starts_held W.settings.buffers (node_sends W (machine_start W).journal node)
                  (all_map (λ (s : ClientSends). (s.drawn ≡ []) × (s.chunks ≡ sent_chunks s.drawn)) (client_sends W (machine_start W).journal node) (range_with_len 0 W.settings.clients)
                  (all_by_place (λ (number : ℕ). ((client_sends W (machine_start W).journal node number).drawn ≡ []) × ((client_sends W (machine_start W).journal node number).chunks ≡ sent_chunks (client_sends W (machine_start W).journal node number).drawn))
                  (range_with_len 0 W.settings.clients)
                  (λ j number at. (
                    ap (drawn_pages W.settings.size (record { node = node; number = number }) (operations_at W (place_of W.settings.clients node number))) (undrawn W.clients (place_of W.settings.clients node number))
                        ∙ no_pages (record { node = node; number = number }) (timed_pages W.settings.size (operations_at W (place_of W.settings.clients node number))),
                    refl,
                  ))));
            })));
      }

  pub ends_keep : Keeps (machine_end W)
  ends_keep = end_keeps W Keeps (clients_keep W Keeps client_keeps_held) pass_keeps_held starts_keep
