-- The pages that agents reported are pages of their clients, and those of one client and trace stand in rising order.
use Rattle.std.proofs.Common.{◌≡◌, ℕ, zero, suc, ◌+◌, ◌<◌, ◌≤◌, Bool, true, false, cond, List, [], ◌∷◌, ◌++◌, refl, sym, ap, subst, ◌∙◌, Option, Some, None, arith, map, filter, option_map, slice_get, eq-eqb, nat_eq}
use Rattle.hs_law_outcome.proofs.Prelude.{AllByRecursion, cons_option, flat_map, range_with_len, option_map_or, slice_get-map, same_Some, all_append, all_at, all_each, option_unmap, ClientId, TraceId, same_trace, sheet_for, Draw, PlainJournal, sheets_at, sheets_of, ClientsPagesRise, Taken, trace_of, is_of_trace, AgentState, PlainPage, pages_of, PlainWorkload, DrawnPage, drawn_from, TimedPagesAreThePages, ClientSends, client_sends, node_sends, operations_at, draws_at, place_of, TimedPage, timed_pages, Sheet, IsOfJournal, NodesAreOfJournal, RunsAreOfTheJournal, NodeRun, followed, ComesByEvents, AgentsComeByEvents, FollowingPlaysOut, TakenPagesRise, IsClientsPage, IsOfDrawnPage, TakenPagesWereDrawn, reported_at, outcome_of, EndsItsTraces}
use Rattle.hs_law_agent.specs.Laws.{PagesRise, reported_of}
use Rattle.hs_law_outcome.specs.CollectedReports.{TakenPagesAreOfClients, ReportedPagesAreOfClients}
use Rattle.hs_law_outcome.proofs.Entries.{ends_at}
use Rattle.hs_law_outcome.proofs.GotPages.{then_parts, in_range, all_below}

-- ---- pages of clients

timed_at : (client : ClientId) (k : ℕ) (timed : List TimedPage) (draws : List Draw) (at : ℕ) (page : DrawnPage) → slice_get (drawn_from client k timed draws) at ≡ Some page
    → (slice_get (map (λ (p : TimedPage). p.page) timed) at ≡ Some page.page) × (page.client ≡ client)
timed_at client k [] draws at page h = let no : None ≡ Some page = h in absurd cc
timed_at client k (t ∷ timed) [] at page h = let no : None ≡ Some page = h in absurd cc
timed_at client k (t ∷ timed) (draw ∷ draws) zero page h =
    let same = same_Some (record { client = client; number = k; page = t.page; started = t.started; sent = t.sent; draw = draw }) page h in
    (ap (λ (d : DrawnPage). Some d.page) same, ap (λ (d : DrawnPage). d.client) (sym same))
timed_at client k (t ∷ timed) (draw ∷ draws) (suc at) page h = timed_at client (k + 1) timed draws at page h

module _ (timed : TimedPagesAreThePages) (W : PlainWorkload) (J : PlainJournal) (ends : EndsItsTraces W) where
  pub of_drawn : (run : NodeRun) (sheet : Sheet) → run.node < W.settings.nodes → run.sends ≡ node_sends W J run.node → IsOfDrawnPage run sheet → IsClientsPage W sheet × (sheet.header.client.node ≡ run.node)
  of_drawn run sheet low sends o =
      let c = sheet.header.client.number in
      let at = sheet.header.page in
      let s = then_parts (λ (s : ClientSends). slice_get s.drawn at) (slice_get run.sends c) o.page o.there in
      let found = option_unmap (client_sends W J run.node) (slice_get (range_with_len 0 W.settings.clients) c) s.0
      (sym (slice_get-map (client_sends W J run.node) (range_with_len 0 W.settings.clients) c) ∙ ap (λ (all : List ClientSends). slice_get all c) (sym sends) ∙ s.1)
      in
      let range = in_range 0 W.settings.clients c found.0 found.1 in
      let number : found.0 ≡ c = let is = range.0 in omega (arith, is) in
      let own : s.0 ≡ client_sends W J run.node c = sym found.2 ∙ ap (client_sends W J run.node) number in
      let place = place_of W.settings.clients run.node c in
      let d = timed_at (record { node = run.node; number = c }) 0 (timed_pages W.settings.size (operations_at W place)) (draws_at J place) at o.page (ap (λ (s : ClientSends). slice_get s.drawn at) (sym own) ∙ s.2) in
      let client : o.page.client ≡ sheet.header.client = ap (λ (s : Sheet). s.header.client) o.is in
      let node : sheet.header.client.node ≡ run.node = ap (λ (c : ClientId). c.node) (sym client ∙ d.1) in
      let page : o.page.number ≡ sheet.header.page = ap (λ (s : Sheet). s.header.page) o.is in
      let all = timed W.settings.size (operations_at W place) (ends_at W.clients place ends.ends) in (
        record {
          page = o.page.page;
          node = omega (arith, node, low);
          number = range.1;
          there =
              ap (λ (n : ℕ). slice_get (pages_of W.settings.size (operations_at W (place_of W.settings.clients n c))) at) node
              ∙ ap (λ (pages : List PlainPage). slice_get pages at) (sym all)
              ∙ d.0;
          is = sym o.is ∙ ap (λ (c : ClientId). sheet_for c o.page.number o.page.page) client ∙ ap (λ (n : ℕ). sheet_for sheet.header.client n o.page.page) page;
        },
        node,
      )

-- ---- pages at places

module _ (taken : List Taken) where
  abbrev sheet_of : Option Taken → Option Sheet
  sheet_of o = option_map (λ (chunk : Taken). chunk.sheet) o

  -- what holds of all chunks' pages holds of those at places
  all_placed : (P : Sheet → Type 0) (places : List ℕ) → ((place : ℕ) (chunk : Taken) → slice_get taken place ≡ Some chunk → P chunk.sheet) → AllByRecursion P (sheets_at taken places)
  all_placed P [] each = tt
  all_placed P (place ∷ places) each = go (slice_get taken place) refl (all_placed P places each)
    where
      go : (o : Option Taken) → slice_get taken place ≡ o → AllByRecursion P (sheets_at taken places) → AllByRecursion P (cons_option (sheet_of o) (sheets_at taken places))
      go None e all = all
      go (Some chunk) e all = (each place chunk e, all)

  abbrev Below : Sheet → Sheet → Type 0
  Below sheet later = later.header.client ≡ sheet.header.client → sheet.header.page < later.header.page

  abbrev is_its : TraceId → Taken → Bool
  is_its trace chunk = same_trace trace (trace_of chunk)

  abbrev those_of : TraceId → List ℕ → List ℕ
  those_of trace places = filter (is_of_trace taken trace) places

-- a later page of the same client and trace has a higher number
abbrev pub Above : Sheet → Sheet → Type 0
Above sheet later = later.header.client ≡ sheet.header.client → later.header.trace ≡ sheet.header.trace → sheet.header.page < later.header.page

-- the pages of one client and trace rise
abbrev pub RunsRise : List Sheet → Type 0
RunsRise [] = Unit {0}
RunsRise (sheet ∷ sheets) = AllByRecursion (Above sheet) sheets × RunsRise sheets

module _ (taken : List Taken) where
  above_all : (sheet : Sheet) (places : List ℕ) → AllByRecursion (Below taken sheet) (sheets_at taken (those_of taken sheet.header.trace places)) → AllByRecursion (Above sheet) (sheets_at taken places)
  above_all sheet [] all = tt
  above_all sheet (place ∷ places) all = go (slice_get taken place) refl all (above_all sheet places)
    where
      rest : List ℕ
      rest = those_of taken sheet.header.trace places

      kept : (b : Bool) (chunk : Taken) → slice_get taken place ≡ Some chunk → is_its taken sheet.header.trace chunk ≡ b → AllByRecursion (Below taken sheet) (sheets_at taken (cond b (place ∷ rest) rest))
          → (AllByRecursion (Below taken sheet) (sheets_at taken rest) → AllByRecursion (Above sheet) (sheets_at taken places)) → Above sheet chunk.sheet × AllByRecursion (Above sheet) (sheets_at taken places)
      kept true chunk e its all on =
          let both = subst (λ (o : Option Taken). AllByRecursion (Below taken sheet) (cons_option (sheet_of taken o) (sheets_at taken rest))) e all in ((λ client trace. both.0 client), on both.1)
      kept false chunk e its all on = (
        (λ client trace.
            let same : nat_eq sheet.header.trace.0 chunk.sheet.header.trace.0 ≡ true = eq-eqb sheet.header.trace.0 chunk.sheet.header.trace.0 (ap (λ (t : TraceId). t.0) (sym trace)) in
            let no : false ≡ true = sym its ∙ same in absurd cc),
        on all,
      )

      go : (o : Option Taken) → slice_get taken place ≡ o → AllByRecursion (Below taken sheet) (sheets_at taken (cond (option_map_or (is_its taken sheet.header.trace) o false) (place ∷ rest) rest))
          → (AllByRecursion (Below taken sheet) (sheets_at taken rest) → AllByRecursion (Above sheet) (sheets_at taken places)) → AllByRecursion (Above sheet) (cons_option (sheet_of taken o) (sheets_at taken places))
      go None e all on = on all
      go (Some chunk) e all on = kept (is_its taken sheet.header.trace chunk) chunk e refl all on

  drop_first : (o : Option Sheet) (sheets : List Sheet) → PagesRise (cons_option o sheets) → PagesRise sheets
  drop_first None sheets h = h
  drop_first (Some sheet) sheets h = h.1

  drop_case : (place : ℕ) (places : List ℕ) (b : Bool) → PagesRise (sheets_at taken (cond b (place ∷ places) places)) → PagesRise (sheets_at taken places)
  drop_case place places true h = drop_first (sheet_of taken (slice_get taken place)) (sheets_at taken places) h
  drop_case place places false h = h

  runs_at : (places : List ℕ) → ((trace : TraceId) → PagesRise (sheets_at taken (those_of taken trace places))) → RunsRise (sheets_at taken places)
  runs_at [] rise = tt
  runs_at (place ∷ places) rise =
      go (slice_get taken place) refl (runs_at places (λ trace. drop_case place (those_of taken trace places) (is_of_trace taken trace place) (rise trace)))
    where
      first : (chunk : Taken) → slice_get taken place ≡ Some chunk → AllByRecursion (Below taken chunk.sheet) (sheets_at taken (those_of taken chunk.sheet.header.trace places))
      first chunk e =
          let trace = chunk.sheet.header.trace in
          let its : is_of_trace taken trace place ≡ true = ap (λ (o : Option Taken). option_map_or (is_its taken trace) o false) e ∙ eq-eqb trace.0 trace.0 refl in
          let kept = subst (λ b. PagesRise (sheets_at taken (cond b (place ∷ those_of taken trace places) (those_of taken trace places)))) its (rise trace) in
          (subst (λ (o : Option Taken). PagesRise (cons_option (sheet_of taken o) (sheets_at taken (those_of taken trace places)))) e kept).0

      go : (o : Option Taken) → slice_get taken place ≡ o → RunsRise (sheets_at taken places) → RunsRise (cons_option (sheet_of taken o) (sheets_at taken places))
      go None e rest = rest
      go (Some chunk) e rest = (above_all chunk.sheet places (first chunk e), rest)

-- ---- the nodes, one behind another

rise_both : (xs ys : List Sheet) → RunsRise xs → RunsRise ys → AllByRecursion (λ (x : Sheet). AllByRecursion (Above x) ys) xs → RunsRise (xs ++ ys)
rise_both [] ys a b across = b
rise_both (x ∷ xs) ys a b across = (all_append (Above x) xs ys a.0 across.0, rise_both xs ys a.1 b across.1)

record NodeRises (run : NodeRun) : Type 0 where
  rise : RunsRise (reported_at run)
  own : AllByRecursion (λ (sheet : Sheet). sheet.header.client.node ≡ run.node) (reported_at run)

record AllRise (start : ℕ) (sheets : List Sheet) : Type 0 where
  rise : RunsRise sheets
  behind : AllByRecursion (λ (sheet : Sheet). start ≤ sheet.header.client.node) sheets

later_node : (sheet later : Sheet) (start : ℕ) → sheet.header.client.node ≡ start → start + 1 ≤ later.header.client.node → Above sheet later
later_node sheet later start here there client trace =
    let same : later.header.client.node ≡ sheet.header.client.node = ap (λ (c : ClientId). c.node) client in absurd (omega (arith, same, here, there))

nodes_rise : (nodes : List NodeRun) (start count : ℕ) → map (λ (run : NodeRun). run.node) nodes ≡ range_with_len start count → AllByRecursion NodeRises nodes → AllRise start (flat_map reported_at nodes)
nodes_rise [] start count numbers all = record { rise = tt; behind = tt }
nodes_rise (run ∷ nodes) start zero numbers all = absurd cc
nodes_rise (run ∷ nodes) start (suc count) numbers all =
    let first : run.node ≡ start = cc in
    let others : map (λ (run : NodeRun). run.node) nodes ≡ range_with_len (start + 1) count = cc in
    let rest = nodes_rise nodes (start + 1) count others all.1 in
    let own : AllByRecursion (λ (sheet : Sheet). sheet.header.client.node ≡ start) (reported_at run) = subst (λ n. AllByRecursion (λ (sheet : Sheet). sheet.header.client.node ≡ n) (reported_at run)) first all.0.own in
    record {
      rise =
          rise_both (reported_at run) (flat_map reported_at nodes) all.0.rise rest.rise
          (all_each (λ (sheet : Sheet). sheet.header.client.node ≡ start) (λ (sheet : Sheet). AllByRecursion (Above sheet) (flat_map reported_at nodes)) (reported_at run)
          (λ sheet here.
          all_each (λ (later : Sheet). start + 1 ≤ later.header.client.node) (Above sheet) (flat_map reported_at nodes) (λ later there. later_node sheet later start here there) rest.behind)
          own);
      behind =
          all_append (λ (sheet : Sheet). start ≤ sheet.header.client.node) (reported_at run) (flat_map reported_at nodes)
          (all_each (λ (sheet : Sheet). sheet.header.client.node ≡ start) (λ (sheet : Sheet). start ≤ sheet.header.client.node) (reported_at run) (λ sheet here. omega (arith, here)) own)
          (all_each (λ (sheet : Sheet). start + 1 ≤ sheet.header.client.node) (λ (sheet : Sheet). start ≤ sheet.header.client.node) (flat_map reported_at nodes) (λ sheet there. omega (arith, there)) rest.behind);
    }

-- ---- of a journal

module _ (plays : FollowingPlaysOut) (runs : RunsAreOfTheJournal) (timed : TimedPagesAreThePages) (drawn : TakenPagesWereDrawn) (W : PlainWorkload) (J : PlainJournal) (ends : EndsItsTraces W) where
  abbrev IsPaged : NodeRun → Type 0
  IsPaged run = AllByRecursion (λ (chunk : Taken). IsClientsPage W chunk.sheet) run.state.taken

  each_taken : (runs : List NodeRun) → AllByRecursion (λ n. n < W.settings.nodes) (map (λ (run : NodeRun). run.node) runs) → AllByRecursion (IsOfJournal W J) runs
      → AllByRecursion (λ (run : NodeRun). AllByRecursion (λ (chunk : Taken). IsOfDrawnPage run chunk.sheet) run.state.taken) runs → AllByRecursion IsPaged runs
  each_taken [] low of all = tt
  each_taken (run ∷ runs) low of all = (
    all_each (λ (chunk : Taken). IsOfDrawnPage run chunk.sheet) (λ (chunk : Taken). IsClientsPage W chunk.sheet) run.state.taken (λ chunk o. (of_drawn timed W J ends run chunk.sheet low.0 of.0.sends o).0) all.0,
    each_taken runs low.1 of.1 all.1,
  )

  of_nodes : NodesAreOfJournal W J (followed W J)
  of_nodes = runs W J (followed W J) (plays W J).leads

  low_nodes : AllByRecursion (λ n. n < W.settings.nodes) (map (λ (run : NodeRun). run.node) (followed W J).nodes)
  low_nodes =
      let end : 0 + W.settings.nodes ≤ W.settings.nodes = omega arith in
      subst (AllByRecursion (λ n. n < W.settings.nodes)) (sym of_nodes.numbers) (all_below 0 W.settings.nodes W.settings.nodes end)

  taken_paged : AllByRecursion IsPaged (followed W J).nodes
  taken_paged = each_taken (followed W J).nodes low_nodes of_nodes.each (drawn W J)

  each_paged : (runs : List NodeRun) → AllByRecursion IsPaged runs → AllByRecursion (IsClientsPage W) (flat_map reported_at runs)
  each_paged [] all = tt
  each_paged (run ∷ runs) all =
      all_append (IsClientsPage W) (reported_at run) (flat_map reported_at runs)
      (all_placed run.state.taken (IsClientsPage W) run.state.reported (λ place chunk h. all_at (λ (chunk : Taken). IsClientsPage W chunk.sheet) run.state.taken place chunk all.0 h)) (each_paged runs all.1)

  -- each is a page of its client
  pub reported_paged : AllByRecursion (IsClientsPage W) (outcome_of W J).reported
  reported_paged = each_paged (followed W J).nodes taken_paged

pub taken_pages_are_of_clients : FollowingPlaysOut → RunsAreOfTheJournal → TimedPagesAreThePages → TakenPagesWereDrawn → TakenPagesAreOfClients
taken_pages_are_of_clients plays runs timed drawn W J ends = taken_paged plays runs timed drawn W J ends

pub reported_pages_are_of_clients : FollowingPlaysOut → RunsAreOfTheJournal → TimedPagesAreThePages → TakenPagesWereDrawn → ReportedPagesAreOfClients
reported_pages_are_of_clients plays runs timed drawn W J ends = reported_paged plays runs timed drawn W J ends

module _ (plays : FollowingPlaysOut) (runs : RunsAreOfTheJournal) (timed : TimedPagesAreThePages) (drawn : TakenPagesWereDrawn) (risen : TakenPagesRise) (clients_rise : ClientsPagesRise) (comes : AgentsComeByEvents) (W : PlainWorkload)
    (J : PlainJournal) (ends : EndsItsTraces W)
  where
    abbrev nodes : List NodeRun
    nodes = (followed W J).nodes

    abbrev IsDrawn : NodeRun → Type 0
    IsDrawn run = AllByRecursion (λ (chunk : Taken). IsOfDrawnPage run chunk.sheet) run.state.taken

    state_rises : (run : NodeRun) (state : AgentState) → run.state ≡ state → ((trace : TraceId) → PagesRise (sheets_at state.taken (reported_of state trace))) → RunsRise (reported_at run)
    state_rises run state same rise = subst (λ (s : AgentState). RunsRise (sheets_at s.taken s.reported)) (sym same) (runs_at state.taken state.reported rise)

    node_rises : (run : NodeRun) → run.node < W.settings.nodes → IsOfJournal W J run → IsDrawn run → PagesRise (sheets_of run.state.taken) → ComesByEvents W.settings run → NodeRises run
    node_rises run low of all rise come =
        record {
          rise = state_rises run _ come (λ trace. clients_rise W.settings run.node run.events trace (subst (λ (s : AgentState). PagesRise (sheets_of s.taken)) come rise));
          own = all_placed run.state.taken (λ (sheet : Sheet). sheet.header.client.node ≡ run.node) run.state.reported
              (λ place chunk h. (of_drawn timed W J ends run chunk.sheet low of.sends (all_at (λ (chunk : Taken). IsOfDrawnPage run chunk.sheet) run.state.taken place chunk all h)).1);
        }

    each_rises : (runs : List NodeRun) → AllByRecursion (λ n. n < W.settings.nodes) (map (λ (run : NodeRun). run.node) runs) → AllByRecursion (IsOfJournal W J) runs → AllByRecursion IsDrawn runs
        → AllByRecursion (λ (run : NodeRun). PagesRise (sheets_of run.state.taken)) runs → AllByRecursion (ComesByEvents W.settings) runs → AllByRecursion NodeRises runs
    each_rises [] low of all rise come = tt
    each_rises (run ∷ runs) low of all rise come = (node_rises run low.0 of.0 all.0 rise.0 come.0, each_rises runs low.1 of.1 all.1 rise.1 come.1)

    abbrev of_journal : NodesAreOfJournal W J (followed W J)
    of_journal = runs W J (followed W J) (plays W J).leads

    -- the reported pages of one client and trace rise
    pub reported_rise : RunsRise (outcome_of W J).reported
    reported_rise =
        (nodes_rise nodes 0 W.settings.nodes of_journal.numbers (each_rises nodes (low_nodes plays runs timed drawn W J ends) of_journal.each (drawn W J) (risen W J (followed W J) (plays W J).leads) (comes W J))).rise
