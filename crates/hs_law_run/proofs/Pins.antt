-- What is pinned can be reported at each node of the schedule: what agents claim is known, and each page that they took is one that a client sent.
use Rattle.std.proofs.Common.{◌≡◌, ℕ, zero, suc, ◌+◌, ◌<◌, ◌≤◌, true, List, [], ◌∷◌, refl, sym, ap, subst, ◌∙◌, Some, None, arith, option_map, slice_get}
use Rattle.hs_law_run.proofs.Prelude.{Sheet, range_with_len, and_parts, length-map, length-range_with_len, slice_get-map, slice_get_within, same_Some, all_at, all_each, range_at, HaveWeights, is_declared, MIN_SIZE, PlainJournal, PlacesMatch, ListsHaveTheirChunks, sheets_of, CanReport, PlainWorkload, ClientSends, sheet_of, client_sends, node_sends, operations_at, draws_at, place_of, timed_pages, NodeRun, ComesByEvents, is_known, Speaks, ClientId, Draw, DrawnPage, TimedPage, drawn_from}
use Rattle.hs_law_agent.specs.Laws.{AllStandByClaim, ChunksStandByTheirClaim}
use Rattle.hs_law_agent.specs.State.{ClaimedTrace}
use Rattle.hs_client.specs.Laws.{PagesFit}
use Rattle.hs_words.specs.Chunks.{used_of}
use Rattle.hs_law_journal.proofs.Pinned.{AreDeclared, can_report}
use Rattle.hs_law_run.proofs.Held.{HoldsAt}
use Rattle.hs_law_run.proofs.Holding.{page_found}

-- a page that was drawn is one of the pages, with one of the draws
record DrawnAt (pages : List TimedPage) (draws : List Draw) (j : ℕ) (d : DrawnPage) : Type 0 where
  page : TimedPage
  there : slice_get pages j ≡ Some page
  plain : d.page ≡ page.page
  started : d.started ≡ page.started
  draw : slice_get draws j ≡ Some d.draw

drawn_at : (client : ClientId) (k : ℕ) (pages : List TimedPage) (draws : List Draw) (j : ℕ) (d : DrawnPage) → slice_get (drawn_from client k pages draws) j ≡ Some d → DrawnAt pages draws j d
drawn_at client k [] draws j d h = let never : None ≡ Some d = h in absurd cc
drawn_at client k (page ∷ pages) [] j d h = let never : None ≡ Some d = h in absurd cc
drawn_at client k (page ∷ pages) (draw ∷ draws) zero d h =
    let same = same_Some _ d h in
    record {
      page = page;
      there = refl;
      plain = ap (λ (d : DrawnPage). d.page) (sym same);
      started = ap (λ (d : DrawnPage). d.started) (sym same);
      draw = ap (λ (d : DrawnPage). Some d.draw) same;
    }
drawn_at client k (page ∷ pages) (draw ∷ draws) (suc j) d h = let rest = drawn_at client (k + 1) pages draws j d h in record { page = rest.page; there = rest.there; plain = rest.plain; started = rest.started; draw = rest.draw }

module _ (places : ListsHaveTheirChunks) (claims : ChunksStandByTheirClaim) (fit : PagesFit) (W : PlainWorkload) (J : PlainJournal) (least : MIN_SIZE ≤ W.settings.size) (weights : HaveWeights W.settings.triggers) (i : ℕ) (nodes : List NodeRun) (run : NodeRun)
    (comes : ComesByEvents W.settings run) (holds : HoldsAt W.settings run) (sends : run.sends ≡ node_sends W J i) (speaks : Speaks W.settings nodes run)
  where
    -- no page that was taken has more than the size
    page_few : (place : ℕ) (sheet : Sheet) → slice_get (sheets_of run.state.taken) place ≡ Some sheet → used_of sheet ≤ W.settings.size
    page_few place sheet at =
        let d = holds.drawn place sheet at in
        let f = page_found run.sends sheet d.page d.there in
        let c = sheet.header.client.number in
        let there : slice_get (node_sends W J i) c ≡ Some f.client = ap (λ (all : List ClientSends). slice_get all c) (sym sends) ∙ f.there in
        let short = slice_get_within (node_sends W J i) c f.client there in
        let count = length-map (range_with_len 0 W.settings.clients) (client_sends W J i) ∙ length-range_with_len 0 W.settings.clients in
        let low : c < W.settings.clients = omega (arith, short, count) in
        let zeroth : 0 + c ≡ c = omega arith in
        let same : f.client ≡ client_sends W J i c =
        same_Some f.client (client_sends W J i c)
        (sym there ∙ slice_get-map (client_sends W J i) (range_with_len 0 W.settings.clients) c ∙ ap (option_map (client_sends W J i)) (range_at 0 W.settings.clients c low ∙ ap Some zeroth))
        in
        let place_c = place_of W.settings.clients i c in
        let a = drawn_at (record { node = i; number = c }) 0 (timed_pages W.settings.size (operations_at W place_c)) (draws_at J place_c) sheet.header.page d.page (ap (λ (s : ClientSends). slice_get s.drawn sheet.header.page) (sym same) ∙ f.is) in
        let fits = all_at _ (timed_pages W.settings.size (operations_at W place_c)) sheet.header.page a.page (fit W.settings.size (operations_at W place_c) least) a.there d.page.client d.page.number in
        let used : used_of sheet ≡ used_of (sheet_of (record d.page { page = a.page.page })) = ap used_of (sym d.is) ∙ ap (λ plain. used_of (sheet_of (record d.page { page = plain }))) a.plain in
        omega (arith, fits, used)

    claims_declared : AreDeclared W.settings run.state.claims
    claims_declared =
        all_each (λ (claim : ClaimedTrace). is_known W.settings nodes claim.group ≡ true) (λ (claim : ClaimedTrace). is_declared W.settings.triggers claim.group.trigger ≡ true) run.state.claims
        (λ claim known. (and_parts _ (is_declared W.settings.triggers claim.group.trigger) known).1) speaks.claims

    pub reports_pinned : (place : ℕ) (others : List ℕ) → run.state.pinned ≡ place ∷ others → CanReport W.settings run.state
    reports_pinned =
        can_report W.settings run.state weights (subst PlacesMatch (sym comes) (places W.settings run.node run.events)) (subst (λ s. AllStandByClaim s.claims s.taken) (sym comes) (claims W.settings run.node run.events)) claims_declared
        speaks.shares page_few
