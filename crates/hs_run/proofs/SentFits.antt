-- What the clients of a run sent: of each kind no more than a workload has, and pages that fit.
use Rattle.std.proofs.Common.{◌≡◌, ℕ, zero, suc, ◌+◌, ◌*◌, ◌<◌, ◌≤◌, List, [], ◌∷◌, ◌++◌, length, map, filter, nat_lt, refl, sym, ap, subst, ◌∙◌, None, Some, arith, slice_get, unwrap_or}
use Rattle.hs_run.proofs.Prelude.{AllByRecursion, length-map, sum_by-cons, get_there, ClientId, client_of, MAX_OPERATIONS, sent, Operation, PlainWorkload, operations_at, place_of, TimedPage, timed_pages, Leased, Buffer, Sheet, PlainClientActor, ClientActorIsAt, RunState, RunStands, PlainNodeActors, sents_at}
use Rattle.std.specs.List.{sum_by}
use Rattle.hs_agent.specs.Points.{sheet_in}
use Rattle.hs_client.specs.Calls.{sheet_for}
use Rattle.hs_records.specs.declared.journal.Draw.{Draw}
use Rattle.hs_base.proofs.Alls.{all_filter, all_map, all_unmap}
use Rattle.hs_base.proofs.Filters.{filter_few}
use Rattle.hs_law_journal.specs.Known.{PiecesCounted}
use Rattle.hs_law_journal.proofs.FewSent.{chunks_few, drawn_few, sends_few}
use Rattle.hs_law_journal.proofs.Sizes.{all_few, client_few}
use Rattle.hs_law_journal.proofs.Workloads.{ends_at}
use Rattle.hs_law_run.specs.Clauses.{ValidWorkloadsRun}
use Rattle.hs_client.specs.Drawn.{DrawnPage, drawn_from, has_buffer}
use Rattle.hs_client.specs.Laws.{PagesFit, TimedPagesAreThePages}
use Rattle.hs_client.specs.OneMore.{items_of}
use Rattle.hs_client.specs.Sending.{Sent, sends_of, sent_chunks, sent_within, sheet_of}
use Rattle.hs_records.specs.Pages.{pages_of}
use Rattle.hs_run.proofs.Chunks.{sheets_are}
use Rattle.hs_words.specs.Chunks.{used_of}
use Rattle.hs_run.specs.Closings.{SentsFit}
use Rattle.hs_run.proofs.Starting.{HaveSent, are_sents}

-- what is known of workloads and their pages
pub record Known : Type 0 where
  pub runs : ValidWorkloadsRun
  pub counted : PiecesCounted
  pub paged : TimedPagesAreThePages
  pub fit : PagesFit

-- ---- pages

drawn_fit : (size : ℕ) (client : ClientId) (number : ℕ) (pages : List TimedPage) (draws : List Draw) → AllByRecursion (λ (p : TimedPage). (client : ClientId) (number : ℕ) → used_of (sheet_for client number p.page) ≤ size) pages
    → AllByRecursion (λ (d : DrawnPage). used_of (sheet_of d) ≤ size) (drawn_from client number pages draws)
drawn_fit size client number [] draws fit = tt
drawn_fit size client number (page ∷ pages) [] fit = tt
drawn_fit size client number (page ∷ pages) (draw ∷ draws) fit = (fit.0 client number, drawn_fit size client (number + 1) pages draws fit.1)

-- ---- a client among the others

sum_has : (f : List Operation → ℕ) → f [] ≡ 0 → (clients : List (List Operation)) (place : ℕ) → f (unwrap_or (slice_get clients place) []) ≤ sum_by f clients
sum_has f none [] place = omega (arith, none)
sum_has f none (ops ∷ clients) zero = let first = sum_by-cons f ops clients in omega (arith, first)
sum_has f none (ops ∷ clients) (suc place) = let first = sum_by-cons f ops clients in let rest = sum_has f none clients place in omega (arith, first, rest)

items_few : {A : Type 0} (items : List A) (all : List (Sent A)) (done : ℕ) → items ≡ items_of (sent_within done all) → length items ≤ length all
items_few {A} items all done is =
    let mapped = ap length is ∙ length-map (sent_within done all) (λ (item : Sent A). item.item) in let few = filter_few (λ (item : Sent A). nat_lt item.number done) all in omega (arith, mapped, few)

module _ (known : Known) (W : PlainWorkload) (m : RunState) (stands : RunStands W m) (sends : HaveSent) where
  -- what one client sent
  record Fits (place : ℕ) (caller : PlainClientActor) : Type 0 where
    chunks : length (sent caller.client.chunks) ≤ 2 * MAX_OPERATIONS
    crumbs : length (sent caller.client.crumbs) ≤ MAX_OPERATIONS
    triggers : length (sent caller.client.triggers) ≤ MAX_OPERATIONS
    fit : AllByRecursion (λ (buffer : Buffer Leased). used_of (sheet_in buffer) ≤ W.settings.size) (sent caller.client.chunks)

  client_fits : (client : ClientId) (place : ℕ) (caller : PlainClientActor) → ClientActorIsAt W.settings client (operations_at W place) caller → Fits place caller
  client_fits client place caller at =
      let size = W.settings.size in
      let ops = operations_at W place in
      let valid = stands.valid in
      let runs = known.runs W valid in
      let so = sends W.settings client ops caller at in
      let draws = caller.client.core.draws ++ [] in
      let drawn = drawn_from client 0 (timed_pages size ops) draws in
      let all = sent_chunks drawn in
      let sheets = sheets_are (sent caller.client.chunks) (items_of (sent_within caller.done all)) (so.chunks []) in
      let fit_pages = drawn_fit size client 0 (timed_pages size ops) draws (known.fit size ops runs.size) in
      let fit_items : AllByRecursion (λ (item : Sent Sheet). used_of item.item ≤ size) all =
      all_map (λ (item : Sent Sheet). used_of item.item ≤ size) (λ (d : DrawnPage). record { number = d.sent; item = sheet_of d }) (filter (λ (d : DrawnPage). has_buffer d.draw) drawn)
      (all_filter (λ (d : DrawnPage). used_of (sheet_of d) ≤ size) (λ (d : DrawnPage). has_buffer d.draw) drawn fit_pages)
      in
      let fit_sheets : AllByRecursion (λ (sheet : Sheet). used_of sheet ≤ size) (items_of (sent_within caller.done all)) =
      all_map (λ (sheet : Sheet). used_of sheet ≤ size) (λ (item : Sent Sheet). item.item) (sent_within caller.done all)
      (all_filter (λ (item : Sent Sheet). used_of item.item ≤ size) (λ (item : Sent Sheet). nat_lt item.number caller.done) all fit_items)
      in
      let mapped = sym (length-map (sent caller.client.chunks) sheet_in) in
      let few_chunks = items_few (map sheet_in (sent caller.client.chunks)) all caller.done sheets in
      let few_sent = chunks_few drawn in
      let few_drawn = drawn_few client 0 (timed_pages size ops) draws in
      let pages = sym (length-map (timed_pages size ops) (λ (p : TimedPage). p.page)) ∙ ap length (known.paged size ops (ends_at W.clients place runs.laid.ends)) in
      let has = sum_has (λ ops. length (pages_of size ops) + length ops) refl W.clients place in
      let every = all_few known.counted size W.clients runs.laid.ends in
      let most = valid.few in
      let operations = client_few known.counted size W.clients place in
      let others = sends_few W.settings.autos [] 0 None ops in
      let few_crumbs = items_few (sent caller.client.crumbs) (sends_of W.settings client ops caller.client.core.draws).crumbs caller.done so.crumbs in
      let few_triggers = items_few (sent caller.client.triggers) (sends_of W.settings client ops caller.client.core.draws).triggers caller.done so.triggers in
      record {
        chunks = omega (arith, mapped, few_chunks, few_sent, few_drawn, pages, has, every, most);
        crumbs = omega (arith, few_crumbs, others, operations, most);
        triggers = omega (arith, few_triggers, others, operations, most);
        fit = all_unmap (λ (sheet : Sheet). used_of sheet ≤ size) sheet_in (sent caller.client.chunks) (subst (AllByRecursion (λ (sheet : Sheet). used_of sheet ≤ size)) (sym sheets) fit_sheets);
      }

  record Found (node client : ℕ) : Type 0 where
    site : PlainNodeActors
    caller : PlainClientActor
    there : slice_get m.standing.nodes node ≡ Some site
    mine : slice_get site.callers client ≡ Some caller
    fits : Fits (place_of W.settings.clients node client) caller

  found : (node client : ℕ) → node < W.settings.nodes → client < W.settings.clients → Found node client
  found node client low own =
      let count = stands.count in
      let site = get_there m.standing.nodes node (omega (arith, low, count)) in
      let s = stands.each node site.0 site.1 in
      let many = s.count in
      let caller = get_there site.0.callers client (omega (arith, own, many)) in
      record { site = site.0; caller = caller.0; there = site.1; mine = caller.1; fits = client_fits (client_of node client) (place_of W.settings.clients node client) caller.0 (s.callers client caller.0 caller.1) }

  pub sents_fit : SentsFit W (sents_at m)
  sents_fit =
      record {
        chunks = λ node client low own. let f = found node client low own in let same = ap length ((are_sents m).chunks node client f.site f.caller f.there f.mine) in let few = f.fits.chunks in omega (arith, same, few);
        crumbs = λ node client low own. let f = found node client low own in let same = ap length ((are_sents m).crumbs node client f.site f.caller f.there f.mine) in let few = f.fits.crumbs in omega (arith, same, few);
        triggers = λ node client low own. let f = found node client low own in let same = ap length ((are_sents m).triggers node client f.site f.caller f.there f.mine) in let few = f.fits.triggers in omega (arith, same, few);
        fit = λ node client low own.
            let f = found node client low own in subst (AllByRecursion (λ (buffer : Buffer Leased). used_of (sheet_in buffer) ≤ W.settings.size)) (sym ((are_sents m).chunks node client f.site f.caller f.there f.mine)) f.fits.fit;
      }
