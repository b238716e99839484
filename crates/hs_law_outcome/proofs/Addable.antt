-- The reported pages can be added to a collector: those of one client differ in number, those of one client and trace go on one behind
-- another, and no page goes past the last record.
use Rattle.std.proofs.Common.{◌≡◌, ◌⊎◌, inl, inr, ℕ, zero, suc, ◌+◌, ◌<◌, ◌≤◌, ◌^◌, false, eq-or-lt_of_le, List, [], ◌∷◌, ◌++◌, length, sym, ap, subst, ◌∙◌, Some, arith, slice_get}
use Rattle.hs_law_outcome.proofs.Prelude.{AllByRecursion, AllPairs, flat_map, range_with_len, length-map, length-append, All-from_recursion, same_Some, all_by_place, all_each_both, all_each, all_filter, ClientId, written, sheet_for, GoesOn, KeepsRuns, ClientsPagesRise, PagesHoldThePieces, PlainPage, first_record, pages_of, Operation, PlainWorkload, AreBracketed, records_of, TimedPagesAreThePages, operations_at, place_of, Sheet, RunsAreOfTheJournal, AgentsComeByEvents, FollowingPlaysOut, TakenPagesRise, IsClientsPage, HasItsClients, TakenPagesWereDrawn, client_at, outcome_of, EndsItsTraces, client_records, all_records}
use Rattle.std.proofs.lemmas.List.Kept.{AllPairs-cons}
use Rattle.hs_collect.specs.Collected.{CanPrecede, CanBeAdded, end_of, is_by}
use Rattle.hs_collect.proofs.Reordered.{own_run}
use Rattle.hs_law_outcome.specs.CollectedReports.{ReportedPagesCanBeCollected}
use Rattle.hs_law_outcome.proofs.ClientBooks.{length_named}
use Rattle.hs_law_outcome.proofs.ClientPages.{page_carries, ends_within, goes_on}
use Rattle.hs_law_outcome.proofs.Entries.{PagesCarryTheRecords, ends_at}
use Rattle.hs_law_outcome.proofs.GotPages.{place_below}
use Rattle.hs_law_outcome.proofs.Origins.{unfilter}
use Rattle.hs_law_outcome.proofs.ReportedRuns.{Above, RunsRise, reported_rise, reported_paged}

-- ---- lists

part_length : {X : Type 0} (f : ℕ → List X) (start count place : ℕ) → start ≤ place → place < start + count → length (f place) ≤ length (flat_map f (range_with_len start count))
part_length f start zero place low high = absurd (omega (arith, low, high))
part_length {X = X} f start (suc count) place low high = either (λ later. part_length f (start + 1) count place later (omega (arith, high))) (eq-or-lt_of_le low)
  where
    rest : List X
    rest = flat_map f (range_with_len (start + 1) count)

    either : (start + 1 ≤ place → length (f place) ≤ length rest) → (start ≡ place) ⊎ (start < place) → length (f place) ≤ length (f start ++ rest)
    either on (inl same) = let here = ap (λ n. length (f n)) same in let sum = length-append (f start) rest in omega (arith, here, sum)
    either on (inr later) = let there = on (omega (arith, later)) in let sum = length-append (f start) rest in omega (arith, there, sum)

-- ---- what holds in one order of the runs holds in another

pub along : (P : Sheet → Type 0) (sheets others : List Sheet) → KeepsRuns sheets others → AllByRecursion P sheets → AllByRecursion P others
along P sheets others kept all =
    all_by_place P others
    (λ i sheet h.
    let its = is_by sheet.header.client sheet.header.trace in
    unfilter P its others i sheet h (own_run sheet) (subst (AllByRecursion P) (kept sheet.header.client sheet.header.trace) (all_filter P its sheets all)))

-- ---- two pages

module _ (carried : PagesCarryTheRecords) (held : PagesHoldThePieces) (W : PlainWorkload) (ends : EndsItsTraces W) where
  abbrev ops_of : ClientId → List Operation
  ops_of client = operations_at W (place_of W.settings.clients client.node client.number)

  brackets : (client : ClientId) → AreBracketed false (ops_of client)
  brackets client = ends_at W.clients (place_of W.settings.clients client.node client.number) ends.ends

  page_there : (client other : ClientId) (number : ℕ) (page : PlainPage) → client ≡ other → slice_get (pages_of W.settings.size (ops_of other)) number ≡ Some page → slice_get (pages_of W.settings.size (ops_of client)) number ≡ Some page
  page_there client other number page same h = subst (λ (c : ClientId). slice_get (pages_of W.settings.size (ops_of c)) number ≡ Some page) (sym same) h

  pair : (a b : Sheet) → IsClientsPage W a → IsClientsPage W b → Above a b → CanPrecede a b
  pair a b p q above =
      record {
        differ = λ client page.
            let there = page_there a.header.client b.header.client b.header.page q.page client q.there in
            let same : p.page ≡ q.page = same_Some p.page q.page (sym p.there ∙ ap (slice_get (pages_of W.settings.size (ops_of a.header.client))) page ∙ there) in
            let trace : b.header.trace ≡ a.header.trace = ap (λ (s : Sheet). s.header.trace) q.is ∙ ap (λ (p : PlainPage). p.trace) (sym same) ∙ ap (λ (s : Sheet). s.header.trace) (sym p.is) in
            let less = above (sym client) trace in
            absurd (omega (arith, less, page));
        rise = λ client trace.
            let less = above (sym client) (sym trace) in
            let there = page_there a.header.client b.header.client b.header.page q.page client q.there in
            let goes = goes_on carried W.settings.size (ops_of a.header.client) ends.size (brackets a.header.client) held a.header.client a.header.page b.header.page p.page q.page less p.there there in
            let last : sheet_for a.header.client b.header.page q.page ≡ b = ap (λ (c : ClientId). sheet_for c b.header.page q.page) client ∙ sym q.is in
            (less, subst (λ (s : Sheet). GoesOn s b) (sym p.is) (subst (GoesOn (sheet_for a.header.client a.header.page p.page)) last goes));
      }

  pairs : (sheets : List Sheet) → RunsRise sheets → AllByRecursion (IsClientsPage W) sheets → AllPairs CanPrecede sheets
  pairs [] rise all = λ i j d lt within. absurd (omega arith)
  pairs (sheet ∷ sheets) rise all =
      AllPairs-cons CanPrecede sheet sheets
      (All-from_recursion (CanPrecede sheet) sheets (all_each_both (IsClientsPage W) (Above sheet) (CanPrecede sheet) sheets (λ later q above. pair sheet later all.0 q above) all.1 rise.0))
      (pairs sheets rise.1 all.1)

  has_piece : (sheet : Sheet) → IsClientsPage W sheet → 0 < length sheet.pieces
  has_piece sheet p =
      let carries = page_carries carried W.settings.size (ops_of sheet.header.client) ends.size (brackets sheet.header.client) sheet.header.page p.page p.there in
      let some = carries.some in
      let pieces : length sheet.pieces ≡ length p.page.pieces = ap (λ (s : Sheet). length s.pieces) p.is ∙ length-map p.page.pieces written in
      omega (arith, some, pieces)

  module _ (laid : HasItsClients W) where
    few_there : (node number : ℕ) → node < W.settings.nodes → number < W.settings.clients → length (records_of (operations_at W (place_of W.settings.clients node number))) ≤ length (all_records W)
    few_there node number low below =
        let place = place_of W.settings.clients node number in
        let within = place_below W.settings.clients node number below W.settings.nodes low in
        let all = laid in
        let one : length (client_records W place) ≤ length (all_records W) = part_length (client_records W) 0 (length W.clients) place (omega arith) (omega (arith, within, all)) in
        let named = length_named (client_at W.settings.clients place) 0 (records_of (operations_at W place)) in
        omega (arith, one, named)

    fits : (sheet : Sheet) → length (all_records W) ≤ 2 ^ 32 → IsClientsPage W sheet → end_of sheet ≤ 2 ^ 32
    fits sheet few p =
        let within = ends_within carried W.settings.size (ops_of sheet.header.client) ends.size (brackets sheet.header.client) sheet.header.page p.page p.there in
        let most = few_there sheet.header.client.node sheet.header.client.number p.node p.number in
        let first : sheet.header.first ≡ first_record p.page = ap (λ (s : Sheet). s.header.first) p.is in
        let pieces : length sheet.pieces ≡ length p.page.pieces = ap (λ (s : Sheet). length s.pieces) p.is ∙ length-map p.page.pieces written in
        omega (arith, within, most, first, pieces, few)

    can_be_added : (sheets : List Sheet) → length (all_records W) ≤ 2 ^ 32 → RunsRise sheets → AllByRecursion (IsClientsPage W) sheets → CanBeAdded sheets
    can_be_added sheets few rise all =
        record {
          pairs = pairs sheets rise all;
          fits = All-from_recursion (λ (sheet : Sheet). end_of sheet ≤ 2 ^ 32) sheets (all_each (IsClientsPage W) (λ (sheet : Sheet). end_of sheet ≤ 2 ^ 32) sheets (λ sheet p. fits sheet few p) all);
        }

pub reported_pages_can_be_collected : FollowingPlaysOut → RunsAreOfTheJournal → TimedPagesAreThePages → TakenPagesWereDrawn → TakenPagesRise → ClientsPagesRise → AgentsComeByEvents → PagesCarryTheRecords → PagesHoldThePieces
    → ((sheets others : List Sheet) → KeepsRuns sheets others → CanBeAdded sheets → CanBeAdded others) → ReportedPagesCanBeCollected
reported_pages_can_be_collected plays runs timed drawn risen clients_rise comes carried held decide W J sheets ends laid lawful few kept =
    let paged = reported_paged plays runs timed drawn W J ends in
    record {
      some =
          All-from_recursion (λ (sheet : Sheet). 0 < length sheet.pieces) sheets
          (all_each (IsClientsPage W) (λ (sheet : Sheet). 0 < length sheet.pieces) sheets (has_piece carried held W ends) (along (IsClientsPage W) (outcome_of W J).reported sheets kept paged));
      added = decide (outcome_of W J).reported sheets kept
          (can_be_added carried held W ends laid (outcome_of W J).reported few (reported_rise plays runs timed drawn risen clients_rise comes W J ends) paged);
    }
