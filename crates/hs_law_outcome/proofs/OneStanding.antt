-- In the end an agent has taken all chunks that its clients sent, in order, so the page of each stands once in its book.
use Rattle.std.proofs.Common.{◌≡◌, ℕ, zero, suc, ◌+◌, ◌<◌, ◌≤◌, Bool, true, false, ◌&&◌, cond, List, [], ◌∷◌, ◌++◌, length, refl, sym, ap, ap₂, ◌∙◌, Some, None, arith, map, filter, slice_get, nat_eq, eqb-true, eq-eqb, append-nil}
use Rattle.hs_law_outcome.proofs.Prelude.{slice_get_within, AllByRecursion, flat_map, range_with_len, and_parts, length-map, All-from_recursion, recursion_from_All, same_Some, ClientId, Standing, Draw, Got, PlainClientBook, PlainAgentBook, PlainJournal, standings_if, standings_at, page_standing, book_of, sheets_of, Taken, Operation, PlainWorkload, drawn_from, TimedPagesAreThePages, Sent, ClientSends, sent_chunks, operations_at, draws_at, TimedPage, timed_pages, Sheet, RunsAreOfTheJournal, NodeRun, followed, IsLawful, FollowingPlaysOut, is_by, ChunksAreTakenInOrder, StandsAlone, BooksOfClientsFit, StandingsAreOfGotPages, HasItsClients, client_at, client_book, client_books, agent_books, EndsItsTraces}
use Rattle.hs_base.proofs.Filters.{filter_weaker}
use Rattle.hs_records.specs.declared.journal.Draw.TheVariants.{Empty}
use Rattle.hs_ledger.specs.Books.{BookFits, HaveStandings, is_of}
use Rattle.hs_law_outcome.specs.Books.{EachGotPageHasOneStanding, BooksFitTogether}
use Rattle.hs_law_outcome.proofs.Entries.{ends_at, same_length, shape_counts}
use Rattle.hs_law_outcome.proofs.Origins as origins

-- ---- filters

module _ {X : Type 0} where
  passes_case : (p q : X → Bool) (x : X) (xs : List X) (a b : Bool) → q x ≡ a → p x ≡ b → (b ≡ true → a ≡ true) → filter p (filter q xs) ≡ filter p xs → filter p (cond a (x ∷ filter q xs) (filter q xs)) ≡ cond b (x ∷ filter p xs) (filter p xs)
  passes_case p q x xs true b e f on rest = ap (λ (b : Bool). cond b (x ∷ filter p (filter q xs)) (filter p (filter q xs))) f ∙ ap (λ kept. cond b (x ∷ kept) kept) rest
  passes_case p q x xs false true e f on rest = let no : false ≡ true = on refl in absurd cc
  passes_case p q x xs false false e f on rest = rest

module _ {X Y : Type 0} where
  counted_case : (f : X → Y) (x : X) (kept : List X) (more : List Y) (b : Bool) → length kept ≡ length more → length (cond b (x ∷ kept) kept) ≡ length (cond b (f x ∷ more) more)
  counted_case f x kept more true same = ap suc same
  counted_case f x kept more false same = same

  filter_counted : (p : Y → Bool) (f : X → Y) (xs : List X) → length (filter (λ x. p (f x)) xs) ≡ length (filter p (map f xs))
  filter_counted p f [] = refl
  filter_counted p f (x ∷ xs) = counted_case f x (filter (λ x. p (f x)) xs) (filter p (map f xs)) (p (f x)) (filter_counted p f xs)

-- ---- the chunks of one client

-- whether a page is this one of this client
abbrev is_page : ClientId → ℕ → Sheet → Bool
is_page client page sheet = nat_eq sheet.header.client.node client.node && nat_eq sheet.header.client.number client.number && nat_eq sheet.header.page page

abbrev items : List (Sent Sheet) → List Sheet
items sent = map (λ (item : Sent Sheet). item.item) sent

same_false : (a b : ℕ) → (a ≡ b → ⊥) → nat_eq a b ≡ false
same_false a b differ = either (nat_eq a b) refl
  where
    either : (t : Bool) → nat_eq a b ≡ t → nat_eq a b ≡ false
    either true e = absurd (differ (eqb-true a b e))
    either false e = e

module _ (client : ClientId) where
  own : (nat_eq client.node client.node && nat_eq client.number client.number) ≡ true
  own = ap₂ (λ a b. a && b) (eq-eqb client.node client.node refl) (eq-eqb client.number client.number refl)

  -- a page of a lower number is not there
  none_there : (k page : ℕ) (timed : List TimedPage) (draws : List Draw) → page < k → filter (is_page client page) (items (sent_chunks (drawn_from client k timed draws))) ≡ []
  none_there k page [] draws low = refl
  none_there k page (t ∷ timed) [] low = refl
  none_there k page (t ∷ timed) (Empty stamp ∷ draws) low = none_there (k + 1) page timed draws (omega (arith, low))
  none_there k page (t ∷ timed) (Got buffer stamp ∷ draws) low =
      let other : nat_eq k page ≡ false = same_false k page (λ same. omega (arith, low, same)) in
      rw (own, other) (none_there (k + 1) page timed draws (omega (arith, low)))

  -- a page with a buffer is there once
  one_there : (k at : ℕ) (timed : List TimedPage) (draws : List Draw) (buffer stamp : ℕ) → slice_get draws at ≡ Some (Got buffer stamp) → at < length timed
      → length (filter (is_page client (k + at)) (items (sent_chunks (drawn_from client k timed draws)))) ≡ 1
  one_there k at [] draws buffer stamp h low = absurd (omega (arith, low))
  one_there k at (t ∷ timed) [] buffer stamp h low = let no : None ≡ Some (Got buffer stamp) = h in absurd cc
  one_there k zero (t ∷ timed) (Empty other ∷ draws) buffer stamp h low = let no : Empty other ≡ Got buffer stamp = same_Some (Empty other) (Got buffer stamp) h in absurd cc
  one_there k zero (t ∷ timed) (Got b s ∷ draws) buffer stamp h low =
      let same : nat_eq k (k + 0) ≡ true = eq-eqb k (k + 0) (omega arith) in
      rw (own, same) (ap (λ (rest : List Sheet). suc (length rest)) (none_there (k + 1) (k + 0) timed draws (omega arith)))
  one_there k (suc at) (t ∷ timed) (Empty other ∷ draws) buffer stamp h low =
      let more : k + 1 + at ≡ k + suc at = omega arith in
      ap (λ (page : ℕ). length (filter (is_page client page) (items (sent_chunks (drawn_from client (k + 1) timed draws))))) (sym more) ∙ one_there (k + 1) at timed draws buffer stamp h (omega (arith, low))
  one_there k (suc at) (t ∷ timed) (Got b s ∷ draws) buffer stamp h low =
      let more : k + 1 + at ≡ k + suc at = omega arith in
      let other : nat_eq k (k + suc at) ≡ false = same_false k (k + suc at) (λ same. omega (arith, same)) in
      rw (own, other) (ap (λ (page : ℕ). length (filter (is_page client page) (items (sent_chunks (drawn_from client (k + 1) timed draws))))) (sym more) ∙ one_there (k + 1) at timed draws buffer stamp h (omega (arith, low)))

-- ---- the standings at a node

abbrev numbers_in : List NodeRun → List ℕ
numbers_in nodes = map (λ (node : NodeRun). node.node) nodes

abbrev book : NodeRun → PlainAgentBook
book node = book_of node.node node.state

not_theirs : (nodes : List NodeRun) (v start count : ℕ) → numbers_in nodes ≡ range_with_len start count → v < start → flat_map (standings_if v) (map book nodes) ≡ []
not_theirs [] v start count are low = refl
not_theirs (node ∷ nodes) v start zero are low = let no : node.node ∷ numbers_in nodes ≡ [] = are in absurd cc
not_theirs (node ∷ nodes) v start (suc count) are low =
    let both : node.node ∷ numbers_in nodes ≡ start ∷ range_with_len (start + 1) count = are in
    let first : node.node ≡ start = cc in
    let rest : numbers_in nodes ≡ range_with_len (start + 1) count = cc in
    let other : nat_eq node.node v ≡ false = same_false node.node v (λ same. omega (arith, first, same, low)) in
    ap (λ (b : Bool). cond b (map page_standing node.state.taken) [] ++ flat_map (standings_if v) (map book nodes)) other
    ∙ not_theirs nodes v (start + 1) count rest (omega (arith, low))

-- where nodes are numbered, those of one node's book
standings_are : (nodes : List NodeRun) (v start count i : ℕ) (node : NodeRun) → numbers_in nodes ≡ range_with_len start count → v ≡ start + i → slice_get nodes i ≡ Some node
    → flat_map (standings_if v) (map book nodes) ≡ map page_standing node.state.taken
standings_are [] v start count i node are is h = let no : None ≡ Some node = h in absurd cc
standings_are (n ∷ nodes) v start zero i node are is h = let no : n.node ∷ numbers_in nodes ≡ [] = are in absurd cc
standings_are (n ∷ nodes) v start (suc count) zero node are is h =
    let both : n.node ∷ numbers_in nodes ≡ start ∷ range_with_len (start + 1) count = are in
    let first : n.node ≡ start = cc in
    let rest : numbers_in nodes ≡ range_with_len (start + 1) count = cc in
    let here : nat_eq n.node v ≡ true = eq-eqb n.node v (omega (arith, first, is)) in
    ap (λ (b : Bool). cond b (map page_standing n.state.taken) [] ++ flat_map (standings_if v) (map book nodes)) here
    ∙ ap (λ (more : List Standing). map page_standing n.state.taken ++ more) (not_theirs nodes v (start + 1) count rest (omega (arith, is)))
    ∙ append-nil (map page_standing n.state.taken)
    ∙ ap (λ (n : NodeRun). map page_standing n.state.taken) (same_Some n node h)
standings_are (n ∷ nodes) v start (suc count) (suc i) node are is h =
    let both : n.node ∷ numbers_in nodes ≡ start ∷ range_with_len (start + 1) count = are in
    let first : n.node ≡ start = cc in
    let rest : numbers_in nodes ≡ range_with_len (start + 1) count = cc in
    let other : nat_eq n.node v ≡ false = same_false n.node v (λ same. omega (arith, first, same, is)) in
    ap (λ (b : Bool). cond b (map page_standing n.state.taken) [] ++ flat_map (standings_if v) (map book nodes)) other
    ∙ standings_are nodes v (start + 1) count i node rest (omega (arith, is)) h

-- ---- one standing

module _ (plays : FollowingPlaysOut) (runs : RunsAreOfTheJournal) (order : ChunksAreTakenInOrder) (timed : TimedPagesAreThePages) (W : PlainWorkload) (J : PlainJournal) (ends : EndsItsTraces W)
    (laid : HasItsClients W) (lawful : IsLawful W J) where
  module _ (place : ℕ) (below : place < length W.clients) where
    abbrev client : ClientId
    client = client_at W.settings.clients place

    abbrev node : NodeRun
    node = (origins.node_there plays runs order timed W J ends laid lawful place below).0

    node_is : slice_get (followed W J).nodes client.node ≡ Some node
    node_is = (origins.node_there plays runs order timed W J ends laid lawful place below).1

    abbrev sends : ClientSends
    sends = origins.own_sends plays runs order timed W J ends laid lawful place below

    abbrev ops : List Operation
    ops = operations_at W place

    -- the client has a page for each draw
    page_for : (page buffer stamp : ℕ) → slice_get (draws_at J place) page ≡ Some (Got buffer stamp) → page < length (timed_pages W.settings.size ops)
    page_for page buffer stamp got =
        let low = slice_get_within (draws_at J place) page (Got buffer stamp) got in
        let drawn = same_length J.draws W.clients W.settings.size place (shape_counts W J lawful.L1) in
        let mapped = length-map (timed_pages W.settings.size ops) (λ (p : TimedPage). p.page) in
        let pages = ap length (timed W.settings.size ops (ends_at W.clients place ends.ends)) in
        omega (arith, low, drawn, mapped, pages)

    one_standing : HaveStandings (agent_books (followed W J)) (client_book W J place)
    one_standing page buffer stamp got =
        let run = followed W J in
        let test : Sheet → Bool = is_page client page in
        let here : client.node ≡ 0 + client.node = omega arith in
        let zeroth : 0 + page ≡ page = omega arith in
        let standings : standings_at (agent_books run) client.node ≡ map page_standing node.state.taken =
        standings_are run.nodes client.node 0 W.settings.nodes client.node node (origins.numbers plays runs W J) here node_is
        in
        let by_sheets : length (filter (is_of client page) (map page_standing node.state.taken)) ≡ length (filter test (sheets_of node.state.taken)) =
        sym (filter_counted (is_of client page) page_standing node.state.taken) ∙ filter_counted test (λ (chunk : Taken). chunk.sheet) node.state.taken
        in
        let weaker = filter_weaker test (is_by client.number)
        (λ sheet is.
        (and_parts (nat_eq sheet.header.client.node client.node) (nat_eq sheet.header.client.number client.number)
        (and_parts (nat_eq sheet.header.client.node client.node && nat_eq sheet.header.client.number client.number) (nat_eq sheet.header.page page) is).0).1)
        (sheets_of node.state.taken)
        in
        let back = origins.back plays runs order timed W J ends laid lawful place below in
        ap (λ (standings : List Standing). length (filter (is_of client page) standings)) standings
        ∙ by_sheets
        ∙ ap length (sym weaker)
        ∙ ap (λ (sheets : List Sheet). length (filter test sheets)) (origins.all_there plays runs order timed W J ends laid lawful place below)
        ∙ ap (λ (at : ℕ). length (filter test (items (sent_chunks (drawn_from client 0 (timed_pages W.settings.size (operations_at W at)) (draws_at J at)))))) back
        ∙ ap (λ (page : ℕ). length (filter (is_page client page) (items (sent_chunks (drawn_from client 0 (timed_pages W.settings.size ops) (draws_at J place)))))) (sym zeroth)
        ∙ one_there client 0 page (timed_pages W.settings.size ops) (draws_at J place) buffer stamp got (page_for page buffer stamp got)

  -- ---- all clients

  each_standing : (start count : ℕ) → start + count ≤ length W.clients → AllByRecursion (HaveStandings (agent_books (followed W J))) (map (client_book W J) (range_with_len start count))
  each_standing start zero h = tt
  each_standing start (suc count) h = (one_standing start (omega (arith, h)), each_standing (start + 1) count (omega (arith, h)))

  have_standings : AllByRecursion (HaveStandings (agent_books (followed W J))) (client_books W J)
  have_standings = each_standing 0 (length W.clients) (omega arith)

pub each_got_page_has_one_standing : FollowingPlaysOut → RunsAreOfTheJournal → ChunksAreTakenInOrder → TimedPagesAreThePages → EachGotPageHasOneStanding
each_got_page_has_one_standing plays runs order timed W J ends laid lawful =
    All-from_recursion (HaveStandings (agent_books (followed W J))) (client_books W J) (have_standings plays runs order timed W J ends laid lawful)

each_fits : (agents : List PlainAgentBook) (books : List PlainClientBook) → AllByRecursion StandsAlone books → AllByRecursion (HaveStandings agents) books → AllByRecursion (BookFits agents) books
each_fits agents [] alone standings = tt
each_fits agents (book ∷ books) alone standings =
    (record { drawn = alone.0.drawn; counted = alone.0.counted; numbered = alone.0.numbered; standing = standings.0 }, each_fits agents books alone.1 standings.1)

pub books_fit : BooksOfClientsFit → StandingsAreOfGotPages → EachGotPageHasOneStanding → BooksFitTogether
books_fit fit got one W J ends laid lawful few =
    let clients = fit W J ends laid lawful.L1 in
    let agents = agent_books (followed W J) in
    record {
      ordered = clients.ordered;
      each = All-from_recursion (BookFits agents) (client_books W J)
          (each_fits agents (client_books W J) (recursion_from_All StandsAlone (client_books W J) clients.each) (recursion_from_All (HaveStandings agents) (client_books W J) (one W J ends laid lawful)));
      few = let total = clients.total in omega (arith, total, few);
      got = got W J laid;
    }
