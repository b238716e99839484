-- The book of a node's client stands at the client's place, and a page of the node's clients that has a buffer is one of that book.
use Rattle.std.proofs.Common.{◌≡◌, ◌⊎◌, inl, inr, ℕ, zero, suc, ◌+◌, ◌*◌, ◌/◌, ◌%◌, ◌<◌, ◌≤◌, true, false, List, [], ◌∷◌, length, All, Contains, refl, sym, ap, subst, ◌∙◌, Option, Some, None, arith, map, option_map, slice_get, div-lt_iff_lt-mul, div-add-mod', suc-mul}
use Rattle.hs_law_outcome.proofs.Prelude.{slice_index_or, AllByRecursion, range_with_len, option_and_then, length-map, length-range_with_len, All-from_recursion, slice_get-map, same_Some, option_unmap, range_at, ClientId, Draw, Got, PlainAgentBook, PlainJournal, page_standing, book_of, Taken, PlainWorkload, DrawnPage, has_buffer, drawn_from, ClientSends, client_sends, node_sends, draws_at, place_of, TimedPage, Sheet, IsOfJournal, RunsAreOfTheJournal, NodeRun, followed, FollowingPlaysOut, StandingsAreOfGotPages, HasItsClients, IsOfDrawnPage, TakenPagesWereDrawn, client_at, client_book, client_books, agent_books}
use Rattle.hs_records.specs.declared.journal.Draw.TheVariants.{Empty}
use Rattle.hs_ledger.specs.Books.{IsOfGotPage}
use Rattle.hs_law_outcome.proofs.ClientBooks.{compare}

-- ---- the place of a client

same_rest : (m a b x : ℕ) → m + a ≡ x → m + b ≡ x → a ≡ b
same_rest m a b x e f = omega (arith, e, f)

under : {X : Type 0} (m c : ℕ) → m + c < m → X
under m c h = absurd (omega (arith, h))

module _ (each node number : ℕ) (low : number < each) where
  some : 0 < each
  some = omega (arith, low)

  below : place_of each node number < suc node * each
  below = let more = suc-mul node each in omega (arith, more, low)

  node_is : place_of each node number / each ≡ node
  node_is = either (compare (place_of each node number / each) node)
    where
      either : (place_of each node number / each < node) ⊎ ((place_of each node number / each ≡ node) ⊎ (node < place_of each node number / each)) → place_of each node number / each ≡ node
      either (inl less) = under (node * each) number ((div-lt_iff_lt-mul {k = each} {x = place_of each node number} {y = node} some).0 less)
      either (inr (inl same)) = same
      either (inr (inr more)) = let up = (div-lt_iff_lt-mul {k = each} {x = place_of each node number} {y = suc node} some).1 below in absurd (omega (arith, up, more))

  number_is : place_of each node number % each ≡ number
  number_is =
      same_rest (node * each) (place_of each node number % each) number (place_of each node number)
      (ap (λ n. n * each + place_of each node number % each) (sym node_is) ∙ div-add-mod' (place_of each node number) each) refl

  pub client_is : client_at each (place_of each node number) ≡ record { node = node; number = number }
  client_is =
      ap (λ n. record { node = n; number = place_of each node number % each }) node_is
      ∙ ap (λ n. record { node = node; number = n }) number_is

  pub place_below : (nodes : ℕ) → node < nodes → place_of each node number < nodes * each
  place_below nodes h = (div-lt_iff_lt-mul {k = each} {x = place_of each node number} {y = nodes} some).0 (subst (λ n. n < nodes) (sym node_is) h)

-- ---- lists

module _ {X Y : Type 0} where
  pub then_parts : (f : X → Option Y) (o : Option X) (y : Y) → option_and_then f o ≡ Some y → (x : X) × (o ≡ Some x) × (f x ≡ Some y)
  then_parts f None y h = let no : None ≡ Some y = h in absurd cc
  then_parts f (Some x) y h = (x, refl, h)

pub index_of : {X : Type 0} (xs : List X) (k : ℕ) (x d : X) → slice_get xs k ≡ Some x → slice_index_or xs k d ≡ x
index_of [] k x d h = let no : None ≡ Some x = h in absurd cc
index_of (y ∷ xs) zero x d h = same_Some y x h
index_of (y ∷ xs) (suc k) x d h = index_of xs k x d h

pub in_range : (start count i n : ℕ) → slice_get (range_with_len start count) i ≡ Some n → (n ≡ start + i) × (i < count)
in_range start zero i n h = let no : None ≡ Some n = h in absurd cc
in_range start (suc count) zero n h = let same = same_Some start n h in (omega (arith, same), omega arith)
in_range start (suc count) (suc i) n h = let rest = in_range (start + 1) count i n h in let is = rest.0 in let low = rest.1 in (omega (arith, is), omega (arith, low))

pub all_below : (start count end : ℕ) → start + count ≤ end → AllByRecursion (λ n. n < end) (range_with_len start count)
all_below start zero end h = tt
all_below start (suc count) end h = (omega (arith, h), all_below (start + 1) count end (omega (arith, h)))

draw_of : (client : ClientId) (k : ℕ) (timed : List TimedPage) (draws : List Draw) (at : ℕ) (page : DrawnPage) → slice_get (drawn_from client k timed draws) at ≡ Some page
    → (slice_get draws at ≡ Some page.draw) × (page.client ≡ client)
draw_of client k [] draws at page h = let no : None ≡ Some page = h in absurd cc
draw_of client k (t ∷ timed) [] at page h = let no : None ≡ Some page = h in absurd cc
draw_of client k (t ∷ timed) (draw ∷ draws) zero page h =
    let same = same_Some (record { client = client; number = k; page = t.page; started = t.started; sent = t.sent; draw = draw }) page h in
    (ap (λ (d : DrawnPage). Some d.draw) same, ap (λ (d : DrawnPage). d.client) (sym same))
draw_of client k (t ∷ timed) (draw ∷ draws) (suc at) page h = draw_of client (k + 1) timed draws at page h

got_of : (draw : Draw) → has_buffer draw ≡ true → (buffer : ℕ) × (stamp : ℕ) × (draw ≡ Got buffer stamp)
got_of (Got buffer stamp) h = (buffer, stamp, refl)
got_of (Empty stamp) h = let no : false ≡ true = h in absurd cc

-- ---- a standing

module _ (W : PlainWorkload) (J : PlainJournal) (laid : HasItsClients W) where
  book_there : (place : ℕ) → place < length W.clients → Contains (client_books W J) (client_book W J place)
  book_there place low =
      let long : length (client_books W J) ≡ length W.clients = length-map (range_with_len 0 (length W.clients)) (client_book W J) ∙ length-range_with_len 0 (length W.clients) in (
        place,
        omega (arith, long, low),
        index_of (client_books W J) place (client_book W J place) (client_book W J place)
            (slice_get-map (client_book W J) (range_with_len 0 (length W.clients)) place ∙ ap (option_map (client_book W J)) (range_at 0 (length W.clients) place low) ∙ zeroth place),
      )
    where
      zeroth : (n : ℕ) → Some (client_book W J (0 + n)) ≡ Some (client_book W J n)
      zeroth n = let same : 0 + n ≡ n = omega arith in ap (λ n. Some (client_book W J n)) same

  module _ (run : NodeRun) (low : run.node < W.settings.nodes) (sends : run.sends ≡ node_sends W J run.node) where
    of_page : (chunk : Taken) → IsOfDrawnPage run chunk.sheet → IsOfGotPage (client_books W J) run.node (page_standing chunk)
    of_page chunk o =
        let c = chunk.sheet.header.client.number in
        let at = chunk.sheet.header.page in
        let s = then_parts (λ (s : ClientSends). slice_get s.drawn at) (slice_get run.sends c) o.page o.there in
        let found = option_unmap (client_sends W J run.node) (slice_get (range_with_len 0 W.settings.clients) c) s.0
        (sym (slice_get-map (client_sends W J run.node) (range_with_len 0 W.settings.clients) c) ∙ ap (λ (all : List ClientSends). slice_get all c) (sym sends) ∙ s.1)
        in
        let range = in_range 0 W.settings.clients c found.0 found.1 in
        let number : found.0 ≡ c = let is = range.0 in omega (arith, is) in
        let own : s.0 ≡ client_sends W J run.node c = sym found.2 ∙ ap (client_sends W J run.node) number in
        let d = draw_of (record { node = run.node; number = c }) 0 _ (draws_at J (place_of W.settings.clients run.node c)) at o.page (ap (λ (s : ClientSends). slice_get s.drawn at) (sym own) ∙ s.2) in
        let place = place_of W.settings.clients run.node c in
        let got = got_of o.page.draw o.got in
        let client : chunk.sheet.header.client ≡ record { node = run.node; number = c } = ap (λ (s : Sheet). s.header.client) (sym o.is) ∙ d.1 in
        let within = place_below W.settings.clients run.node c range.1 W.settings.nodes low in
        let there : place < length W.clients = let all = laid in omega (arith, within, all) in (
          ap (λ (c : ClientId). c.node) client,
          (client_book W J place, got.0, got.1, book_there place there, client_is W.settings.clients run.node c range.1 ∙ sym client, d.0 ∙ ap Some got.2),
        )

    of_pages : (taken : List Taken) → AllByRecursion (λ (chunk : Taken). IsOfDrawnPage run chunk.sheet) taken → AllByRecursion (IsOfGotPage (client_books W J) run.node) (map page_standing taken)
    of_pages [] all = tt
    of_pages (chunk ∷ taken) all = (of_page chunk all.0, of_pages taken all.1)

  abbrev IsRight : PlainAgentBook → Type 0
  IsRight book = All (IsOfGotPage (client_books W J) book.node.0) book.standings

  of_nodes : (nodes : List NodeRun) → AllByRecursion (IsOfJournal W J) nodes → AllByRecursion (λ n. n < W.settings.nodes) (map (λ (node : NodeRun). node.node) nodes)
      → AllByRecursion (λ (run : NodeRun). AllByRecursion (λ (chunk : Taken). IsOfDrawnPage run chunk.sheet) run.state.taken) nodes
      → AllByRecursion IsRight (map (λ (node : NodeRun). book_of node.node node.state) nodes)
  of_nodes [] of low all = tt
  of_nodes (run ∷ nodes) of low all =
      (All-from_recursion (IsOfGotPage (client_books W J) run.node) (map page_standing run.state.taken) (of_pages run low.0 of.0.sends run.state.taken all.0), of_nodes nodes of.1 low.1 all.1)

pub standings_are_of_got_pages : FollowingPlaysOut → RunsAreOfTheJournal → TakenPagesWereDrawn → StandingsAreOfGotPages
standings_are_of_got_pages plays runs drawn W J laid =
    let r = runs W J (followed W J) (plays W J).leads in
    let end : 0 + W.settings.nodes ≤ W.settings.nodes = omega arith in
    All-from_recursion (IsRight W J laid) (agent_books (followed W J))
    (of_nodes W J laid (followed W J).nodes r.each (subst (AllByRecursion (λ n. n < W.settings.nodes)) (sym r.numbers) (all_below 0 W.settings.nodes W.settings.nodes end)) (drawn W J))
