-- Each chunk that an agent took is of a page of its node's clients, at the page's place, and the page has a buffer.
use Rattle.std.proofs.Common.{◌≡◌, ℕ, zero, suc, ◌+◌, Bool, true, false, cond, List, [], ◌∷◌, refl, sym, ap, subst, ◌∙◌, Option, Some, None, arith, map, filter, option_map, slice_get, eq-eqb}
use Rattle.hs_law_outcome.proofs.Prelude.{AllByRecursion, range_with_len, option_and_then, option_map_or, slice_get-map, same_Some, range_found, option_map_parts, ClientId, Draw, PlainJournal, sheets_of, Taken, PlainWorkload, DrawnPage, has_buffer, drawn_from, Sent, ClientSends, sheet_of, sent_chunks, client_sends, node_sends, TimedPage, Sheet, IsOfJournal, RunsAreOfTheJournal, Chunks, taken, NodeRun, followed, FollowingPlaysOut, is_by, TakesInOrder, ChunksAreTakenInOrder, IsOfDrawnPage, TakenPagesWereDrawn}
use Rattle.hs_base.proofs.Alls.{all_take}
use Rattle.hs_law_journal.specs.Taking.{sheets_sent}

-- ---- what is sent is of a drawn page

-- a page at a place has that number
record AtPlace (client : ClientId) (k : ℕ) (drawn : List DrawnPage) (sheet : Sheet) : Type 0 where
  place : ℕ
  page : DrawnPage
  there : slice_get drawn place ≡ Some page
  number : page.number ≡ k + place
  client_is : page.client ≡ client
  got : has_buffer page.draw ≡ true
  is : sheet_of page ≡ sheet

later_place : (client : ClientId) (k : ℕ) (first : DrawnPage) (drawn : List DrawnPage) (sheet : Sheet) → AtPlace client (k + 1) drawn sheet → AtPlace client k (first ∷ drawn) sheet
later_place client k first drawn sheet a =
    let number = a.number in
    record { place = suc a.place; page = a.page; there = a.there; number = omega (arith, number); client_is = a.client_is; got = a.got; is = a.is }

abbrev item_of : DrawnPage → Sent Sheet
item_of d = record { number = d.sent; item = sheet_of d }

sent_case : (client : ClientId) (k : ℕ) (first : DrawnPage) (drawn : List DrawnPage) (n : ℕ) (item : Sent Sheet) (b : Bool) → has_buffer first.draw ≡ b → first.number ≡ k → first.client ≡ client
    → ((n : ℕ) → slice_get (sent_chunks drawn) n ≡ Some item → AtPlace client (k + 1) drawn item.item)
    → slice_get (map item_of (cond b (first ∷ filter (λ (d : DrawnPage). has_buffer d.draw) drawn) (filter (λ (d : DrawnPage). has_buffer d.draw) drawn))) n ≡ Some item
    → AtPlace client k (first ∷ drawn) item.item
sent_case client k first drawn zero item true got number own on h =
    record {
      place = 0;
      page = first;
      there = refl;
      number = omega (arith, number);
      client_is = own;
      got = got;
      is = ap (λ (s : Sent Sheet). s.item) (same_Some (item_of first) item h);
    }
sent_case client k first drawn (suc n) item true got number own on h = later_place client k first drawn item.item (on n h)
sent_case client k first drawn n item false got number own on h = later_place client k first drawn item.item (on n h)

sent_at : (client : ClientId) (k : ℕ) (timed : List TimedPage) (draws : List Draw) (n : ℕ) (item : Sent Sheet) → slice_get (sent_chunks (drawn_from client k timed draws)) n ≡ Some item
    → AtPlace client k (drawn_from client k timed draws) item.item
sent_at client k [] draws n item h = let no : None ≡ Some item = h in absurd cc
sent_at client k (page ∷ timed) [] n item h = let no : None ≡ Some item = h in absurd cc
sent_at client k (page ∷ timed) (draw ∷ draws) n item h =
    sent_case client k (record { client = client; number = k; page = page.page; started = page.started; sent = page.sent; draw = draw }) (drawn_from client (k + 1) timed draws) n item (has_buffer draw) refl refl refl
    (λ n h. sent_at client (k + 1) timed draws n item h) h

-- ---- what holds of all pages

module _ (P : Sheet → Type 0) where
  each_item : (items : List (Sent Sheet)) → ((n : ℕ) (item : Sent Sheet) → slice_get items n ≡ Some item → P item.item) → AllByRecursion P (map (λ (item : Sent Sheet). item.item) items)
  each_item [] on = tt
  each_item (item ∷ items) on = (on 0 item refl, each_item items (λ n item h. on (suc n) item h))

  first_case : (sheet : Sheet) (kept : List Sheet) (b : Bool) → b ≡ true → AllByRecursion P (cond b (sheet ∷ kept) kept) → P sheet
  first_case sheet kept true e all = all.0
  first_case sheet kept false e all = let no : false ≡ true = e in absurd cc

  rest_case : (sheet : Sheet) (kept : List Sheet) (b : Bool) → AllByRecursion P (cond b (sheet ∷ kept) kept) → AllByRecursion P kept
  rest_case sheet kept true all = all.1
  rest_case sheet kept false all = all

  -- what holds of the pages of each client
  by_clients : (sheets : List Sheet) → ((client : ℕ) → AllByRecursion P (filter (is_by client) sheets)) → AllByRecursion P sheets
  by_clients [] each = tt
  by_clients (sheet ∷ sheets) each =
      let own = sheet.header.client.number in (
        first_case sheet (filter (is_by own) sheets) (is_by own sheet) (eq-eqb own own refl) (each own),
        by_clients sheets (λ client. rest_case sheet (filter (is_by client) sheets) (is_by client sheet) (each client)),
      )

module _ (W : PlainWorkload) (J : PlainJournal) where
  of_sent : (run : NodeRun) → run.sends ≡ node_sends W J run.node → (client : ℕ) (s : ClientSends) (n : ℕ) (item : Sent Sheet) → slice_get run.sends client ≡ Some s → slice_get s.chunks n ≡ Some item
      → IsOfDrawnPage run item.item
  of_sent run sends client s n item there h =
      let found : option_map (client_sends W J run.node) (slice_get (range_with_len 0 W.settings.clients) client) ≡ Some s =
      sym (slice_get-map (client_sends W J run.node) (range_with_len 0 W.settings.clients) client) ∙ ap (λ (all : List ClientSends). slice_get all client) (sym sends) ∙ there
      in
      let c = option_map_parts (client_sends W J run.node) (slice_get (range_with_len 0 W.settings.clients) client) s found in
      let number : c.0 ≡ client = let is = range_found 0 W.settings.clients client c.0 c.1 in omega (arith, is) in
      let own : s ≡ client_sends W J run.node client = c.2 ∙ ap (client_sends W J run.node) number in
      let a = sent_at (record { node = run.node; number = client }) 0 _ _ n item (ap (λ (s : ClientSends). slice_get s.chunks n) (sym own) ∙ h) in
      let page_number = a.number in
      let place : item.item.header.page ≡ a.place = ap (λ (s : Sheet). s.header.page) (sym a.is) ∙ page_number_is a.page.number a.place page_number in
      let client_number : item.item.header.client.number ≡ client = ap (λ (s : Sheet). s.header.client.number) (sym a.is) ∙ ap (λ (c : ClientId). c.number) a.client_is in
      record {
        page = a.page;
        there =
            ap (λ (k : ℕ). option_and_then (λ (sends : ClientSends). slice_get sends.drawn item.item.header.page) (slice_get run.sends k)) client_number
            ∙ ap (option_and_then (λ (sends : ClientSends). slice_get sends.drawn item.item.header.page)) there
            ∙ ap (λ (s : ClientSends). slice_get s.drawn item.item.header.page) own
            ∙ ap (slice_get (client_sends W J run.node client).drawn) place
            ∙ a.there;
        got = a.got;
        is = a.is;
      }
    where
      page_number_is : (p q : ℕ) → p ≡ 0 + q → p ≡ q
      page_number_is p q e = omega (arith, e)

  sent_drawn : (run : NodeRun) → run.sends ≡ node_sends W J run.node → (client : ℕ) (o : Option ClientSends) → slice_get run.sends client ≡ o
      → AllByRecursion (IsOfDrawnPage run) (option_map_or (λ (sends : ClientSends). map (λ (item : Sent Sheet). item.item) sends.chunks) o [])
  sent_drawn run sends client None e = tt
  sent_drawn run sends client (Some s) e = each_item (IsOfDrawnPage run) s.chunks (λ n item h. of_sent run sends client s n item e h)

  by_chunk : (run : NodeRun) (taken : List Taken) → AllByRecursion (IsOfDrawnPage run) (sheets_of taken) → AllByRecursion (λ (chunk : Taken). IsOfDrawnPage run chunk.sheet) taken
  by_chunk run [] all = tt
  by_chunk run (chunk ∷ taken) all = (all.0, by_chunk run taken all.1)

  -- what was taken of a client is a front of what it sent
  taken_drawn : (run : NodeRun) → IsOfJournal W J run → TakesInOrder run → AllByRecursion (λ (chunk : Taken). IsOfDrawnPage run chunk.sheet) run.state.taken
  taken_drawn run own takes =
      by_chunk run run.state.taken
      (by_clients (IsOfDrawnPage run) (sheets_of run.state.taken)
      (λ client.
      subst (AllByRecursion (IsOfDrawnPage run)) (sym (takes client))
      (all_take (IsOfDrawnPage run) (taken (Chunks client) run.state.log) (sheets_sent run client) (sent_drawn run own.sends client (slice_get run.sends client) refl))))

  each_node : (nodes : List NodeRun) → AllByRecursion (IsOfJournal W J) nodes → AllByRecursion TakesInOrder nodes
      → AllByRecursion (λ (run : NodeRun). AllByRecursion (λ (chunk : Taken). IsOfDrawnPage run chunk.sheet) run.state.taken) nodes
  each_node [] own takes = tt
  each_node (run ∷ nodes) own takes = (taken_drawn run own.0 takes.0, each_node nodes own.1 takes.1)

pub taken_pages_were_drawn : FollowingPlaysOut → RunsAreOfTheJournal → ChunksAreTakenInOrder → TakenPagesWereDrawn
taken_pages_were_drawn plays runs takes W J =
    let leads = (plays W J).leads in
    each_node W J (followed W J).nodes (runs W J (followed W J) leads).each (takes W J (followed W J) leads)
