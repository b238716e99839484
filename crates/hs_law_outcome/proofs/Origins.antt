-- From an entry to a page with a piece of its record, and from there to the draw, or to the chunk that the node's agent took.
use Rattle.std.proofs.Common.{◌≡◌, ◌⊎◌, inl, inr, ℕ, zero, suc, ◌+◌, ◌*◌, ◌<◌, Bool, true, false, ◌&&◌, cond, List, [], ◌∷◌, ◌++◌, length, take, refl, sym, ap, subst, ◌∙◌, Option, Some, None, arith, map, filter, option_map, slice_get, unwrap_or, count_by, leb, ltb, leb-true, ltb-true, eqb-true, eq-eqb, nat_eq, find, mod-lt, zip, eq-zero-or-pos}
use Rattle.hs_law_outcome.proofs.Prelude.{AllByRecursion, flat_map, range_with_len, list_all, option_map_or, and_parts, and_from, length-map, length-range_with_len, flat_map-map, div-add-mod', slice_get-map, same_Some, all_at, all_each, all_flat_map, all_flat_range, all_unmap, get_front, get_there, range_found, range_at, option_map_parts, ClientId, RecordId, Fate, Live, note_of, PageNote, Standing, Draw, Got, Step, PlainClientBook, PlainAgentBook, PlainJournal, Entry, record_count, standings_if, standings_at, FatedPage, page_fate, fated_by, fated_pages, has_piece_of, is_discarded, record_fate, entry_on, record_entry, book_entries, page_standing, book_of, sheets_of, Taken, PlainPage, first_record, pages_of, PlainWorkload, DrawnPage, has_buffer, drawn_from, TimedPagesAreThePages, Sent, ClientSends, sheet_of, client_sends, node_sends, operations_at, draws_at, place_of, TimedPage, timed_pages, Sheet, took_all, is_left_bare, IsOfJournal, RunsAreOfTheJournal, Chunks, Crumbs, Triggers, Asks, taken, asks_to, is_from, NodeRun, Run, followed, IsLawful, FollowingPlaysOut, is_by, TakesInOrder, ChunksAreTakenInOrder, HasItsClients, WasTaken, Gives, client_at, client_book, agent_books, outcome_of, EndsItsTraces}
use Rattle.std.proofs.Math.Nat.{div-lt_iff_lt-mul}
use Rattle.hs_base.proofs.Places.{get_behind}
use Rattle.hs_base.proofs.Parts.{take_length}
use Rattle.hs_records.specs.declared.journal.Draw.TheVariants.{Empty}
use Rattle.hs_ledger.specs.Books.{end_of, is_of}
use Rattle.hs_law_outcome.specs.Origins.{HasItsCause, EachFateHasItsCause}
use Rattle.hs_law_outcome.proofs.Entries.{ends_at}
use Rattle.hs_law_outcome.proofs.Sheets.{IsTaken, filtered_taken}

-- ---- lists

module _ {X : Type 0} where
  -- one of the list passes
  record Passes (p : X → Bool) (xs : List X) (x : X) : Type 0 where
    place : ℕ
    there : slice_get xs place ≡ Some x
    passes : p x ≡ true

  -- the first that passes does
  record Found (p : X → Bool) (xs : List X) : Type 0 where
    item : X
    is : find p xs ≡ Some item
    passes : Passes p xs item

  found_case : (p : X → Bool) (y : X) (xs : List X) (b : Bool) → p y ≡ b → Found p xs → Found p (y ∷ xs)
  found_case p y xs true e f = record { item = y; is = ap (λ t. cond t (Some y) (find p xs)) e; passes = record { place = 0; there = refl; passes = e } }
  found_case p y xs false e f =
      record {
        item = f.item;
        is = ap (λ t. cond t (Some y) (find p xs)) e ∙ f.is;
        passes = record { place = suc f.passes.place; there = f.passes.there; passes = f.passes.passes };
      }

  found_first : (p : X → Bool) (y : X) (xs : List X) → p y ≡ true → Found p (y ∷ xs)
  found_first p y xs e = record { item = y; is = ap (λ t. cond t (Some y) (find p xs)) e; passes = record { place = 0; there = refl; passes = e } }

  found_there : (p : X → Bool) (xs : List X) (place : ℕ) (x : X) → slice_get xs place ≡ Some x → p x ≡ true → Found p xs
  found_there p [] place x h e = let no : None ≡ Some x = h in absurd cc
  found_there p (y ∷ xs) zero x h e = found_first p y xs (ap p (same_Some y x h) ∙ e)
  found_there p (y ∷ xs) (suc place) x h e = found_case p y xs (p y) refl (found_there p xs place x h e)

  -- where an item of joined lists stands
  pub record InParts {Y : Type 0} (f : Y → List X) (ys : List Y) (x : X) : Type 0 where
    pub part : Y
    pub at : ℕ
    pub part_there : slice_get ys at ≡ Some part
    pub place : ℕ
    pub there : slice_get (f part) place ≡ Some x

  pub split_get : (xs ys : List X) (place : ℕ) (x : X) → slice_get (xs ++ ys) place ≡ Some x → (slice_get xs place ≡ Some x) ⊎ ((n : ℕ) × (slice_get ys n ≡ Some x))
  split_get [] ys place x h = inr (place, h)
  split_get (y ∷ xs) ys zero x h = inl h
  split_get (y ∷ xs) ys (suc place) x h = split_get xs ys place x h

  pub in_parts : {Y : Type 0} (f : Y → List X) (ys : List Y) (place : ℕ) (x : X) → slice_get (flat_map f ys) place ≡ Some x → InParts f ys x
  in_parts f [] place x h = let no : None ≡ Some x = h in absurd cc
  in_parts f (y ∷ ys) place x h =
      elim (split_get (f y) (flat_map f ys) place x h) as (λ _. InParts f (y ∷ ys) x) [
        | inl first ↦ record { part = y; at = 0; part_there = refl; place = place; there = first }
        | inr later ↦ let rest = in_parts f ys later.0 x later.1 in record { part = rest.part; at = suc rest.at; part_there = rest.part_there; place = rest.place; there = rest.there }
      ]

  pub in_flat : {Y : Type 0} (f : Y → List X) (ys : List Y) (at : ℕ) (y : Y) (place : ℕ) (x : X) → slice_get ys at ≡ Some y → slice_get (f y) place ≡ Some x → (n : ℕ) × (slice_get (flat_map f ys) n ≡ Some x)
  in_flat f [] at y place x h k = let no : None ≡ Some y = h in absurd cc
  in_flat f (z ∷ ys) zero y place x h k = (place, get_front (f z) (flat_map f ys) place x (ap (λ (y : _). slice_get (f y) place) (same_Some z y h) ∙ k))
  in_flat f (z ∷ ys) (suc at) y place x h k =
      let rest = in_flat f ys at y place x h k in (length (f z) + rest.0, get_behind (f z) (flat_map f ys) rest.0 x rest.1)

  -- what holds of the items that pass holds of one that does
  unfilter_case : (P : X → Type 0) (p : X → Bool) (y x : X) (kept : List X) (b : Bool) → p y ≡ b → y ≡ x → p x ≡ true → AllByRecursion P (cond b (y ∷ kept) kept) → P x
  unfilter_case P p y x kept true e same h all = subst P same all.0
  unfilter_case P p y x kept false e same h all = let no : false ≡ true = sym e ∙ ap p same ∙ h in absurd cc

  unfilter_rest : (P : X → Type 0) (y : X) (kept : List X) (b : Bool) → AllByRecursion P (cond b (y ∷ kept) kept) → AllByRecursion P kept
  unfilter_rest P y kept true all = all.1
  unfilter_rest P y kept false all = all

  pub unfilter : (P : X → Type 0) (p : X → Bool) (xs : List X) (i : ℕ) (x : X) → slice_get xs i ≡ Some x → p x ≡ true → AllByRecursion P (filter p xs) → P x
  unfilter P p [] i x h e all = let no : None ≡ Some x = h in absurd cc
  unfilter P p (y ∷ xs) zero x h e all = unfilter_case P p y x (filter p xs) (p y) refl (same_Some y x h) e all
  unfilter P p (y ∷ xs) (suc i) x h e all = unfilter P p xs i x h e (unfilter_rest P y (filter p xs) (p y) all)

-- ---- a fate and its page

-- a page with its fate stands so among a client's pages
pub record IsPageOf (fates : ℕ → Draw → Fate) (k : ℕ) (pages : List PlainPage) (draws : List Draw) (fated : FatedPage) : Type 0 where
  pub at : ℕ
  pub plain : PlainPage
  pub draw : Draw
  pub page_there : slice_get pages at ≡ Some plain
  pub draw_there : slice_get draws at ≡ Some draw
  pub note_is : fated.note ≡ note_of plain
  pub fate_is : fated.fate ≡ fates (k + at) draw

pub pages_of_fated : (fates : ℕ → Draw → Fate) (k : ℕ) (pages : List PlainPage) (draws : List Draw) → AllByRecursion (IsPageOf fates k pages draws) (fated_by fates k draws (map note_of pages))
pages_of_fated fates k [] [] = tt
pages_of_fated fates k [] (draw ∷ draws) = tt
pages_of_fated fates k (page ∷ pages) [] = tt
pages_of_fated fates k (page ∷ pages) (draw ∷ draws) =
    let here : k + 0 ≡ k = omega arith in (
      record {
        at = 0;
        plain = page;
        draw = draw;
        page_there = refl;
        draw_there = refl;
        note_is = refl;
        fate_is = ap (λ (n : ℕ). fates n draw) (sym here);
      },
      all_each (IsPageOf fates (k + 1) pages draws) (IsPageOf fates k (page ∷ pages) (draw ∷ draws)) (fated_by fates (k + 1) draws (map note_of pages))
          (λ f p.
          let more : k + 1 + p.at ≡ k + suc p.at = omega arith in
          record {
            at = suc p.at;
            plain = p.plain;
            draw = p.draw;
            page_there = p.page_there;
            draw_there = p.draw_there;
            note_is = p.note_is;
            fate_is = p.fate_is ∙ ap (λ (n : ℕ). fates n p.draw) more;
          })
          (pages_of_fated fates (k + 1) pages draws),
    )

-- the fate of a record is that of one of its pages
record IsOneOf (fates : List Fate) (fate : Fate) : Type 0 where
  place : ℕ
  there : slice_get fates place ≡ Some fate

found_or : (fates : List Fate) (default : Fate) → IsOneOf fates (unwrap_or (find is_discarded fates) default) ⊎ (find is_discarded fates ≡ None)
found_or [] default = inr refl
found_or (y ∷ fates) default = either (is_discarded y) (found_or fates default)
  where
    either : (b : Bool) → IsOneOf fates (unwrap_or (find is_discarded fates) default) ⊎ (find is_discarded fates ≡ None)
        → IsOneOf (y ∷ fates) (unwrap_or (cond b (Some y) (find is_discarded fates)) default) ⊎ (cond b (Some y) (find is_discarded fates) ≡ None)
    either true h = inl (record { place = 0; there = refl })
    either false (inl o) = inl (record { place = suc o.place; there = o.there })
    either false (inr none) = inr none

one_of : (first : Fate) (others : List Fate) → IsOneOf (first ∷ others) (record_fate first others)
one_of first others = either (found_or (first ∷ others) first)
  where
    either : IsOneOf (first ∷ others) (unwrap_or (find is_discarded (first ∷ others)) first) ⊎ (find is_discarded (first ∷ others) ≡ None) → IsOneOf (first ∷ others) (record_fate first others)
    either (inl o) = o
    either (inr none) = subst (λ (o : Option Fate). IsOneOf (first ∷ others) (unwrap_or o first)) (sym none) (record { place = 0; there = refl })

-- a page with a piece of the record gives the entry its fate
pub record FromPage (client : ClientId) (n : ℕ) (P : FatedPage → Type 0) (entry : Entry) : Type 0 where
  pub fated : FatedPage
  pub has : P fated
  pub id_is : entry.id ≡ record { client = client; number = n }
  pub fate_is : entry.fate ≡ fated.fate

pub from_page : (client : ClientId) (n : ℕ) (P : FatedPage → Type 0) (pages : List FatedPage) → AllByRecursion P pages → AllByRecursion (FromPage client n P) (entry_on client n pages)
from_page client n P [] all = tt
from_page client n P (page ∷ pages) all =
    let one = one_of page.fate (map (λ (other : FatedPage). other.fate) pages) in
    let found = pick (page ∷ pages) one.place (record_fate page.fate (map (λ (other : FatedPage). other.fate) pages)) one.there all in
    (record { fated = found.0; has = found.1; id_is = refl; fate_is = found.2 }, tt)
  where
    pick : (list : List FatedPage) (place : ℕ) (fate : Fate) → slice_get (map (λ (other : FatedPage). other.fate) list) place ≡ Some fate → AllByRecursion P list
        → (fated : FatedPage) × P fated × (fate ≡ fated.fate)
    pick [] place fate h all = let no : None ≡ Some fate = h in absurd cc
    pick (f ∷ list) zero fate h all = (f, all.0, sym (same_Some f.fate fate h))
    pick (f ∷ list) (suc place) fate h all = pick list place fate h all.1

both_case : {X : Type 0} (P : X → Type 0) (p : X → Bool) (x : X) (kept : List X) (b : Bool) → p x ≡ b → P x → AllByRecursion (λ x. P x × (p x ≡ true)) kept → AllByRecursion (λ x. P x × (p x ≡ true)) (cond b (x ∷ kept) kept)
both_case P p x kept true e h all = ((h, e), all)
both_case P p x kept false e h all = all

pub both_filter : {X : Type 0} (P : X → Type 0) (p : X → Bool) (xs : List X) → AllByRecursion P xs → AllByRecursion (λ x. P x × (p x ≡ true)) (filter p xs)
both_filter P p [] all = tt
both_filter P p (x ∷ xs) all = both_case P p x (filter p xs) (p x) refl all.0 (both_filter P p xs all.1)

-- ---- a chunk that was taken gives its standing

pub same_client : (a b : ClientId) → a.node ≡ b.node → a.number ≡ b.number → a ≡ b
same_client a b e f = ap (λ (n : ℕ). record { node = n; number = a.number }) e ∙ ap (λ (n : ℕ). record { node = b.node; number = n }) f

is_of_parts : (client : ClientId) (page : ℕ) (standing : Standing) → is_of client page standing ≡ true → (standing.client ≡ client) × (standing.page ≡ page)
is_of_parts client page standing h =
    let outer = and_parts (nat_eq standing.client.node client.node && nat_eq standing.client.number client.number) (nat_eq standing.page page) h in
    let inner = and_parts (nat_eq standing.client.node client.node) (nat_eq standing.client.number client.number) outer.0 in
    (same_client standing.client client (eqb-true standing.client.node client.node inner.0) (eqb-true standing.client.number client.number inner.1), eqb-true standing.page page outer.1)

is_of_true : (client : ClientId) (page : ℕ) (standing : Standing) → standing.client ≡ client → standing.page ≡ page → is_of client page standing ≡ true
is_of_true client page standing e f =
    and_from (nat_eq standing.client.node client.node && nat_eq standing.client.number client.number) (nat_eq standing.page page)
    (and_from (nat_eq standing.client.node client.node) (nat_eq standing.client.number client.number) (eq-eqb standing.client.node client.node (ap (λ (c : ClientId). c.node) e))
    (eq-eqb standing.client.number client.number (ap (λ (c : ClientId). c.number) e)))
    (eq-eqb standing.page page f)

if_case : (b : Bool) (standings : List Standing) (place : ℕ) (standing : Standing) → slice_get (cond b standings []) place ≡ Some standing → (b ≡ true) × (slice_get standings place ≡ Some standing)
if_case true standings place standing h = (refl, h)
if_case false standings place standing h = let no : None ≡ Some standing = h in absurd cc

module _ (plays : FollowingPlaysOut) (runs : RunsAreOfTheJournal) (W : PlainWorkload) (J : PlainJournal) where
  abbrev pub run : Run
  run = followed W J

  abbrev pub nodes_are : List ℕ
  nodes_are = map (λ (node : NodeRun). node.node) run.nodes

  pub numbers : nodes_are ≡ range_with_len 0 W.settings.nodes
  numbers = (runs W J run (plays W J).leads).numbers

  pub number_is : (i : ℕ) (node : NodeRun) → slice_get run.nodes i ≡ Some node → node.node ≡ i
  number_is i node h =
      let found : slice_get (range_with_len 0 W.settings.nodes) i ≡ Some node.node =
      ap (λ ns. slice_get ns i) (sym numbers) ∙ slice_get-map (λ (node : NodeRun). node.node) run.nodes i ∙ ap (option_map (λ (node : NodeRun). node.node)) h
      in
      let is = range_found 0 W.settings.nodes i node.node found in omega (arith, is)

  pub count_nodes : length run.nodes ≡ W.settings.nodes
  count_nodes = sym (length-map run.nodes (λ (node : NodeRun). node.node)) ∙ ap length numbers ∙ length-range_with_len 0 W.settings.nodes

  abbrev book : NodeRun → PlainAgentBook
  book node = book_of node.node node.state

  -- a standing at a node is that of a chunk that its agent took
  record AtNode (v : ℕ) (standing : Standing) : Type 0 where
    node : NodeRun
    place : ℕ
    chunk : Taken
    here : slice_get run.nodes v ≡ Some node
    taken_there : slice_get node.state.taken place ≡ Some chunk
    is : standing ≡ page_standing chunk

  at_node : (v place : ℕ) (standing : Standing) → slice_get (standings_at (agent_books run) v) place ≡ Some standing → AtNode v standing
  at_node v place standing h =
      let p = in_parts (standings_if v) (agent_books run) place standing h in
      let b = option_map_parts book (slice_get run.nodes p.at) p.part (sym (slice_get-map book run.nodes p.at) ∙ p.part_there) in
      let own = if_case (nat_eq p.part.node.0 v) p.part.standings p.place standing p.there in
      let number : b.0.node ≡ v = ap (λ (a : PlainAgentBook). a.node.0) (sym b.2) ∙ eqb-true p.part.node.0 v own.0 in
      let at : p.at ≡ v = sym (number_is p.at b.0 b.1) ∙ number in
      let of_book : slice_get (map page_standing b.0.state.taken) p.place ≡ Some standing = ap (λ (a : PlainAgentBook). slice_get a.standings p.place) (sym b.2) ∙ own.1 in
      let c = option_map_parts page_standing (slice_get b.0.state.taken p.place) standing (sym (slice_get-map page_standing b.0.state.taken p.place) ∙ of_book) in
      record {
        node = b.0;
        place = p.place;
        chunk = c.0;
        here = ap (slice_get run.nodes) (sym at) ∙ b.1;
        taken_there = c.1;
        is = c.2;
      }

  -- a page that was taken by its node's agent
  pub record IsThere (client : ClientId) (page : ℕ) : Type 0 where
    pub node : NodeRun
    pub here : slice_get run.nodes client.node ≡ Some node
    pub sheet : Sheet
    pub taken_there : IsTaken node.state.taken sheet
    pub client_is : sheet.header.client ≡ client
    pub page_is : sheet.header.page ≡ page

  standing_found : (client : ClientId) (page : ℕ) → IsThere client page → Found (is_of client page) (standings_at (agent_books run) client.node)
  standing_found client page t =
      let chunk = option_map_parts (λ (c : Taken). c.sheet) (slice_get t.node.state.taken t.taken_there.place) t.sheet (sym (slice_get-map (λ (c : Taken). c.sheet) t.node.state.taken t.taken_there.place) ∙ t.taken_there.there) in
      let own : nat_eq (book t.node).node.0 client.node ≡ true = eq-eqb t.node.node client.node (number_is client.node t.node t.here) in
      let standing : slice_get (standings_if client.node (book t.node)) t.taken_there.place ≡ Some (page_standing chunk.0) =
      ap (λ b. slice_get (cond b (map page_standing t.node.state.taken) []) t.taken_there.place) own
      ∙ slice_get-map page_standing t.node.state.taken t.taken_there.place
      ∙ ap (option_map page_standing) chunk.1
      in
      let there = in_flat (standings_if client.node) (agent_books run) client.node (book t.node) t.taken_there.place (page_standing chunk.0) (slice_get-map book run.nodes client.node ∙ ap (option_map book) t.here) standing in
      found_there (is_of client page) (standings_at (agent_books run) client.node) there.0 (page_standing chunk.0) there.1
      (is_of_true client page (page_standing chunk.0) (ap (λ (s : Sheet). s.header.client) (sym chunk.2) ∙ t.client_is) (ap (λ (s : Sheet). s.header.page) (sym chunk.2) ∙ t.page_is))

  was_taken : (client : ClientId) (page : ℕ) → Found (is_of client page) (standings_at (agent_books run) client.node)
      → WasTaken run client page (unwrap_or (option_map (λ (standing : Standing). standing.fate) (find (is_of client page) (standings_at (agent_books run) client.node))) Live)
  was_taken client page f =
      let a = at_node client.node f.passes.place f.item f.passes.there in
      let parts = is_of_parts client page f.item f.passes.passes in
      record {
        node = a.node;
        place = a.place;
        chunk = a.chunk;
        here = a.here;
        taken = a.taken_there;
        client_is = ap (λ (s : Standing). s.client) (sym a.is) ∙ parts.0;
        page_is = ap (λ (s : Standing). s.page) (sym a.is) ∙ parts.1;
        fate_is = ap (λ (o : Option Standing). unwrap_or (option_map (λ (standing : Standing). standing.fate) o) Live) f.is ∙ ap (λ (s : Standing). s.fate) a.is;
      }

  pub gives : (client : ClientId) (page : ℕ) (draw : Draw) → ((buffer stamp : ℕ) → draw ≡ Got buffer stamp → IsThere client page) → Gives run client page draw (page_fate (agent_books run) client page draw)
  gives client page (Empty stamp) there = refl
  gives client page (Got buffer stamp) there = was_taken client page (standing_found client page (there buffer stamp refl))

-- ---- each page with a buffer was taken

drawn_at : (client : ClientId) (k : ℕ) (timed : List TimedPage) (draws : List Draw) (at : ℕ) (page : TimedPage) (draw : Draw) → slice_get timed at ≡ Some page → slice_get draws at ≡ Some draw
    → slice_get (drawn_from client k timed draws) at ≡ Some (record { client = client; number = k + at; page = page.page; started = page.started; sent = page.sent; draw = draw })
drawn_at client k [] draws at page draw h d = let no : None ≡ Some page = h in absurd cc
drawn_at client k (p ∷ timed) [] at page draw h d = let no : None ≡ Some draw = d in absurd cc
drawn_at client k (p ∷ timed) (e ∷ draws) zero page draw h d =
    let zeroth : k ≡ k + 0 = omega arith in
    let first = same_Some p page h in
    let second = same_Some e draw d in
    ap (λ (p : TimedPage). Some (record { client = client; number = k; page = p.page; started = p.started; sent = p.sent; draw = e })) first
    ∙ ap (λ (e : Draw). Some (record { client = client; number = k; page = page.page; started = page.started; sent = page.sent; draw = e })) second
    ∙ ap (λ (n : ℕ). Some (record { client = client; number = n; page = page.page; started = page.started; sent = page.sent; draw = draw })) zeroth
drawn_at client k (p ∷ timed) (e ∷ draws) (suc at) page draw h d =
    let more : k + 1 + at ≡ k + suc at = omega arith in
    drawn_at client (k + 1) timed draws at page draw h d
    ∙ ap (λ (n : ℕ). Some (record { client = client; number = n; page = page.page; started = page.started; sent = page.sent; draw = draw })) more

bare_client : (log : List Step) (start : ℕ) (sends : List ClientSends) → list_all (λ (c : ℕ × ClientSends). took_all log c.0 c.1) (zip (range_with_len start (length sends)) sends) ≡ true
    → (i : ℕ) (s : ClientSends) → slice_get sends i ≡ Some s → took_all log (start + i) s ≡ true
bare_client log start [] h i s there = let no : None ≡ Some s = there in absurd cc
bare_client log start (first ∷ sends) h zero s there =
    let both = and_parts (took_all log start first) (list_all (λ (c : ℕ × ClientSends). took_all log c.0 c.1) (zip (range_with_len (start + 1) (length sends)) sends)) h in
    let zeroth : start + 0 ≡ start = omega arith in
    ap (λ (n : ℕ). took_all log n s) zeroth ∙ ap (took_all log start) (sym (same_Some first s there)) ∙ both.0
bare_client log start (first ∷ sends) h (suc i) s there =
    let both = and_parts (took_all log start first) (list_all (λ (c : ℕ × ClientSends). took_all log c.0 c.1) (zip (range_with_len (start + 1) (length sends)) sends)) h in
    let more : start + suc i ≡ start + 1 + i = omega arith in
    ap (λ (n : ℕ). took_all log n s) more ∙ bare_client log (start + 1) sends both.1 i s there

module _ (plays : FollowingPlaysOut) (runs : RunsAreOfTheJournal) (order : ChunksAreTakenInOrder) (timed : TimedPagesAreThePages) (W : PlainWorkload) (J : PlainJournal) (ends : EndsItsTraces W) (laid : HasItsClients W) (lawful : IsLawful W J) where
  abbrev pub all_run : Run
  all_run = followed W J

  -- of a client whose node is there
  module _ (place : ℕ) (below : place < length W.clients) where
    abbrev pub client : ClientId
    client = client_at W.settings.clients place

    some_clients : 0 < W.settings.clients
    some_clients = either (eq-zero-or-pos W.settings.clients)
      where
        either : (W.settings.clients ≡ 0) ⊎ (0 < W.settings.clients) → 0 < W.settings.clients
        either (inl none) =
            let zeroed : W.settings.nodes * W.settings.clients ≡ W.settings.nodes * 0 = ap (λ (n : ℕ). W.settings.nodes * n) none in
            let nothing : W.settings.nodes * 0 ≡ 0 = omega arith in
            let all = laid in absurd (omega (arith, below, all, zeroed, nothing))
        either (inr some) = some

    pub node_below : client.node < W.settings.nodes
    node_below = let all = laid in (div-lt_iff_lt-mul {k = W.settings.clients} {x = place} {y = W.settings.nodes} some_clients).1 (omega (arith, below, all))

    number_below : client.number < W.settings.clients
    number_below = mod-lt place some_clients

    pub back : place_of W.settings.clients client.node client.number ≡ place
    back = div-add-mod' place W.settings.clients

    abbrev pub node_there : (node : NodeRun) × (slice_get all_run.nodes client.node ≡ Some node)
    node_there = let count = count_nodes plays runs W J in let low = node_below in get_there all_run.nodes client.node (omega (arith, count, low))

    abbrev pub own_sends : ClientSends
    own_sends = client_sends W J client.node client.number

    pub sends_there : slice_get (node_there.0).sends client.number ≡ Some own_sends
    sends_there =
        let o = all_at (IsOfJournal W J) all_run.nodes client.node node_there.0 (runs W J all_run (plays W J).leads).each node_there.1 in
        let number = number_is plays runs W J client.node node_there.0 node_there.1 in
        let here : 0 + client.number ≡ client.number = omega arith in
        ap (λ (sends : List ClientSends). slice_get sends client.number) (o.sends ∙ ap (node_sends W J) number)
        ∙ slice_get-map (client_sends W J client.node) (range_with_len 0 W.settings.clients) client.number
        ∙ ap (option_map (client_sends W J client.node)) (range_at 0 W.settings.clients client.number number_below)
        ∙ ap (λ (n : ℕ). Some (client_sends W J client.node n)) here

    pub all_taken : taken (Chunks client.number) (node_there.0).state.log ≡ length own_sends.chunks
    all_taken =
        let node = node_there.0 in
        let left = all_at (λ (n : NodeRun). is_left_bare all_run n ≡ true) all_run.nodes client.node node (passed (is_left_bare all_run) all_run.nodes lawful.L10) node_there.1 in
        let clients =
        (and_parts (list_all (λ (c : ℕ × ClientSends). took_all node.state.log c.0 c.1) (zip (range_with_len 0 (length node.sends)) node.sends))
        (nat_eq (taken Asks node.state.log) (length (asks_to node.node all_run.heard)))
        (and_parts
        (list_all (λ (c : ℕ × ClientSends). took_all node.state.log c.0 c.1) (zip (range_with_len 0 (length node.sends)) node.sends)
        && nat_eq (taken Asks node.state.log) (length (asks_to node.node all_run.heard)))
        (nat_eq (count_by (is_from (record { 0 = node.node })) all_run.heard) (length node.state.said))
        (and_parts
        (list_all (λ (c : ℕ × ClientSends). took_all node.state.log c.0 c.1) (zip (range_with_len 0 (length node.sends)) node.sends)
        && nat_eq (taken Asks node.state.log) (length (asks_to node.node all_run.heard))
        && nat_eq (count_by (is_from (record { 0 = node.node })) all_run.heard) (length node.state.said))
        (nat_eq (length node.state.pinned) 0) left).0).0).0
        in
        let one = bare_client node.state.log 0 node.sends clients client.number own_sends sends_there in
        let here : 0 + client.number ≡ client.number = omega arith in
        let own = ap (λ (n : ℕ). took_all node.state.log n own_sends) (sym here) ∙ one in
        eqb-true (taken (Chunks client.number) node.state.log) (length own_sends.chunks)
        (and_parts (nat_eq (taken (Chunks client.number) node.state.log) (length own_sends.chunks)) (nat_eq (taken (Crumbs client.number) node.state.log) (length own_sends.crumbs))
        (and_parts
        (nat_eq (taken (Chunks client.number) node.state.log) (length own_sends.chunks) && nat_eq (taken (Crumbs client.number) node.state.log) (length own_sends.crumbs))
        (nat_eq (taken (Triggers client.number) node.state.log) (length own_sends.triggers)) own).0).0
      where
        passed : {X : Type 0} (p : X → Bool) (xs : List X) → list_all p xs ≡ true → AllByRecursion (λ x. p x ≡ true) xs
        passed p [] h = tt
        passed p (x ∷ xs) h = let both = and_parts (p x) (list_all p xs) h in (both.0, passed p xs both.1)

    abbrev items : List (Sent Sheet) → List Sheet
    items sent = map (λ (item : Sent Sheet). item.item) sent

    -- of the client all chunks that it sent were taken, in their order
    pub all_there : filter (is_by client.number) (sheets_of (node_there.0).state.taken) ≡ items own_sends.chunks
    all_there =
        let node = node_there.0 in
        all_at TakesInOrder all_run.nodes client.node node (order W J all_run (plays W J).leads) node_there.1 client.number
        ∙ ap (λ (o : Option ClientSends). take (taken (Chunks client.number) node.state.log) (option_map_or (λ (s : ClientSends). items s.chunks) o [])) sends_there
        ∙ ap (λ (n : ℕ). take n (items own_sends.chunks)) (all_taken ∙ sym (length-map own_sends.chunks (λ (item : Sent Sheet). item.item)))
        ∙ take_length (items own_sends.chunks)

    chunks_taken : AllByRecursion (λ (item : Sent Sheet). IsTaken (node_there.0).state.taken item.item) own_sends.chunks
    chunks_taken =
        all_unmap (IsTaken (node_there.0).state.taken) (λ (item : Sent Sheet). item.item) own_sends.chunks
        (subst (AllByRecursion (IsTaken (node_there.0).state.taken)) all_there (filtered_taken (is_by client.number) (node_there.0).state.taken))

    -- a page that got a buffer
    pub there : (at : ℕ) (plain : PlainPage) (draw : Draw) → slice_get (pages_of W.settings.size (operations_at W place)) at ≡ Some plain → slice_get (draws_at J place) at ≡ Some draw → has_buffer draw ≡ true
        → IsThere plays runs W J client at
    there at plain draw h d got =
        let pages = timed_pages W.settings.size (operations_at W place) in
        let same = timed W.settings.size (operations_at W place) (ends_at W.clients place ends.ends) in
        let page = option_map_parts (λ (p : TimedPage). p.page) (slice_get pages at) plain (sym (slice_get-map (λ (p : TimedPage). p.page) pages at) ∙ ap (λ (ps : List PlainPage). slice_get ps at) same ∙ h) in
        let drawn : DrawnPage = record { client = client; number = 0 + at; page = page.0.page; started = page.0.started; sent = page.0.sent; draw = draw } in
        let stands : slice_get own_sends.drawn at ≡ Some drawn =
        ap (λ (p : ℕ). slice_get (drawn_from client 0 (timed_pages W.settings.size (operations_at W p)) (draws_at J p)) at) back
        ∙ drawn_at client 0 pages (draws_at J place) at page.0 draw page.1 d
        in
        let all = all_unmap (λ (item : Sent Sheet). IsTaken (node_there.0).state.taken item.item) (λ (d : DrawnPage). record { number = d.sent; item = sheet_of d })
        (filter (λ (d : DrawnPage). has_buffer d.draw) own_sends.drawn) chunks_taken in
        let zeroth : 0 + at ≡ at = omega arith in
        record {
          node = node_there.0;
          here = node_there.1;
          sheet = sheet_of drawn;
          taken_there = unfilter (λ (d : DrawnPage). IsTaken (node_there.0).state.taken (sheet_of d)) (λ (d : DrawnPage). has_buffer d.draw) own_sends.drawn at drawn stands got all;
          client_is = refl;
          page_is = zeroth;
        }

    entry_caused : (n : ℕ) (entry : Entry)
        → FromPage client n (λ (f : FatedPage). IsPageOf (page_fate (agent_books all_run) client) 0 (pages_of W.settings.size (operations_at W place)) (draws_at J place) f × (has_piece_of n f ≡ true)) entry
        → HasItsCause W J entry
    entry_caused n entry f =
        let p = f.has.0 in
        let piece = and_parts (leb f.fated.note.first n) (ltb n (end_of f.fated.note)) f.has.1 in
        let low = leb-true f.fated.note.first n piece.0 in
        let high = ltb-true n (end_of f.fated.note) piece.1 in
        let first : f.fated.note.first ≡ first_record p.plain = ap (λ (note : PageNote). note.first) p.note_is in
        let last : end_of f.fated.note ≡ first_record p.plain + length p.plain.pieces = ap end_of p.note_is in
        let number : entry.id.number ≡ n = ap (λ (id : RecordId). id.number) f.id_is in
        let of_client : entry.id.client ≡ client = ap (λ (id : RecordId). id.client) f.id_is in
        let at_place : place_of W.settings.clients entry.id.client.node entry.id.client.number ≡ place =
        ap (λ (c : ClientId). place_of W.settings.clients c.node c.number) of_client ∙ back
        in
        let zeroth : 0 + p.at ≡ p.at = omega arith in
        let fate : entry.fate ≡ page_fate (agent_books all_run) client p.at p.draw = f.fate_is ∙ p.fate_is ∙ ap (λ (k : ℕ). page_fate (agent_books all_run) client k p.draw) zeroth in
        let given = gives plays runs W J client p.at p.draw (λ buffer stamp e. there p.at p.plain p.draw p.page_there p.draw_there (ap has_buffer e)) in
        record {
          page = p.at;
          plain = p.plain;
          draw = p.draw;
          page_there = ap (λ (q : ℕ). slice_get (pages_of W.settings.size (operations_at W q)) p.at) at_place ∙ p.page_there;
          draw_there = ap (λ (q : ℕ). slice_get (draws_at J q) p.at) at_place ∙ p.draw_there;
          first = omega (arith, low, first, number);
          last = omega (arith, high, last, number);
          gives =
              subst (λ (c : ClientId). Gives all_run c p.at p.draw entry.fate) (sym of_client)
              (subst (Gives all_run client p.at p.draw) (sym fate) given);
        }

    client_caused : AllByRecursion (HasItsCause W J) (book_entries client (fated_pages (agent_books all_run) (client_book W J place)))
    client_caused =
        let fates = page_fate (agent_books all_run) client in
        let pages = pages_of W.settings.size (operations_at W place) in
        let all = pages_of_fated fates 0 pages (draws_at J place) in
        let fated = fated_by fates 0 (draws_at J place) (map note_of pages) in
        all_flat_map (HasItsCause W J) (record_entry client fated) (range_with_len 0 (record_count (map (λ (page : FatedPage). page.note) fated)))
        (λ n.
        all_each (FromPage client n (λ (f : FatedPage). IsPageOf fates 0 pages (draws_at J place) f × (has_piece_of n f ≡ true))) (HasItsCause W J) (record_entry client fated n) (entry_caused n)
        (from_page client n (λ (f : FatedPage). IsPageOf fates 0 pages (draws_at J place) f × (has_piece_of n f ≡ true)) (filter (has_piece_of n) fated)
        (both_filter (IsPageOf fates 0 pages (draws_at J place)) (has_piece_of n) fated all)))

  all_caused : AllByRecursion (HasItsCause W J) (outcome_of W J).entries
  all_caused =
      subst (AllByRecursion (HasItsCause W J))
      (sym (flat_map-map (λ (book : PlainClientBook). book_entries book.client (fated_pages (agent_books all_run) book)) (client_book W J) (range_with_len 0 (length W.clients))))
      (all_flat_range (HasItsCause W J) (λ place. book_entries (client_at W.settings.clients place) (fated_pages (agent_books all_run) (client_book W J place))) 0 (length W.clients)
      (λ place below. let low : place < length W.clients = omega (arith, below) in client_caused place low))

pub each_fate_has_its_cause : FollowingPlaysOut → RunsAreOfTheJournal → ChunksAreTakenInOrder → TimedPagesAreThePages → EachFateHasItsCause
each_fate_has_its_cause plays runs order timed W J ends laid lawful = all_caused plays runs order timed W J ends laid lawful
