-- A page that has one standing at its node has one among those of all nodes, and then the newest one is that.
use Rattle.std.proofs.Common.{◌≡◌, ◌≢◌, ℕ, suc, ◌+◌, ◌==◌, Bool, true, false, cond, List, [], ◌∷◌, ◌++◌, All, length, filter, Option, Some, None, option_map, unwrap_or, refl, sym, ap, ap₂, ◌∙◌, arith}
use Rattle.std.specs.List.{find}
use Rattle.std.specs.Prelude.{slice_get}
use Rattle.std.proofs.lemmas.List.Elements.{All-tail, filter-append}
use Rattle.std.proofs.lemmas.Bool.Decides.{nat_tests}
use Rattle.hs_base.specs.declared.ids.ClientId.{ClientId}
use Rattle.hs_base.specs.declared.told.Fate.{Fate}
use Rattle.hs_base.specs.declared.told.Fate.TheVariants.{Live}
use Rattle.hs_records.specs.declared.journal.Draw.{Draw}
use Rattle.hs_records.specs.declared.journal.Draw.TheVariants.{Got, Empty}
use Rattle.hs_records.specs.declared.books.PageNote.{PageNote}
use Rattle.hs_records.specs.declared.books.Standing.{Standing}
use Rattle.hs_records.specs.Books.{PlainClientBook, PlainAgentBook}
use Rattle.hs_ledger.specs.Books.{is_of, standings_if, standings_at, HaveStandings}
use Rattle.hs_ledger.specs.Fates.{fated_by, page_fate, fated_pages}
use Rattle.hs_ledger.specs.Making.{newest, all_standings, drawn_fate}

-- no standing is that of the page
newest-none : (fate : Option Fate) (client : ClientId) (page : ℕ) (standings : List Standing) → length (filter (is_of client page) standings) ≡ 0 → newest fate client page standings ≡ fate
newest-none fate client page [] none = refl
newest-none fate client page (s ∷ standings) none = by_test (is_of client page s) none (newest-none fate client page standings)
  where
    by_test : (b : Bool) → length (cond b (s ∷ filter (is_of client page) standings) (filter (is_of client page) standings)) ≡ 0
        → (length (filter (is_of client page) standings) ≡ 0 → newest fate client page standings ≡ fate)
        → newest (cond b (Some s.fate) fate) client page standings ≡ fate
    by_test true empty later = absurd (omega arith)
    by_test false empty later = later empty

-- the newest of one
newest-one : (client : ClientId) (page : ℕ) (standings : List Standing) → length (filter (is_of client page) standings) ≡ 1
    → newest None client page standings ≡ option_map (λ standing. standing.fate) (find (is_of client page) standings)
newest-one client page [] one = absurd (omega arith)
newest-one client page (s ∷ standings) one = by_test (is_of client page s) one (newest-one client page standings)
  where
    by_test : (b : Bool) → length (cond b (s ∷ filter (is_of client page) standings) (filter (is_of client page) standings)) ≡ 1
        → (length (filter (is_of client page) standings) ≡ 1 → newest None client page standings ≡ option_map (λ standing. standing.fate) (find (is_of client page) standings))
        → newest (cond b (Some s.fate) None) client page standings ≡ option_map (λ standing. standing.fate) (cond b (Some s) (find (is_of client page) standings))
    by_test true single later = newest-none (Some s.fate) client page standings (omega arith)
    by_test false single later = later single

-- the first that passes is the first of those that pass
find-filter : (test : Standing → Bool) (standings : List Standing) → find test standings ≡ slice_get (filter test standings) 0
find-filter test [] = refl
find-filter test (s ∷ standings) = by_test (test s) (find-filter test standings)
  where
    by_test : (b : Bool) → find test standings ≡ slice_get (filter test standings) 0
        → cond b (Some s) (find test standings) ≡ slice_get (cond b (s ∷ filter test standings) (filter test standings)) 0
    by_test true later = refl
    by_test false later = later

abbrev IsAtNode : ℕ → Standing → Type 0
IsAtNode node standing = standing.client.node ≡ node

abbrev pub AreAtNode : PlainAgentBook → Type 0
AreAtNode book = All (IsAtNode book.node.0) book.standings

fails-elsewhere : (client : ClientId) (page : ℕ) (standing : Standing) → standing.client.node ≢ client.node → is_of client page standing ≡ false
fails-elsewhere client page standing apart = grind (arith, nat_tests)

none-elsewhere : (client : ClientId) (page node : ℕ) (standings : List Standing) → node ≢ client.node → All (IsAtNode node) standings → filter (is_of client page) standings ≡ []
none-elsewhere client page node [] apart at = refl
none-elsewhere client page node (s ∷ standings) apart at =
    let here : s.client.node ≡ node = at 0 s (omega arith) in
    let fails = fails-elsewhere client page s (λ same. apart (sym here ∙ same)) in
    ap (λ b. cond b (s ∷ filter (is_of client page) standings) (filter (is_of client page) standings)) fails
    ∙ none-elsewhere client page node standings apart (All-tail (IsAtNode node) s standings at)

of-book : (client : ClientId) (page : ℕ) (book : PlainAgentBook) → AreAtNode book → filter (is_of client page) book.standings ≡ filter (is_of client page) (standings_if client.node book)
of-book client page book at = by_test (book.node.0 == client.node) refl
  where
    by_test : (b : Bool) → (book.node.0 == client.node) ≡ b → filter (is_of client page) book.standings ≡ filter (is_of client page) (standings_if client.node book)
    by_test true same = ap (λ b. filter (is_of client page) (cond b book.standings [])) (sym same)
    by_test false differs =
        let apart : book.node.0 ≢ client.node = grind (arith, nat_tests) in
        none-elsewhere client page book.node.0 book.standings apart at
        ∙ ap (λ b. filter (is_of client page) (cond b book.standings [])) (sym differs)

-- the standings of a page stand at its node
at_node : (client : ClientId) (page : ℕ) (agents : List PlainAgentBook) → All AreAtNode agents → filter (is_of client page) (all_standings agents) ≡ filter (is_of client page) (standings_at agents client.node)
at_node client page [] at = refl
at_node client page (book ∷ agents) at =
    filter-append (is_of client page) book.standings (all_standings agents)
    ∙ ap₂ (λ xs ys. xs ++ ys) (of-book client page book (at 0 book (omega arith))) (at_node client page agents (All-tail AreAtNode book agents at))
    ∙ sym (filter-append (is_of client page) (standings_if client.node book) (standings_at agents client.node))

-- the newest standing of a page that has one
pub found : (agents : List PlainAgentBook) (client : ClientId) (page : ℕ) → All AreAtNode agents → length (filter (is_of client page) (standings_at agents client.node)) ≡ 1
    → newest None client page (all_standings agents) ≡ option_map (λ standing. standing.fate) (find (is_of client page) (standings_at agents client.node))
found agents client page at one =
    let same = at_node client page agents at in
    newest-one client page (all_standings agents) (ap length same ∙ one)
    ∙ ap (option_map (λ standing. standing.fate))
    (find-filter (is_of client page) (all_standings agents) ∙ ap (λ passing. slice_get passing 0) same ∙ sym (find-filter (is_of client page) (standings_at agents client.node)))

fated_by-agree : (f g : ℕ → Draw → Fate) (page : ℕ) (draws : List Draw) (notes : List PageNote) → ((i : ℕ) (draw : Draw) → slice_get draws i ≡ Some draw → f (page + i) draw ≡ g (page + i) draw)
    → fated_by f page draws notes ≡ fated_by g page draws notes
fated_by-agree f g page [] notes same = refl
fated_by-agree f g page (draw ∷ draws) [] same = refl
fated_by-agree f g page (draw ∷ draws) (note ∷ notes) same =
    let here : page + 0 ≡ page = omega arith in
    ap₂ (λ fate rest. record { note = note; fate = fate } ∷ rest)
    (sym (ap (λ p. f p draw) here) ∙ same 0 draw refl ∙ ap (λ p. g p draw) here)
    (fated_by-agree f g (page + 1) draws notes
    (λ i d at. let there : page + 1 + i ≡ page + suc i = omega arith in ap (λ p. f p d) there ∙ same (suc i) d at ∙ sym (ap (λ p. g p d) there)))

-- the pages of a book, by the newest standings
pub fated-found : (agents : List PlainAgentBook) (book : PlainClientBook) (look : ℕ → Option Fate) → All AreAtNode agents → HaveStandings agents book
    → ((page : ℕ) → look page ≡ newest None book.client page (all_standings agents))
    → fated_by (λ page draw. drawn_fate (look page) draw) 0 book.draws book.pages ≡ fated_pages agents book
fated-found agents book look at have looked =
    fated_by-agree (λ page draw. drawn_fate (look page) draw) (page_fate agents book.client) 0 book.draws book.pages by_draw
  where
    by_draw : (i : ℕ) (draw : Draw) → slice_get book.draws i ≡ Some draw → drawn_fate (look (0 + i)) draw ≡ page_fate agents book.client (0 + i) draw
    by_draw i (Empty stamp) is = refl
    by_draw i (Got buffer stamp) is =
        let here : 0 + i ≡ i = omega arith in
        ap (λ p. unwrap_or (look p) Live) here
        ∙ ap (λ fate. unwrap_or fate Live) (looked i ∙ found agents book.client i at (have i buffer stamp is))
        ∙ ap (λ p. page_fate agents book.client p (Got buffer stamp)) (sym here)
