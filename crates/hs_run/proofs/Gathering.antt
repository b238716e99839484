-- The books of a run whose nodes were closed one by one.
use Rattle.std.proofs.Common.{◌≡◌, ℕ, zero, suc, ◌+◌, ◌*◌, ◌<◌, List, [], ◌∷◌, ◌++◌, length, map, Some, None, refl, sym, ap, subst, ◌∙◌, arith, slice_get, append-nil, append_assoc}
use Rattle.hs_run.proofs.Prelude.{range_with_len, slice_get_within, get_there, NodeId, PlainAgentBook, PlainClientBook, PlainJournal, after, client_book, PlainWorkload, Drawing, AreAllEnds, operations_at, place_of, IsValid, PlainClientActor, PlainCoordinatorActor, PlainClosedAgent, PlainNodeActors, RunState, RunStands, Came, AllBegin, PoolsAreKept, RunsAreLawful, NotesRounds, JournalsNoteRounds, ClosedAt, AreClosedAgentsFrom, sents_at, HaveClosedLinks, CanFinish, MayFinish, HasFinished, HaveFinished, IsNoted, books_of, first_books}
use Rattle.hs_law_journal.specs.Following.{followed}
use Rattle.hs_law_journal.specs.Lawful.{IsLawful}
use Rattle.hs_law_agent.specs.Books.{book_of}
use Rattle.hs_law_outcome.specs.Outcomes.{client_books, agent_books}
use Rattle.hs_run.specs.Laws.{IsRecounted}
use Rattle.hs_run.specs.Shutting.{IsClosedAgentFrom}
use Rattle.hs_run.proofs.ClientBooks.{node_books, books_more}
use Rattle.hs_run.proofs.Ending.{drawer_of, all_ends, all_over}

-- ---- lists of equal length

pub shut_long : (sites : List PlainNodeActors) (books : List PlainClientBook) (lists : List (List Drawing)) (nodes : List PlainClosedAgent) → HaveClosedLinks sites books lists nodes → (length nodes ≡ length sites) × (length lists ≡ length sites)
shut_long [] books [] [] h = (refl, refl)
shut_long [] books [] (n ∷ nodes) h = absurd h
shut_long [] books (l ∷ lists) nodes h = absurd h
shut_long (s ∷ sites) books [] nodes h = absurd h
shut_long (s ∷ sites) books (l ∷ lists) [] h = absurd h
shut_long (s ∷ sites) books (l ∷ lists) (n ∷ nodes) h = let rest = shut_long sites h.1 lists nodes h.4 in let a = rest.0 in let b = rest.1 in (ap suc a, ap suc b)

-- what stands at one place
pub record ShutAt (sites : List PlainNodeActors) (lists : List (List Drawing)) (node : ℕ) (site : PlainNodeActors) (shut : PlainClosedAgent) : Type 0 where
  pub from : IsClosedAgentFrom site shut
  pub drawers : slice_get lists node ≡ Some (map drawer_of site.callers)

pub shut_at : (sites : List PlainNodeActors) (books : List PlainClientBook) (lists : List (List Drawing)) (nodes : List PlainClosedAgent) → HaveClosedLinks sites books lists nodes → (node : ℕ) (site : PlainNodeActors) (shut : PlainClosedAgent) → slice_get sites node ≡ Some site → slice_get nodes node ≡ Some shut → ShutAt sites lists node site shut
shut_at [] books lists nodes h node site shut at there = let no : None ≡ Some site = at in absurd cc
shut_at (s ∷ sites) books [] nodes h node site shut at there = absurd h
shut_at (s ∷ sites) books (l ∷ lists) [] h node site shut at there = absurd h
shut_at (s ∷ sites) books (l ∷ lists) (n ∷ nodes) h zero site shut at there =
    let same : Some s ≡ Some site = at in
    let site_is : s ≡ site = cc in
    let other : Some n ≡ Some shut = there in
    let shut_is : n ≡ shut = cc in
    let has = h.3 in
    record {
      from = subst (λ (x : PlainNodeActors). IsClosedAgentFrom x shut) site_is (subst (IsClosedAgentFrom s) shut_is (record { shut = has.stands; giver = has.giver; said = has.said }));
      drawers = ap (λ (x : List Drawing). Some x) has.drawers_are ∙ ap (λ (x : PlainNodeActors). Some (map drawer_of x.callers)) site_is;
    }
shut_at (s ∷ sites) books (l ∷ lists) (n ∷ nodes) h (suc node) site shut at there = let rest = shut_at sites h.1 lists nodes h.4 node site shut at there in record { from = rest.from; drawers = rest.drawers }

pub shut_from : (m : RunState) (sites : List PlainNodeActors) → m.standing.nodes ≡ sites → (books : List PlainClientBook) (lists : List (List Drawing)) (nodes : List PlainClosedAgent) → HaveClosedLinks sites books lists nodes → AreClosedAgentsFrom m nodes
shut_from m sites is books lists nodes h =
    record {
      count = (shut_long sites books lists nodes h).0 ∙ ap length (sym is);
      each = λ node site shut at there. (shut_at sites books lists nodes h node site shut (ap (λ l. slice_get l node) (sym is) ∙ at) there).from;
    }

-- ---- closing the pools

pub may_finish : (nodes : List PlainClosedAgent) (lists : List (List Drawing)) → length lists ≡ length nodes → ((node : ℕ) (shut : PlainClosedAgent) (drawers : List Drawing) → slice_get nodes node ≡ Some shut → slice_get lists node ≡ Some drawers → CanFinish shut drawers) → MayFinish nodes lists
may_finish [] [] long each = tt
may_finish [] (l ∷ lists) long each = absurd (omega (arith, long))
may_finish (n ∷ nodes) [] long each = absurd (omega (arith, long))
may_finish (n ∷ nodes) (l ∷ lists) long each = (each 0 n l refl refl, may_finish nodes lists (omega (arith, long)) (λ node. each (suc node)))

pub finished_at : (nodes : List PlainClosedAgent) (lists : List (List Drawing)) (books : List PlainAgentBook) → HaveFinished nodes lists books → (node : ℕ) (shut : PlainClosedAgent) (drawers : List Drawing) → slice_get nodes node ≡ Some shut → slice_get lists node ≡ Some drawers
    → (book : PlainAgentBook) × (slice_get books node ≡ Some book) × HasFinished shut drawers book
finished_at [] lists books h node shut drawers at there = let no : None ≡ Some shut = at in absurd cc
finished_at (n ∷ nodes) [] books h node shut drawers at there = absurd h
finished_at (n ∷ nodes) (l ∷ lists) [] h node shut drawers at there = absurd h
finished_at (n ∷ nodes) (l ∷ lists) (b ∷ books) h zero shut drawers at there =
    let same : Some n ≡ Some shut = at in
    let shut_is : n ≡ shut = cc in
    let other : Some l ≡ Some drawers = there in
    let drawers_are : l ≡ drawers = cc in
    (b, refl, subst (λ x. HasFinished x drawers b) shut_is (subst (λ x. HasFinished n x b) drawers_are h.0))
finished_at (n ∷ nodes) (l ∷ lists) (b ∷ books) h (suc node) shut drawers at there = finished_at nodes lists books h.1 node shut drawers at there

finished_long : (nodes : List PlainClosedAgent) (lists : List (List Drawing)) (books : List PlainAgentBook) → HaveFinished nodes lists books → length books ≡ length nodes
finished_long [] [] [] h = refl
finished_long [] [] (b ∷ books) h = absurd h
finished_long [] (l ∷ lists) books h = absurd h
finished_long (n ∷ nodes) [] books h = absurd h
finished_long (n ∷ nodes) (l ∷ lists) [] h = absurd h
finished_long (n ∷ nodes) (l ∷ lists) (b ∷ books) h = ap suc (finished_long nodes lists books h.1)

-- a list by its places
by_places : {X : Type 0} (f : ℕ → X) (start count : ℕ) (xs : List X) → length xs ≡ count → ((i : ℕ) (x : X) → slice_get xs i ≡ Some x → x ≡ f (start + i)) → xs ≡ map f (range_with_len start count)
by_places f start zero [] long each = refl
by_places f start (suc count) [] long each = absurd (omega (arith, long))
by_places f start zero (x ∷ xs) long each = absurd (omega (arith, long))
by_places f start (suc count) (x ∷ xs) long each =
    let zeroth : start + 0 ≡ start = omega arith in
    ap (λ y. y ∷ xs) (each 0 x refl ∙ ap f zeroth)
    ∙ ap (λ rest. f start ∷ rest) (by_places f (start + 1) count xs (omega (arith, long)) (λ i y h. let next : start + suc i ≡ start + 1 + i = omega arith in each (suc i) y h ∙ ap f next))

-- ---- the clients' books

module _ (W : PlainWorkload) (J : PlainJournal) where
  pub noted_books : (sites : List PlainNodeActors) (books : List PlainClientBook) (lists : List (List Drawing)) (nodes : List PlainClosedAgent) → HaveClosedLinks sites books lists nodes → (first : ℕ)
      → ((node : ℕ) (site : PlainNodeActors) → slice_get sites node ≡ Some site → (length site.callers ≡ W.settings.clients) × ((number : ℕ) (caller : PlainClientActor) → slice_get site.callers number ≡ Some caller → IsNoted W J (first + node) number caller))
      → first_books W J first ++ books ≡ first_books W J (first + length sites)
  noted_books [] books [] [] h first each =
      let none : first + 0 ≡ first = omega arith in ap (λ rest. first_books W J first ++ rest) h ∙ append-nil (first_books W J first) ∙ ap (first_books W J) (sym none)
  noted_books [] books [] (n ∷ nodes) h first each = absurd h
  noted_books [] books (l ∷ lists) nodes h first each = absurd h
  noted_books (s ∷ sites) books [] nodes h first each = absurd h
  noted_books (s ∷ sites) books (l ∷ lists) [] h first each = absurd h
  noted_books (s ∷ sites) books (l ∷ lists) (n ∷ nodes) h first each =
      let zeroth : first + 0 ≡ first = omega arith in
      let here = each 0 s refl in
      let mine = node_books W J first s.callers h.0 here.0 (λ number caller at. subst (λ k. IsNoted W J k number caller) zeroth (here.1 number caller at)) h.3.notes in
      let last : suc first + length sites ≡ first + suc (length sites) = omega arith in
      ap (λ rest. first_books W J first ++ rest) (h.2 ∙ ap (λ own. own ++ h.1) mine)
      ∙ sym (append_assoc (first_books W J first) (books_of W J first) h.1)
      ∙ ap (λ front. front ++ h.1) (sym (books_more W J first))
      ∙ noted_books sites h.1 lists nodes h.4 (suc first)
      (λ node site at.
      let next : first + suc node ≡ suc first + node = omega arith in
      let there = each (suc node) site at in
      (there.0, λ number caller mine. subst (λ k. IsNoted W J k number caller) next (there.1 number caller mine)))
      ∙ ap (first_books W J) last

-- ---- all books

none_before : (n : ℕ) → 0 + n ≡ n
none_before n = omega arith

no_books : (W : PlainWorkload) (J : PlainJournal) → first_books W J 0 ≡ []
no_books W J = let none : 0 * W.settings.clients ≡ 0 = omega arith in ap (λ n. map (client_book W J) (range_with_len 0 n)) none

-- What a run comes to: a lawful journal, with the books that are gathered.
pub record Comes (W : PlainWorkload) (clients : List PlainClientBook) (agents : List PlainAgentBook) (told : List NodeId) : Type 0 where
  pub J : PlainJournal
  pub lawful : IsLawful W J
  pub clients_are : clients ≡ client_books W J
  pub agents_are : agents ≡ agent_books (followed W J)
  pub told_are : told ≡ J.told

-- And it notes the rounds that led there.
pub record ComesBehind (W : PlainWorkload) (rounds : ℕ) (m : RunState) (came : Came W rounds m) (clients : List PlainClientBook) (agents : List PlainAgentBook) (told : List NodeId) : Type 0 where
  pub come : Comes W clients agents told
  pub notes : NotesRounds W rounds m came come.J

module _ (kept : PoolsAreKept) (runs : RunsAreLawful) (W : PlainWorkload) (valid : IsValid W) (rounds : ℕ) (m : RunState) (came : Came W rounds m) (begin : AllBegin W (came.at 0)) (stand : RunStands W m)
    (all : (node client : ℕ) (site : PlainNodeActors) (caller : PlainClientActor) → slice_get m.standing.nodes node ≡ Some site → slice_get site.callers client ≡ Some caller → caller.done ≡ length (operations_at W (place_of W.settings.clients node client)))
    (sites : List PlainNodeActors) (sites_are : m.standing.nodes ≡ sites) (books : List PlainClientBook) (lists : List (List Drawing)) (first : List PlainClosedAgent) (shut : HaveClosedLinks sites books lists first)
    (nodes : List PlainClosedAgent) (c : PlainCoordinatorActor) (closed : ClosedAt W rounds m (sents_at m) nodes c)
  where
    stood : (node : ℕ) (site : PlainNodeActors) → slice_get sites node ≡ Some site → slice_get m.standing.nodes node ≡ Some site
    stood node site at = ap (λ l. slice_get l node) sites_are ∙ at

    long_nodes : length nodes ≡ length sites
    long_nodes = closed.at.stand.count ∙ sym stand.count ∙ ap length sites_are

    -- the actors of a node, and its drawers
    record Found (node : ℕ) : Type 0 where
      site : PlainNodeActors
      there : slice_get sites node ≡ Some site
      drawers : slice_get lists node ≡ Some (map drawer_of site.callers)

    found : (node : ℕ) → node < length nodes → Found node
    found node low =
        let long = long_nodes in
        let both = shut_long sites books lists first shut in
        let count = both.0 in
        let site = get_there sites node (omega (arith, low, long)) in
        let one = get_there first node (omega (arith, low, long, count)) in
        record { site = site.0; there = site.1; drawers = (shut_at sites books lists first shut node site.0 one.0 site.1 one.1).drawers }

    pub can_finish : MayFinish nodes lists
    can_finish =
        may_finish nodes lists ((shut_long sites books lists first shut).1 ∙ sym long_nodes)
        (λ node x drawers at there.
        let f = found node (slice_get_within nodes node x at) in
        let same : Some drawers ≡ Some (map drawer_of f.site.callers) = sym there ∙ f.drawers in
        let is : drawers ≡ map drawer_of f.site.callers = cc in
        let stands = (closed.at.stand.stands.each node x at).is in
        record {
          workload = W;
          work = (closed.at.posts node).work;
          all = sents_at m node;
          stands = stands;
          pinned = (closed.bare.each node x at).pinned;
          ends = subst (AreAllEnds x.giver) (sym is) (all_ends kept W rounds m came begin stand (sents_at m) nodes c closed.at node f.site x (stood node f.site f.there) at);
        })

    module _ (agents : List PlainAgentBook) (finished : HaveFinished nodes lists agents) where
      one_finished : (node : ℕ) (site : PlainNodeActors) (x : PlainClosedAgent) → slice_get m.standing.nodes node ≡ Some site → slice_get nodes node ≡ Some x → (book : PlainAgentBook) × (slice_get agents node ≡ Some book) × HasFinished x (map drawer_of site.callers) book
      one_finished node site x at there =
          let f = found node (slice_get_within nodes node x there) in
          let same : Some f.site ≡ Some site = sym (stood node f.site f.there) ∙ at in
          let is : f.site ≡ site = cc in
          finished_at nodes lists agents finished node x (map drawer_of site.callers) there (f.drawers ∙ ap (λ (s : PlainNodeActors). Some (map drawer_of s.callers)) is)

      pub comes_to : JournalsNoteRounds → ComesBehind W rounds m came books agents c.kept.log
      comes_to notes =
          let at = closed.at in
          let over =
          all_over kept W rounds m came begin stand (sents_at m) nodes c at closed.bare (λ node site x there here. let f = (one_finished node site x there here).2 in (f.tally, f.closes)) all in
          let told = runs W rounds m at.passes at.posts at.heard valid came begin at.closing over in
          let J = told.0 in
          let r = told.1 in
          record {
            come = record { J = J; lawful = r.lawful; clients_are = clients J r; agents_are = agents_so J r; told_are = at.stand.coordinates.taken.log ∙ sym r.told };
            notes = notes W rounds m at.passes at.posts at.heard valid came at.closing J r;
          }
        where
          clients : (J : PlainJournal) → IsRecounted W m closed.at.posts closed.at.heard J → books ≡ client_books W J
          clients J r =
              ap (λ front. front ++ books) (sym (no_books W J))
              ∙ noted_books W J sites books lists first shut 0
              (λ node site at.
              let s = stand.each node site (stood node site at) in
              let zeroth : node ≡ 0 + node = omega arith in (
                s.count,
                λ number caller mine.
                    subst (λ k. IsNoted W J k number caller) zeroth
                    (record { at = s.callers number caller mine; all = all node number site caller (stood node site at) mine; draws = r.draws node number site caller (stood node site at) mine }),
              ))
              ∙ ap (λ n. map (client_book W J) (range_with_len 0 n)) (ap (λ k. k * W.settings.clients) (none_before (length sites) ∙ ap length (sym sites_are) ∙ stand.count) ∙ sym valid.count)

          agents_so : (J : PlainJournal) → IsRecounted W m closed.at.posts closed.at.heard J → agents ≡ agent_books (followed W J)
          agents_so J r =
              by_places (λ node. book_of node (after W.settings node (closed.at.posts node).work.events)) 0 W.settings.nodes agents (finished_long nodes lists agents finished ∙ closed.at.stand.count)
              (λ i book h.
              let inside = slice_get_within agents i book h in
              let count = finished_long nodes lists agents finished in
              let x = get_there nodes i (omega (arith, inside, count)) in
              let f = found i (slice_get_within nodes i x.0 x.1) in
              let one = one_finished i f.site x.0 (stood i f.site f.there) x.1 in
              let same : Some one.0 ≡ Some book = sym one.1 ∙ h in
              let is : one.0 ≡ book = cc in
              let shut_now = closed.at.stand.stands.each i x.0 x.1 in
              let zeroth : i ≡ 0 + i = omega arith in
              sym is ∙ one.2.book_is W (closed.at.posts i).work (sents_at m i) shut_now.is ∙ ap (λ k. book_of k (after W.settings k (closed.at.posts i).work.events)) shut_now.node_is
              ∙ ap (λ k. book_of k (after W.settings k (closed.at.posts k).work.events)) zeroth)
              ∙ sym r.agents
