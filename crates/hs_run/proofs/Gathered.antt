-- The end of a run, part by part.
use Rattle.std.proofs.Common.{◌≡◌, ℕ, List, map, ap, sym, subst, ◌∙◌, slice_get}
use Rattle.hs_run.proofs.Prelude.{Result, IfOk, Listing, NodeId, Messages, PlainAgentBook, PlainClientBook, client_book_of, agent_book_of, PlainWorkload, Books, Drawing, PlainCoordinatorActor, PlainClosedAgent, RunState, RunStands, Came, IsValid, workload_of, Workload, ClosingBegins, PoolsAreKept, RunsAreLawful, JournalsNoteRounds, ClosingAt, ClosedAt, sents_at, HaveClosedLinks, MayFinish, HaveFinished, AreBooksBehind, AreGathered, RoundsOver, ActingNode, sites_of}
use Rattle.hs_base.specs.declared.ids.Memory.{Memory}
use Rattle.hs_records.specs.declared.books.AgentBook.{AgentBook}
use Rattle.hs_records.specs.declared.books.ClientBook.{ClientBook}
use Rattle.hs_run.specs.Ended.{AreEnded}
use Rattle.hs_run.proofs.Gathering.{shut_from, can_finish, ComesBehind, comes_to}
use Rattle.hs_run.proofs.Starting.{HaveSent, closing_starts}

module _ (W : PlainWorkload) (acting : List ActingNode) (c : PlainCoordinatorActor) (over : RoundsOver W acting c) where
  pub stand : RunStands W over.made.moment
  stand = over.made.here.stands

  pub ended : AreEnded (sites_of acting)
  ended =
      record {
        each = λ node site at.
            let there = ap (λ l. slice_get l node) over.made.here.nodes_are ∙ at in
            record { workload = W; node = node; work = over.made.moment.works node; stands = stand.each node site there; all = λ number caller mine. over.all node number site caller there mine };
      }

  module _ (begins : ClosingBegins) (sends : HaveSent) (books : List PlainClientBook) (lists : List (List Drawing)) (first : List PlainClosedAgent) (shut : HaveClosedLinks (sites_of acting) books lists first) where
    pub starts : ClosingAt W over.rounds over.made.moment (sents_at over.made.moment) first c
    starts =
        subst (ClosingAt W over.rounds over.made.moment (sents_at over.made.moment) first) over.made.here.coordinator_is
        (closing_starts begins sends W over.rounds over.made.moment over.made.came first (shut_from over.made.moment (sites_of acting) over.made.here.nodes_are books lists first shut))

    module _ (kept : PoolsAreKept) (runs : RunsAreLawful) (nodes : List PlainClosedAgent) (c' : PlainCoordinatorActor) (closed : ClosedAt W over.rounds over.made.moment (sents_at over.made.moment) nodes c') where
      pub may : MayFinish nodes lists
      may = can_finish kept runs W over.made.here.stands.valid over.rounds over.made.moment over.made.came over.made.ends stand over.all (sites_of acting) over.made.here.nodes_are books lists first shut nodes c' closed

      pub comes : (agents : List PlainAgentBook) → HaveFinished nodes lists agents → JournalsNoteRounds → ComesBehind W over.rounds over.made.moment over.made.came books agents c'.kept.log
      comes agents finished = comes_to kept runs W over.made.here.stands.valid over.rounds over.made.moment over.made.came over.made.ends stand over.all (sites_of acting) over.made.here.nodes_are books lists first shut nodes c' closed agents finished

behind_books : (W : PlainWorkload) (rounds : ℕ) (m : RunState) (came : Came W rounds m) → IsValid W → (books : Books) → books.version ≡ W.version → books.nodes ≡ W.settings.nodes → books.each ≡ W.settings.clients
    → ComesBehind W rounds m came (map client_book_of books.clients.items) (map agent_book_of books.agents.items) books.told.items → AreBooksBehind W rounds m came books
behind_books W rounds m came valid books version nodes each behind =
    let come = behind.come in
    (come.J, record { valid = valid; lawful = come.lawful; version = version; nodes = nodes; each = each; clients = come.clients_are; agents = come.agents_are; told = come.told_are }, behind.notes)

-- the same with the list of the same nodes
comes_so : {W : PlainWorkload} {rounds : ℕ} {m : RunState} {came : Came W rounds m} {clients : List PlainClientBook} {agents : List PlainAgentBook} {told log : List NodeId} → told ≡ log
    → ComesBehind W rounds m came clients agents log → ComesBehind W rounds m came clients agents told
comes_so {W} {rounds} {m} {came} {clients} {agents} {told} {log} is come = subst (ComesBehind W rounds m came clients agents) (sym is) come

-- the nodes of these messages
abbrev nodes_of : Messages → List NodeId
nodes_of heard = map (λ m. m.node) heard

-- The books that are gathered of a run's rounds note them.
pub behind_gathered : (w : Workload) {acting : List ActingNode} {c : PlainCoordinatorActor} (over : RoundsOver (workload_of w) acting c) (clients : Listing ClientBook) (agents : Result (Listing AgentBook) Memory) (told : Result (Listing NodeId) Memory) (books : Books)
    → AreGathered w clients agents told books → (first : List PlainClosedAgent) (lists : List (List Drawing)) → ClosingBegins → HaveSent → HaveClosedLinks (sites_of acting) (map client_book_of clients.items) lists first → PoolsAreKept → RunsAreLawful
    → (nodes : List PlainClosedAgent) (c' : PlainCoordinatorActor) (closed : ClosedAt (workload_of w) over.rounds over.made.moment (sents_at over.made.moment) nodes c') → IfOk agents (λ (l : Listing AgentBook). HaveFinished nodes lists (map agent_book_of l.items))
    → JournalsNoteRounds → IfOk told (λ (l : Listing NodeId). l.items ≡ nodes_of closed.at.heard) → AreBooksBehind (workload_of w) over.rounds over.made.moment over.made.came books
behind_gathered w {acting} {c} over clients agents told books g first lists begins sends shut kept runs nodes c' closed finished notes heard =
    let W = workload_of w in
    let done : HaveFinished nodes lists (map agent_book_of books.agents.items) =
    subst (λ (r : Result (Listing AgentBook) Memory). IfOk r (λ (l : Listing AgentBook). HaveFinished nodes lists (map agent_book_of l.items))) g.agents_are finished in
    let all : books.told.items ≡ nodes_of closed.at.heard = subst (λ (r : Result (Listing NodeId) Memory). IfOk r (λ (l : Listing NodeId). l.items ≡ nodes_of closed.at.heard)) g.told_are heard in
    let come = comes W acting c over begins sends (map client_book_of clients.items) lists first shut kept runs nodes c' closed (map agent_book_of books.agents.items) done notes in
    behind_books W over.rounds over.made.moment over.made.came over.made.here.stands.valid books g.version g.nodes g.each
    (subst (λ (l : Listing ClientBook). ComesBehind W over.rounds over.made.moment over.made.came (map client_book_of l.items) (map agent_book_of books.agents.items) books.told.items) (sym g.clients_are)
    (comes_so (all ∙ sym closed.at.stand.coordinates.taken.log) come))
