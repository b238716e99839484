-- The books of the nodes, one node after another.
use Rattle.std.proofs.Common.{◌≡◌, ℕ, zero, suc, ◌+◌, ◌*◌, ◌/◌, ◌<◌, ◌≤◌, List, [], ◌∷◌, ◌++◌, length, map, take, Some, refl, sym, ap, subst, ◌∙◌, arith, slice_get, mul-le-mul_right}
use Rattle.hs_replay.proofs.Prelude.{div-mul-add, eqb-true, map-append, slice_get_within, range_with_len, range_append, take_whole, suc_le, NodeId, Message, Messages, PlainCoordinator, HasTaken, ClientId, PlainAgentBook, PlainClientBook, agent_book_of, client_book_of, PlainJournal, ClientBook, is_left_bare, NodeRun, Run, followed, Machine, lockstep, heard_in, MachinesAreWhole, book_of, client_book, PlainWorkload, draws_at, operations_at, place_of, AllClosed, HasEnded, IsBookAt, client_noted, PlainReplayNode}
use Rattle.std.proofs.Math.Nat.{mul-add-mod_self_right, mod-eq_of_lt}
use Rattle.std.proofs.lemmas.List.{nil_from_length}
use Rattle.hs_base.proofs.Tests.{list_all_at}
use Rattle.hs_base.proofs.Bools.{second_true}
use Rattle.hs_base.proofs.Places.{take_more}
use Rattle.hs_client.specs.Calls.{note_of}
use Rattle.hs_records.specs.declared.books.AgentBook.{AgentBook}
use Rattle.hs_law_outcome.specs.Outcomes.{client_at, client_books, agent_books}
use Rattle.hs_records.specs.Pages.{pages_of}

-- ---- lists

-- two functions that agree place by place
agree : {A : Type 0} (f g : ℕ → A) (s t count : ℕ) → ((i : ℕ) → i < count → f (s + i) ≡ g (t + i)) → map f (range_with_len s count) ≡ map g (range_with_len t count)
agree f g s t zero each = refl
agree f g s t (suc count) each =
    let s0 : s ≡ s + 0 = omega arith in
    let t0 : t + 0 ≡ t = omega arith in
    let first : f s ≡ g t = ap f s0 ∙ each 0 (omega arith) ∙ ap g t0 in
    let rest : map f (range_with_len (s + 1) count) ≡ map g (range_with_len (t + 1) count) =
    agree f g (s + 1) (t + 1) count
    (λ i low. let si : s + 1 + i ≡ s + suc i = omega arith in let ti : t + suc i ≡ t + 1 + i = omega arith in ap f si ∙ each (suc i) (omega (arith, low)) ∙ ap g ti) in
    ap (λ (l : List _). f s ∷ l) rest ∙ ap (λ x. x ∷ map g (range_with_len (t + 1) count)) first

place_there : (each node nodes client : ℕ) → node < nodes → client < each → place_of each node client < nodes * each
place_there each node nodes client low below =
    let rows = mul-le-mul_right each (suc_le node nodes low) in
    let row : suc node * each ≡ node * each + each = omega arith in
    omega (arith, rows, row, below)

-- ---- one node

-- the client at the place of a node's client
client_is : (each node client : ℕ) → client < each → record { node = node; number = client } ≡ client_at each (node * each + client)
client_is each node client low = ap (λ n. record { node = n; number = client }) (sym (div-mul-add node each client low)) ∙ ap (λ k. record { node = (node * each + client) / each; number = k }) (sym (mul-add-mod_self_right node each client ∙ mod-eq_of_lt low))

node_books : (W : PlainWorkload) (m : Machine) (n : ℕ) → map (client_noted W m n) (range_with_len 0 W.settings.clients) ≡ map (client_book W m.journal) (range_with_len (n * W.settings.clients) W.settings.clients)
node_books W m n =
    agree (client_noted W m n) (client_book W m.journal) 0 (n * W.settings.clients) W.settings.clients
    (λ i low.
    let zero_on : 0 + i ≡ i = omega arith in
    let place = n * W.settings.clients + i in
    ap (client_noted W m n) zero_on ∙ ap (λ (c : ClientId). record { client = c; draws = draws_at m.journal place; pages = map note_of (pages_of W.settings.size (operations_at W place)) }) (client_is W.settings.clients n i low))

module _ (whole : MachinesAreWhole) (W : PlainWorkload) (nodes : List PlainReplayNode) (coordinator : PlainCoordinator) (closed : AllClosed W nodes coordinator) where
  abbrev pub last : Machine
  last = closed.last

  abbrev run : Run
  run = followed W closed.last.journal

  -- a node has ended
  pub has_ended : (n : ℕ) (node : PlainReplayNode) → slice_get nodes n ≡ Some node → HasEnded W closed.last n node
  has_ended n node stood =
      let at = closed.at.nodes_are.each n node stood in
      let within = slice_get_within nodes n node stood in
      let count = closed.at.nodes_are.count in
      let low : n < W.settings.nodes = omega (arith, within, count) in
      record {
        at = at;
        done = λ client below. closed.done (place_of W.settings.clients n client) (subst (λ k. place_of W.settings.clients n client < k) (sym closed.at.valid.count) (place_there W.settings.clients n W.settings.nodes client low below));
        none = nil_from_length at.run.state.pinned (eqb-true (length at.run.state.pinned) 0 (second_true _ _ (list_all_at (is_left_bare run) run.nodes n at.run closed.bare at.at)));
      }

  -- the books of the clients of the first so many nodes
  pub clients_more : (k : ℕ) (before after : List ClientBook) → map client_book_of after ≡ map client_book_of before ++ map (client_noted W closed.last k) (range_with_len 0 W.settings.clients)
      → map client_book_of before ≡ map (client_book W closed.last.journal) (range_with_len 0 (k * W.settings.clients)) → map client_book_of after ≡ map (client_book W closed.last.journal) (range_with_len 0 (suc k * W.settings.clients))
  clients_more k before after e so =
      let f = client_book W closed.last.journal in
      let each = W.settings.clients in
      let row : suc k * each ≡ k * each + each = omega arith in
      let zero_on : 0 + k * each ≡ k * each = omega arith in
      e ∙ ap (λ (l : List PlainClientBook). l ++ map (client_noted W closed.last k) (range_with_len 0 each)) so
      ∙ ap (λ (l : List PlainClientBook). map f (range_with_len 0 (k * each)) ++ l) (node_books W closed.last k)
      ∙ ap (λ s. map f (range_with_len 0 (k * each)) ++ map f (range_with_len s each)) (sym zero_on)
      ∙ sym (map-append f (range_with_len 0 (k * each)) (range_with_len (0 + k * each) each)) ∙ ap (map f) (sym (range_append 0 (k * each) each)) ∙ ap (λ c. map f (range_with_len 0 c)) (sym row)

  abbrev pub book_at : NodeRun → PlainAgentBook
  book_at node = book_of node.node node.state

  -- the books of the agents of the first so many nodes
  pub agents_more : (k : ℕ) (before : List AgentBook) (book : AgentBook) → IsBookAt W closed.last k (agent_book_of book) → map agent_book_of before ≡ map book_at (take k run.nodes)
      → map agent_book_of (before ++ book ∷ []) ≡ map book_at (take (suc k) run.nodes)
  agents_more k before book at so =
      map-append agent_book_of before (book ∷ []) ∙ ap (λ (l : List PlainAgentBook). l ++ agent_book_of book ∷ []) so ∙ ap (λ b. map book_at (take k run.nodes) ++ b ∷ []) at.is
      ∙ sym (map-append book_at (take k run.nodes) (at.run ∷ [])) ∙ ap (map book_at) (sym (take_more run.nodes k at.run at.at))

  -- all nodes
  pub all_clients : (k : ℕ) (books : List ClientBook) → k ≡ length nodes → map client_book_of books ≡ map (client_book W closed.last.journal) (range_with_len 0 (k * W.settings.clients)) → map client_book_of books ≡ client_books W (lockstep W)
  all_clients k books all so =
      let count : k * W.settings.clients ≡ length W.clients = ap (λ c. c * W.settings.clients) (all ∙ closed.at.nodes_are.count) ∙ sym closed.at.valid.count in
      so ∙ ap (λ c. map (client_book W closed.last.journal) (range_with_len 0 c)) count ∙ ap (client_books W) closed.journal

  pub all_agents : (k : ℕ) (books : List AgentBook) → k ≡ length nodes → map agent_book_of books ≡ map book_at (take k run.nodes) → map agent_book_of books ≡ agent_books (followed W (lockstep W))
  all_agents k books all so =
      let count = (whole W closed.at.valid closed.last closed.at.reached).count in
      let nodes_count = closed.at.nodes_are.count in
      let enough : length run.nodes ≤ k = omega (arith, all, count, nodes_count) in
      so ∙ ap (map book_at) (take_whole run.nodes k enough) ∙ ap (λ (J : PlainJournal). agent_books (followed W J)) closed.journal

-- the nodes that told what the coordinator heard
pub told_is : MachinesAreWhole → (W : PlainWorkload) (nodes : List PlainReplayNode) (coordinator : PlainCoordinator) (closed : AllClosed W nodes coordinator) (names : List NodeId)
    → ((messages : Messages) → HasTaken coordinator messages → names ≡ map (λ (m : Message). m.node) messages) → names ≡ (lockstep W).told
told_is whole W nodes coordinator closed names log =
    log (heard_in W closed.last.journal) closed.at.coordinator_is.taken ∙ (whole W closed.at.valid closed.last closed.at.reached).told ∙ ap (λ (J : PlainJournal). J.told) closed.journal
