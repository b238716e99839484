-- What the clients and the agent of a node noted, when all is done.
use Rattle.std.proofs.Common.{◌≡◌, ℕ, zero, suc, ◌+◌, List, [], ◌∷◌, ◌++◌, length, map, Some, None, refl, sym, ap, subst, ◌∙◌, arith, slice_get, append_assoc, length-append}
use Rattle.hs_replay.proofs.Prelude.{map-append, slice_get_within, range_with_len, Knows, state_of, PlainAgentBook, PlainClientBook, client_book_of, ClientBook, Chunks, Crumbs, Triggers, taken, Machine, book_of, AgentState, ReplayClientIsAt, PlainReplayClient, PlainWorkload, draws_at, operations_at, place_of, HasEnded, HaveEnded, IsBookAt, client_noted, PlainReplayNode, run_of}
use Rattle.hs_replay_client.specs.Places.{IsDone, Notes}
use Rattle.hs_replay.proofs.LeftOver.{player_at}

range_more : {A : Type 0} (f : ℕ → A) (start count : ℕ) → map f (range_with_len start (suc count)) ≡ map f (range_with_len start count) ++ f (start + count) ∷ []
range_more f start zero = let same : start ≡ start + 0 = omega arith in ap (λ i. f i ∷ []) same
range_more f start (suc count) =
    let same : start + 1 + count ≡ start + suc count = omega arith in
    ap (λ (l : List _). f start ∷ l) (range_more f (start + 1) count ∙ ap (λ i. map f (range_with_len (start + 1) count) ++ f i ∷ []) same)

-- ---- clients

-- a client that is to be noted has done all
pub is_done : (W : PlainWorkload) (m : Machine) (n : ℕ) (players : List PlainReplayClient) (place : ℕ) (player : PlainReplayClient) → HaveEnded W m n players → slice_get players place ≡ Some player → IsDone player
is_done W m n players place player ended stood =
    let at = ended.each place player stood in
    record {
      settings = W.settings;
      client = record { node = n; number = place };
      ops = operations_at W (place_of W.settings.clients n place);
      drawn = draws_at m.journal (place_of W.settings.clients n place);
      k = at.0;
      l = at.1;
      m = at.2;
      at = at.3;
    }

-- the books with one more
pub noted_more : (W : PlainWorkload) (m : Machine) (n : ℕ) (players : List PlainReplayClient) (seen : List PlainReplayClient) (player : PlainReplayClient) (before books : List ClientBook) (book : ClientBook) → HaveEnded W m n players
    → slice_get players (length seen) ≡ Some player → Notes player (client_book_of book)
    → map client_book_of books ≡ map client_book_of before ++ map (client_noted W m n) (range_with_len 0 (length seen))
    → map client_book_of (books ++ book ∷ []) ≡ map client_book_of before ++ map (client_noted W m n) (range_with_len 0 (length (seen ++ player ∷ [])))
noted_more W m n players seen player before books book ended stood notes so =
    let place = length seen in
    let at = ended.each place player stood in
    let is : client_book_of book ≡ client_noted W m n place =
    notes W.settings (record { node = n; number = place }) (operations_at W (place_of W.settings.clients n place)) (draws_at m.journal (place_of W.settings.clients n place)) at.0 at.1 at.2 at.3 in
    let count : suc place ≡ length (seen ++ player ∷ []) = let both = length-append seen (player ∷ []) in omega (arith, both) in
    let zero_on : 0 + place ≡ place = omega arith in
    map-append client_book_of books (book ∷ []) ∙ ap (λ (l : List PlainClientBook). l ++ client_book_of book ∷ []) so
    ∙ append_assoc (map client_book_of before) (map (client_noted W m n) (range_with_len 0 place)) (client_book_of book ∷ [])
    ∙ ap (λ b. map client_book_of before ++ (map (client_noted W m n) (range_with_len 0 place) ++ b ∷ [])) (is ∙ ap (client_noted W m n) (sym zero_on))
    ∙ ap (λ (l : List PlainClientBook). map client_book_of before ++ l) (sym (range_more (client_noted W m n) 0 place)) ∙ ap (λ k. map client_book_of before ++ map (client_noted W m n) (range_with_len 0 k)) count

-- ---- the node

pub have_ended : (W : PlainWorkload) (m : Machine) (n : ℕ) (node : PlainReplayNode) → HasEnded W m n node → HaveEnded W m n node.players
have_ended W m n node ended =
    record {
      count = ended.at.stands.players.count;
      each =
          λ client player stood.
          let within = slice_get_within node.players client player stood in
          let count = ended.at.stands.players.count in
          let place = place_of W.settings.clients n client in (
            taken (Chunks client) ended.at.run.state.log,
            taken (Crumbs client) ended.at.run.state.log,
            taken (Triggers client) ended.at.run.state.log,
            subst (λ k. ReplayClientIsAt W.settings (record { node = n; number = client }) (operations_at W place) (draws_at m.journal place) k (taken (Chunks client) ended.at.run.state.log) (taken (Crumbs client) ended.at.run.state.log)
                (taken (Triggers client) ended.at.run.state.log) player) (ended.done client (omega (arith, within, count))) (player_at W m n client node player ended.at stood),
          );
    }

pub may_finish : (W : PlainWorkload) (m : Machine) (n : ℕ) (node : PlainReplayNode) → HasEnded W m n node → Knows node.agent (λ run. ((state_of run).pinned ≡ []) × (run.offered ≡ None))
may_finish W m n node ended =
    λ working.
    let at = ended.at.stands.agent in
    (run_of W.settings ended.at.run at.buffers None, at.follows, (ap (λ (s : AgentState). s.pinned) (sym at.comes) ∙ ended.none, refl))

pub book_at : (W : PlainWorkload) (m : Machine) (n : ℕ) (node : PlainReplayNode) (ended : HasEnded W m n node) (book : PlainAgentBook)
    → book ≡ book_of ended.at.run.node (state_of (run_of W.settings ended.at.run ended.at.stands.agent.buffers None)) → IsBookAt W m n book
book_at W m n node ended book e = record { run = ended.at.run; at = ended.at.at; is = e ∙ ap (book_of ended.at.run.node) (sym ended.at.stands.agent.comes) }
