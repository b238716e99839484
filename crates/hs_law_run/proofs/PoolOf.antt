-- The pool of a node of a run of so many rounds, over the passes of its agent.
use Rattle.hs_law_run.proofs.Prelude.{AllByRecursion, range_with_len, PlainJournal, sheets_of, AgentEvent, PlainWorkload, count_started, draws_at, place_of, ops_of, Deed, IsTogether, NodeDoings, events_in, last_state, draw_answer, Lent, AreTurns, done_by, PoolEndsGoOn}
use Rattle.std.specs.Prelude.{◌≡◌, ℕ, suc, ◌*◌, ◌<◌, ◌≤◌, List, [], length, map, reverse, slice_get, Some}
use Rattle.hs_records.specs.declared.journal.Draw.TheVariants as draws
use Rattle.hs_law_run.specs.Ends.{PoolEnds, PoolEndsMeet}

-- The lease names the draw that the journal notes for the page.
pub record IsDrawnFor (W : PlainWorkload) (J : PlainJournal) (node : ℕ) (lent : Lent) : Type 0 where
  pub client : lent.sheet.header.client.number < W.settings.clients
  pub draw : slice_get (draws_at J (place_of W.settings.clients node lent.sheet.header.client.number)) lent.sheet.header.page ≡ Some (draws.Got lent.buffer lent.draw)

-- The pool of a node of a run of so many rounds.
pub record IsPoolOf (W : PlainWorkload) (J : PlainJournal) (n : NodeDoings) (rounds : ℕ) : Type 0 where
  -- the ends behind so many passes
  pub at : ℕ → PoolEnds
  pub enough : rounds ≤ length n.passes
  pub new : (client : ℕ) → client < W.settings.clients → (at 0).answers client ≡ []
  pub passes : (k : ℕ) (pass : List AgentEvent) → slice_get n.passes k ≡ Some pass → PoolEndsGoOn pass (at k) (at (suc k))
  pub meets : (k client : ℕ) → k < rounds → client < W.settings.clients → PoolEndsMeet client (at k) (at (suc k))
  -- each client drew for the pages that it started, and has done all of its operations
  pub started : (k client : ℕ) → k ≤ rounds → client < W.settings.clients → length ((at k).answers client) ≡ count_started W.settings.size (ops_of W n.node client) (done_by W n.node client k)
  pub done : (client : ℕ) → client < W.settings.clients → length (ops_of W n.node client) ≤ rounds * W.settings.stride
  pub drawn : (client : ℕ) → client < W.settings.clients → map draw_answer (draws_at J (place_of W.settings.clients n.node client)) ≡ reverse ((at rounds).answers client)
  -- the chunks as they came
  pub lents : List Lent
  pub turns : (k : ℕ) → k ≤ length n.passes → AreTurns W.settings n.node lents (events_in n k) (at k).turns
  pub sheets : map (λ (lent : Lent). lent.sheet) lents ≡ sheets_of (last_state W.settings n).taken
  pub leases : AllByRecursion (IsDrawnFor W J n.node) lents
  -- what closing the pool tells
  pub log : List Deed
  pub together : IsTogether W.settings.buffers (at (length n.passes)).turns (map (at rounds).answers (range_with_len 0 W.settings.clients)) log
