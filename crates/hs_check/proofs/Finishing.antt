-- The books of agents that follow the runs of their nodes, one after another.
use Rattle.std.proofs.Common.{◌≡◌, ℕ, ◌+◌, ◌<◌, List, [], ◌∷◌, ◌++◌, length, map, drop, get_or, None, refl, sym, ap, ◌∙◌, arith, append-nil, append_assoc}
use Rattle.hs_check.proofs.Prelude.{map-append, drop_all, found_at, found_as_many, agent_book_of, AgentBook, NodeRun, AgentState, PlainSettings, IsAgentOf, AreAgentsOf, book_at}
use Rattle.hs_agent.specs.Keeping.{PlainAgent}
use Rattle.hs_agent.specs.Points.{book_kept}
use Rattle.hs_agent.specs.Runs as agents
use Rattle.hs_check_follow.specs.Nodes.{agent_run}
use Rattle.hs_records.specs.Books.{PlainAgentBook}
use Rattle.hs_law_agent.specs.Books.{book_of}

-- the books so far, and those of the runs that are left, are those of all
abbrev pub AreBooksSo : List NodeRun → ℕ → List AgentBook → Type 0
AreBooksSo runs count books = map agent_book_of books ++ map book_at (drop count runs) ≡ map book_at runs

module _ (settings : PlainSettings) (runs : List NodeRun) (all : List (PlainAgent (Unit {0}))) (are : AreAgentsOf settings runs all) where
  -- an agent may finish
  pub may_finish : (i : ℕ) (agent : PlainAgent (Unit {0})) → i < length all → agent ≡ get_or all i agent → agents.Knows agent (λ run. ((agents.state_of run).pinned ≡ []) × (run.offered ≡ None))
  may_finish i agent low here =
      λ working.
      let at = found_at (IsAgentOf settings) runs all i agent are low here in
      let run = agent_run settings at.of at.is.stands.buffers in
      (run, at.is.stands.follows, (ap (λ (s : AgentState). s.pinned) (sym at.is.stands.comes) ∙ at.is.pinned, refl))

  -- with its book there is one more
  pub one_more : (i : ℕ) (agent : PlainAgent (Unit {0})) (books : List AgentBook) (book : AgentBook) → i < length all → agent ≡ get_or all i agent
      → ((run : agents.AgentRun (Unit {0})) → agents.Follows agent run → agent_book_of book ≡ book_kept run.keeps run.node (agents.state_of run))
      → AreBooksSo runs i books → AreBooksSo runs (i + 1) (books ++ book ∷ [])
  one_more i agent books book low here noted so =
      let at = found_at (IsAgentOf settings) runs all i agent are low here in
      let run = agent_run settings at.of at.is.stands.buffers in
      let is : agent_book_of book ≡ book_at at.of = noted run at.is.stands.follows ∙ ap (book_of at.of.node) (sym at.is.stands.comes) in
      ap (λ (l : List PlainAgentBook). l ++ map book_at (drop (i + 1) runs)) (map-append agent_book_of books (book ∷ []) ∙ ap (λ b. map agent_book_of books ++ b ∷ []) is)
      ∙ append_assoc (map agent_book_of books) (book_at at.of ∷ []) (map book_at (drop (i + 1) runs))
      ∙ sym (ap (λ (l : List NodeRun). map agent_book_of books ++ map book_at l) at.here)
      ∙ so

  pub all_books : (i : ℕ) (books : List AgentBook) → i ≡ length all → AreBooksSo runs i books → map agent_book_of books ≡ map book_at runs
  all_books i books end so =
      let many = found_as_many (IsAgentOf settings) runs all are in
      let none = drop_all i runs (omega (arith, end, many)) in
      sym (append-nil (map agent_book_of books)) ∙ sym (ap (λ (l : List NodeRun). map agent_book_of books ++ map book_at l) none) ∙ so
