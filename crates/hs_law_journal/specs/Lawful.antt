-- When a journal is lawful for a workload: where eleven clauses hold. They are asked in an order in which each can rely on those
-- before it: what a give gives is known once the journal was followed. The first that fails is what is said of a journal.
use Rattle.std.specs.Prelude.{◌≡◌, ℕ, Bool, true, not, List, [], ◌∷◌, Option, option_map, find}
use Rattle.std.specs.List.{AllByRecursion}
use Rattle.hs_records.specs.Journals.{PlainJournal}
use Rattle.hs_records.specs.Plain.{PlainWorkload}
use Rattle.hs_words.specs.PoolHistory.{IsPoolHistory}
use Rattle.hs_law_journal.specs.Ends.{is_followed, has_rounds, is_bare}
use Rattle.hs_law_journal.specs.Following.{NodeRun, followed}
use Rattle.hs_law_journal.specs.Pace.{has_pace}
use Rattle.hs_law_journal.specs.Passes.{has_passes, has_offers}
use Rattle.hs_law_journal.specs.Played.{Played, played}
use Rattle.hs_law_journal.specs.Pooled.{has_history, has_answers, pool_history}
use Rattle.hs_law_journal.specs.Shape.{has_shape, has_stamps}
use Rattle.hs_law_journal.specs.Unreads.{has_unreads}

pub record IsLawful (W : PlainWorkload) (J : PlainJournal) : Type 0 where
  -- the journal has the shape of the workload
  pub L1 : has_shape (played W J) ≡ true
  -- stamps number the events of each node
  pub L2 : has_stamps (played W J) ≡ true
  -- which are a history of its pool
  pub L3 : AllByRecursion (λ (run : NodeRun). IsPoolHistory W.settings.buffers (pool_history run)) (followed W J).nodes
  -- a give answers the draw of its chunk
  pub L4 : has_answers (played W J) ≡ true
  -- every log is one whole pass after another
  pub L5 : has_passes (played W J) ≡ true
  -- in each pass all offers are made
  pub L6 : has_offers (played W J) ≡ true
  -- what is unread could be
  pub L7 : has_unreads (played W J) ≡ true
  -- the journal can be followed
  pub L8 : is_followed (played W J) ≡ true
  -- there are passes enough, and everywhere as many
  pub L9 : has_rounds (played W J) ≡ true
  -- nothing is left over
  pub L10 : is_bare (played W J) ≡ true
  -- agents and coordinator keep pace
  pub L11 : has_pace (played W J) ≡ true

-- a clause by its number
pub record Clause : Type 0 where
  pub number : ℕ
  pub holds : Played → Bool

-- the clauses in the order in which they are asked
abbrev pub clauses : List Clause
clauses =
    record { number = 1; holds = has_shape } ∷ record { number = 2; holds = has_stamps } ∷ record { number = 5; holds = has_passes }
    ∷ record { number = 8; holds = is_followed } ∷ record { number = 3; holds = has_history } ∷ record { number = 4; holds = has_answers }
    ∷ record { number = 6; holds = has_offers } ∷ record { number = 7; holds = has_unreads } ∷ record { number = 9; holds = has_rounds }
    ∷ record { number = 10; holds = is_bare } ∷ record { number = 11; holds = has_pace } ∷ []

-- the first clause that fails, by its number
abbrev pub first_failing : Played → Option ℕ
first_failing p = option_map (λ (clause : Clause). clause.number) (find (λ (clause : Clause). not (clause.holds p)) clauses)

abbrev pub first_unlawful : PlainWorkload → PlainJournal → Option ℕ
first_unlawful W J = first_failing (played W J)
