-- That what is told pass by pass is what following its journal leads to, and each clause of the lawful journal, said of what is
-- told.
use Rattle.std.specs.Prelude.{◌≡◌, true}
use Rattle.std.specs.List.{AllByRecursion}
use Rattle.hs_records.specs.Plain.{PlainWorkload}
use Rattle.hs_law_journal.specs.Ends.{is_followed, has_rounds, is_bare}
use Rattle.hs_law_journal.specs.Following.{NodeRun, followed}
use Rattle.hs_law_journal.specs.Lawful.{IsLawful}
use Rattle.hs_law_journal.specs.Pace.{has_pace}
use Rattle.hs_law_journal.specs.Passes.{has_passes, has_offers}
use Rattle.hs_law_journal.specs.Played.{played}
use Rattle.hs_law_journal.specs.Pooled.{pool_history, has_answers}
use Rattle.hs_law_journal.specs.Shape.{has_shape, has_stamps}
use Rattle.hs_law_journal.specs.Unreads.{has_unreads}
use Rattle.hs_words.specs.PoolHistory.{IsPoolHistory}
use Rattle.hs_law_journal.specs.Doings.{Doings, journal_of, run_of}
use Rattle.hs_law_run.specs.Pools.{KeepPools}
use Rattle.hs_law_run.specs.Facts.{ArePlayable, HaveDrawn, HavePasses, HaveRounds, HaveNothingLeft, HaveOffers, KeepPace}

abbrev pub DoingsAreFollowed : Type 0
DoingsAreFollowed = (W : PlainWorkload) (d : Doings) → ArePlayable W d → followed W (journal_of W d) ≡ run_of W d

-- L8: so the journal can be followed
abbrev pub CanBeFollowed : Type 0
CanBeFollowed = (W : PlainWorkload) (d : Doings) → ArePlayable W d → is_followed (played W (journal_of W d)) ≡ true

-- L1: the shape
abbrev pub HaveShape : Type 0
HaveShape = (W : PlainWorkload) (d : Doings) → ArePlayable W d → HaveDrawn W d → has_shape (played W (journal_of W d)) ≡ true

-- L5: whole passes
abbrev pub AreWholePasses : Type 0
AreWholePasses = (W : PlainWorkload) (d : Doings) → ArePlayable W d → HavePasses W d → has_passes (played W (journal_of W d)) ≡ true

-- L9: passes enough
abbrev pub AreEnough : Type 0
AreEnough = (W : PlainWorkload) (d : Doings) → ArePlayable W d → HavePasses W d → HaveRounds W d → has_rounds (played W (journal_of W d)) ≡ true

-- L10: nothing is left over
abbrev pub AreBare : Type 0
AreBare = (W : PlainWorkload) (d : Doings) → ArePlayable W d → HaveNothingLeft W d → is_bare (played W (journal_of W d)) ≡ true

-- L6: all offers are made
abbrev pub MakeTheirOffers : Type 0
MakeTheirOffers = (W : PlainWorkload) (d : Doings) → ArePlayable W d → HaveOffers W d → has_offers (played W (journal_of W d)) ≡ true

-- L11: agents and coordinator keep pace
abbrev pub AreInPace : Type 0
AreInPace = (W : PlainWorkload) (d : Doings) → ArePlayable W d → HavePasses W d → KeepPace W d → has_pace (played W (journal_of W d)) ≡ true

-- L2: stamps number the events of each node
abbrev pub AreStamped : Type 0
AreStamped = (W : PlainWorkload) (d : Doings) → ArePlayable W d → KeepPools W d → has_stamps (played W (journal_of W d)) ≡ true

-- L3: which are a history of its pool
abbrev pub AreHistories : Type 0
AreHistories =
    (W : PlainWorkload) (d : Doings) → ArePlayable W d → KeepPools W d → AllByRecursion (λ (run : NodeRun). IsPoolHistory W.settings.buffers (pool_history run)) (followed W (journal_of W d)).nodes

-- L4: a give answers the draw of its chunk
abbrev pub GivesAnswer : Type 0
GivesAnswer = (W : PlainWorkload) (d : Doings) → ArePlayable W d → KeepPools W d → has_answers (played W (journal_of W d)) ≡ true

-- ---- all clauses

-- All that the parts of a run promise, but for what they say of offers that were unread.
pub record AreLawfulDoings (W : PlainWorkload) (d : Doings) : Type 0 where
  pub playable : ArePlayable W d
  pub drawn : HaveDrawn W d
  pub passes : HavePasses W d
  pub rounds : HaveRounds W d
  pub left : HaveNothingLeft W d
  pub offers : HaveOffers W d
  pub pace : KeepPace W d
  pub pools : KeepPools W d

-- Then the journal is lawful, if what is unread could be.
abbrev pub DoingsAreLawful : Type 0
DoingsAreLawful = (W : PlainWorkload) (d : Doings) → AreLawfulDoings W d → has_unreads (played W (journal_of W d)) ≡ true → IsLawful W (journal_of W d)
