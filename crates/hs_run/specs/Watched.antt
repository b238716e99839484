-- What a run under watchers shows to them, round by round.
use Rattle.std.specs.Prelude.{◌≡◌, ℕ, zero, suc, ◌+◌, ◌*◌, ◌-◌, ◌<◌, ◌≤◌, List, [], ◌∷◌, ◌++◌, length, slice_get, Some}
use Rattle.std.specs.List.{AllByRecursion}
use Rattle.hs_board.specs.declared.progress.Progress.{Progress}
use Rattle.hs_board.specs.Shown.{first, IsLast}
use Rattle.hs_run.specs.Counts.{PlainRunTally, AreCounts, progress_of}
use Rattle.hs_run.specs.Seen.{IsSeen, IsTotal}
use Rattle.hs_run_actors.specs.Coordinators.{PlainCoordinatorActor}
use Rattle.hs_records.specs.Journals.{PlainJournal}
use Rattle.hs_law_journal.specs.Ends.{rounds_of}
use Rattle.hs_records.specs.Plain.{Operation, PlainWorkload}
use Rattle.hs_board.specs.Watching.{ShownTotals, Showing, WatchStands, BothLookTimes, BothKnowLastSeen, HaveLookedInAll, IsLater, KnowLast, EndsAtLatest, IsSeenOf}
use Rattle.hs_run.specs.declared.node.ActingNode.{ActingNode}
use Rattle.hs_run.specs.Moments.{RoundsMade, RoundsOver}
use Rattle.hs_run.specs.Tallying.{FitTotals}

-- what is shown when the totals behind so many rounds are published: they too, if there were any rounds
abbrev pub shown_on : ℕ → PlainRunTally → ShownTotals → ShownTotals
shown_on zero counts shown = shown
shown_on (suc made) counts shown = shown ++ progress_of (suc made) counts ∷ []

-- Behind so many rounds, if there were any, the sums of these counts are numbers of a total, and the rounds are more than those of
-- what is shown.
pub record MayShow (made : ℕ) (counts : PlainRunTally) (shown : ShownTotals) : Type 0 where
  pub fits : 1 ≤ made → FitTotals counts
  pub later : 1 ≤ made → IsLater (progress_of made counts) shown

-- If the watchers and their board stood right before, they stand right now. Both looked four times, and know the last that they saw.
pub record StillStands (old new : Showing) : Type 0 where
  pub by : WatchStands old → WatchStands new
  pub looks : BothLookTimes 4 old new
  pub seen : BothKnowLastSeen new

-- Some client has operations left behind so many rounds.
abbrev pub IsNeeded : PlainWorkload → ℕ → Type 0
IsNeeded W made = (place : ℕ) × (ops : List Operation) × (slice_get W.clients place ≡ Some ops) × (made * W.settings.stride < length ops)

-- So many rounds led here, each of which a client needed, and these are the counts behind them. What is shown are totals behind earlier ones.
-- Both watchers looked four times in each round, and from the second on they know what was shown at last.
pub record RoundsWatched (W : PlainWorkload) (made : ℕ) (nodes : List ActingNode) (coordinator : PlainCoordinatorActor) (counts : PlainRunTally) (watch : Showing) : Type 0 where
  pub rounds : RoundsMade W made nodes coordinator
  pub needed : (before : ℕ) → made ≡ suc before → IsNeeded W before
  pub counted : AreCounts W rounds.moment counts
  pub fits : 1 ≤ made → FitTotals counts
  pub shown : AllByRecursion (IsTotal W made rounds.moment rounds.came) watch.shown
  pub low : AllByRecursion (λ (x : Progress). x.rounds ≤ made - 1) watch.shown
  pub begins : made ≡ 0 → IsLast first watch.shown
  pub stands : WatchStands watch
  pub knows : 2 ≤ made → KnowLast watch
  pub looks : HaveLookedInAll (4 * made) watch

-- Each watcher knows what was shown at last, and noted it.
pub record WatchEnded (watch : Showing) : Type 0 where
  pub stands : WatchStands watch
  pub knows : KnowLast watch
  pub ends : EndsAtLatest watch.one × EndsAtLatest watch.other

-- All rounds of the workload led here. What is shown are totals behind them, at last those behind the last. Both watchers looked four times
-- in each round, and once at the end.
pub record AllWatched (W : PlainWorkload) (nodes : List ActingNode) (coordinator : PlainCoordinatorActor) (watch : Showing) : Type 0 where
  pub over : RoundsOver W nodes coordinator
  pub all : over.rounds ≡ rounds_of W
  pub shown : AllByRecursion (IsTotal W over.rounds over.made.moment over.made.came) watch.shown
  pub last : (x : Progress) × IsLast x watch.shown × (x.rounds ≡ over.rounds)
  pub ended : WatchEnded watch
  pub looks : HaveLookedInAll (4 * over.rounds + 1) watch

-- A watcher of what was shown saw progress of the workload and the journal, in so many looks.
pub record HaveShown (W : PlainWorkload) (J : PlainJournal) (watch : Showing) : Type 0 where
  pub ended : WatchEnded watch
  pub looks : HaveLookedInAll (4 * rounds_of W + 1) watch
  pub seen : (list : List Progress) → IsSeenOf watch.shown list → IsSeen W J list
