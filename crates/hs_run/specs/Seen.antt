-- What the watchers of a run see.
use Rattle.std.specs.Prelude.{◌≡◌, ◌⊎◌, ℕ, ◌≤◌, List, length}
use Rattle.std.specs.List.{AllByRecursion}
use Rattle.hs_board.specs.declared.progress.Progress.{Progress}
use Rattle.hs_board.specs.Shown.{first, IsLast}
use Rattle.hs_records.specs.Journals.{PlainJournal}
use Rattle.hs_law_journal.specs.Ends.{rounds_of}
use Rattle.hs_run.specs.Progress.{progress_after}
use Rattle.hs_records.specs.Plain.{PlainWorkload}
use Rattle.hs_run.specs.Noting.{NotesRounds}
use Rattle.hs_run.specs.RunStates.{RunState}
use Rattle.hs_run.specs.Coming.{Came}
use Rattle.hs_board.specs.Watching.{IsRising, IsSeenOf}
use Rattle.hs_records.specs.Validity.{IsValid}
use Rattle.hs_run.specs.Counts.{PlainRunTally, AreCounts, progress_of}

-- What one watcher saw, look by look: each how far the workload and the journal had come after its rounds, each of more rounds than those
-- before, and the last of all rounds.
pub record IsSeen (W : PlainWorkload) (J : PlainJournal) (seen : List Progress) : Type 0 where
  pub each : AllByRecursion (λ (x : Progress). x ≡ progress_after W J x.rounds) seen
  pub rises : IsRising seen
  pub last : (x : Progress) × IsLast x seen × (x.rounds ≡ rounds_of W)

-- Two watchers saw this.
abbrev pub AreSeen : PlainWorkload → PlainJournal → List (List Progress) → Type 0
AreSeen W J all = (length all ≡ 2) × AllByRecursion (IsSeen W J) all

-- ---- what is shown to them

-- The totals are the first ones, or those of the counts behind one of the rounds.
pub record IsTotalBehind (W : PlainWorkload) (rounds : ℕ) (m : RunState) (came : Came W rounds m) (x : Progress) : Type 0 where
  pub round : ℕ
  pub low : round ≤ rounds
  pub counts : PlainRunTally
  pub are : AreCounts W (came.at round) counts
  pub is : x ≡ progress_of round counts

abbrev pub IsTotal : (W : PlainWorkload) (rounds : ℕ) (m : RunState) → Came W rounds m → Progress → Type 0
IsTotal W rounds m came x = (x ≡ first) ⊎ IsTotalBehind W rounds m came x

-- Where such totals were shown, those behind the last round at last, the watchers see progress.
abbrev pub ShownIsSeen : Type 0
ShownIsSeen =
    (W : PlainWorkload) (rounds : ℕ) (m : RunState) (came : Came W rounds m) (J : PlainJournal) → IsValid W → NotesRounds W rounds m came J → rounds ≡ rounds_of W → (shown seen : List Progress)
    → AllByRecursion (IsTotal W rounds m came) shown → (x : Progress) → IsLast x shown → x.rounds ≡ rounds → IsSeenOf shown seen → IsSeen W J seen
