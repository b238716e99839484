-- That what is counted of a run is how far its workload and its journal have come, and when that is all of it.
use Rattle.std.specs.Prelude.{◌≡◌, ℕ, suc, ◌*◌, ◌<◌, ◌≤◌, List, length, slice_get, Some}
use Rattle.hs_records.specs.Journals.{PlainJournal}
use Rattle.hs_law_journal.specs.Ends.{rounds_of}
use Rattle.hs_run.specs.Progress.{progress_after}
use Rattle.hs_records.specs.Plain.{Operation, PlainWorkload}
use Rattle.hs_run.specs.Noting.{NotesRounds}
use Rattle.hs_run.specs.RunStates.{RunState}
use Rattle.hs_run.specs.Coming.{Came}
use Rattle.hs_records.specs.Validity.{IsValid}
use Rattle.hs_run.specs.Counts.{PlainRunTally, AreCounts, progress_of}

-- Behind each round they come to how far the workload and the journal have come.
abbrev pub CountsAreProgress : Type 0
CountsAreProgress =
    (W : PlainWorkload) (rounds : ℕ) (m : RunState) (came : Came W rounds m) (J : PlainJournal) → IsValid W → NotesRounds W rounds m came J → (k : ℕ) → k ≤ rounds → (counts : PlainRunTally) → AreCounts W (came.at k) counts
    → progress_of k counts ≡ progress_after W J k

-- Rounds in which all operations can be done, and the last of which a client needs, are all rounds of the workload.
abbrev pub TheseAreAllRounds : Type 0
TheseAreAllRounds =
    (W : PlainWorkload) (rounds : ℕ) → IsValid W → ((place : ℕ) (ops : List Operation) → slice_get W.clients place ≡ Some ops → length ops ≤ rounds * W.settings.stride)
    → ((before : ℕ) → rounds ≡ suc before → (place : ℕ) × (ops : List Operation) × (slice_get W.clients place ≡ Some ops) × (before * W.settings.stride < length ops)) → rounds ≡ rounds_of W
