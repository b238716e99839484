-- Two workloads under their lockstep journals.
use Rattle.std.specs.Prelude.{◌≡◌, ℕ, refl}
use Rattle.hs_board.specs.declared.progress.Progress.{Progress}
use Rattle.hs_board.specs.Shown.{first}
use Rattle.hs_law_journal.specs.Journals
use Rattle.hs_law_journal.specs.Workloads.{nothing, three_points, evicted_then_claimed}
use Rattle.hs_run.specs.Progress.{progress_after}

abbrev seen : ℕ → ℕ → ℕ → ℕ → ℕ → ℕ → Progress
seen k a b c d e = record { rounds = k; operations = a; records = b; nulls = c; taken = d; given = e }

abbrev pub Examples : Type 0
Examples =
    (progress_after nothing Journals.of_nothing 0 ≡ first)
    × (progress_after three_points Journals.of_three_points 0 ≡ first) × (progress_after three_points Journals.of_three_points 1 ≡ seen 1 5 3 1 1 0)
    × (progress_after evicted_then_claimed Journals.of_evicted_then_claimed 2 ≡ seen 2 2 1 0 0 0)
    × (progress_after evicted_then_claimed Journals.of_evicted_then_claimed 3 ≡ seen 3 3 1 0 1 1)
    × (progress_after evicted_then_claimed Journals.of_evicted_then_claimed 7 ≡ seen 7 7 2 0 2 2)

examples : Examples
examples = (refl, refl, refl, refl, refl, refl)
