-- Two worked comparisons, of workloads under their lockstep journals.
use Rattle.std.specs.Prelude.{◌≡◌, ℕ, refl}
use Rattle.hs_records.specs.Plain.{PlainWorkload}
use Rattle.hs_records.specs.Journals.{PlainJournal}
use Rattle.hs_law_journal.specs.Journals
use Rattle.hs_law_journal.specs.Workloads.{evicted_then_claimed, one_token}
use Rattle.hs_law_outcome.specs.Outcomes.{outcome_of}
use Rattle.hs_compare.specs.Lines.{PlainLine, PlainComparison, comparison_of}

abbrev compared : PlainWorkload → PlainJournal → ℕ → ℕ → PlainComparison
compared W J one_in room = let o = outcome_of W J in comparison_of W o.entries o.claimed one_in room

abbrev line : ℕ → ℕ → ℕ → ℕ → PlainLine
line a b c d = record { records = a; traces = b; whole = c; shipped = d }

abbrev of_eleven : PlainComparison
of_eleven = record { head = line 2 1 1 2; tail = line 2 1 1 2; ring = line 2 1 1 2; hindsight = line 1 1 0 1; gap = 1; limited = 0 }

abbrev of_thirteen : PlainComparison
of_thirteen = record { head = line 3 3 3 3; tail = line 3 3 3 3; ring = line 1 1 1 3; hindsight = line 2 2 2 2; gap = 0; limited = 1 }

-- an evicted record that is named later
evicted_is_a_gap : compared evicted_then_claimed Journals.of_evicted_then_claimed 1 1 ≡ of_eleven
evicted_is_a_gap = refl

-- a ring of one record has only the last of three traces
ring_of_one : compared one_token Journals.of_one_token 1 1 ≡ of_thirteen
ring_of_one = refl

abbrev pub Examples : Type 0
Examples = (compared evicted_then_claimed Journals.of_evicted_then_claimed 1 1 ≡ of_eleven) × (compared one_token Journals.of_one_token 1 1 ≡ of_thirteen)
