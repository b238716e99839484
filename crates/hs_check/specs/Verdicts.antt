-- What is said of a journal: that it is lawful for a workload, with what the two come to, or that it is not, with the first of the
-- clauses that fails, in the order in which they are asked.
use Rattle.std.specs.Prelude.{◌≡◌, Some}
use Rattle.hs_records.specs.Journals.{PlainJournal}
use Rattle.hs_law_journal.specs.Lawful.{IsLawful, first_unlawful}
use Rattle.hs_records.specs.Plain.{PlainWorkload}
use Rattle.hs_outcome.specs.Outcomes.{IsOutcome}
use Rattle.hs_check.specs.Clauses.{number_of}
use Rattle.hs_check.specs.declared.verdict.Verdict.{Verdict}
use Rattle.hs_check.specs.declared.verdict.Verdict.TheVariants.{Lawful, Unlawful}

abbrev pub IsVerdict : PlainWorkload → PlainJournal → Verdict → Type 0
IsVerdict W J (Lawful outcome) = IsLawful W J × IsOutcome W J outcome
IsVerdict W J (Unlawful clause) = first_unlawful W J ≡ Some (number_of clause)
