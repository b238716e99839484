-- What a valid workload has room for: its records can be counted with 32 bits, and the pages that its agents report are
-- pages.
use Rattle.std.specs.Prelude.{◌<◌, ◌^◌, length}
use Rattle.std.specs.List.{AllByRecursion}
use Rattle.hs_records.specs.Journals.{PlainJournal}
use Rattle.hs_law_outcome.specs.Outcomes.{outcome_of}
use Rattle.hs_law_outcome.specs.Records.{all_records}
use Rattle.hs_records.specs.Plain.{PlainWorkload}
use Rattle.hs_words.specs.Pages.{IsPage}
use Rattle.hs_records.specs.Validity.{IsValid}

abbrev pub RecordsAreFew : Type 0
RecordsAreFew = (W : PlainWorkload) → IsValid W → length (all_records W) < 2 ^ 32

abbrev pub ReportedPagesArePages : Type 0
ReportedPagesArePages = (W : PlainWorkload) (J : PlainJournal) → IsValid W → AllByRecursion IsPage (outcome_of W J).reported
