-- That a workload comes to the same in either version, which only says how wide traces are written.
use Rattle.std.specs.Prelude.{◌≡◌, ℕ}
use Rattle.hs_records.specs.Journals.{PlainJournal}
use Rattle.hs_records.specs.Plain.{PlainWorkload}
use Rattle.hs_law_outcome.specs.Outcomes.{outcome_of}
use Rattle.hs_law_outcome.specs.Reports.{reports_of}

pub record HasOneOutcome (W : PlainWorkload) (J : PlainJournal) (version : ℕ) : Type 0 where
  pub outcome : outcome_of (record W { version = version }) J ≡ record (outcome_of W J) { version = version }
  pub reports : reports_of (record W { version = version }) J ≡ reports_of W J

abbrev pub VersionsHaveOneOutcome : Type 0
VersionsHaveOneOutcome = (W : PlainWorkload) (J : PlainJournal) (version : ℕ) → HasOneOutcome W J version
