-- A workload and a journal that clauses may be asked of.
use Rattle.std.specs.Prelude.{◌≡◌, true}
use Rattle.hs_records.specs.Journals.{PlainJournal}
use Rattle.hs_law_journal.specs.Played.{played}
use Rattle.hs_law_journal.specs.Shape.{has_shape}
use Rattle.hs_records.specs.Plain.{PlainWorkload}
use Rattle.hs_records.specs.Validity.{IsValid}

-- The workload is valid, and the journal has its shape.
pub record MayBegin (W : PlainWorkload) (J : PlainJournal) : Type 0 where
  pub valid : IsValid W
  pub shape : has_shape (played W J) ≡ true
