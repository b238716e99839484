use Rattle.std.proofs.Common.{◌≡◌, take}
use Rattle.hs_report.proofs.Prelude.{contains, RecordId, is_same, was_reported}
use Rattle.hs_report.proofs.fates.reported_ids.Given as goal

abbrev pub invariant-loop-entry : goal.invariant-loop-entry
invariant-loop-entry l = (id : RecordId) → contains is_same l.ids id ≡ was_reported (take l.entry-index l.entries) id
