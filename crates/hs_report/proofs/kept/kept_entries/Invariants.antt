use Rattle.std.proofs.Common.{◌≡◌, take}
use Rattle.hs_report.proofs.Prelude.{contains, filter, same_trace, is_kept}
use Rattle.hs_report.proofs.kept.kept_entries.Given as goal

abbrev pub invariant-loop-entry : goal.invariant-loop-entry
invariant-loop-entry l = record {
  kept : l.kept.items ≡ filter (is_kept l.claimed) (take l.entry-index l.entries);
  known : l.known.is ≡ contains same_trace l.set l.known.trace;
}
