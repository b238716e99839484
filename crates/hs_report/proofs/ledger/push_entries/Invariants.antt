use Rattle.std.proofs.Common.{◌≡◌, ◌++◌, take, map}
use Rattle.hs_report.proofs.Prelude.{text_of, entry_line}
use Rattle.hs_report.proofs.ledger.push_entries.Given as goal

abbrev pub invariant-loop-entry : goal.invariant-loop-entry
invariant-loop-entry l = l.out.items ≡ l.initial.out.items ++ text_of (map (entry_line l.version) (take l.entry-index l.entries))
