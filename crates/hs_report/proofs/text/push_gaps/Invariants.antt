use Rattle.std.proofs.Common.{◌≡◌, ◌++◌, take}
use Rattle.hs_report.proofs.Loops.{gap_lines}
use Rattle.hs_report.proofs.text.push_gaps.Given as goal

abbrev pub invariant-loop-entry : goal.invariant-loop-entry
invariant-loop-entry l = l.out.items ≡ l.initial.out.items ++ gap_lines l.version (take l.entry-index l.entries)
