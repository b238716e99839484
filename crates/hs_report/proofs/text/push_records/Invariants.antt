use Rattle.std.proofs.Common.{◌≡◌, ◌++◌, List, take}
use Rattle.hs_report.proofs.Prelude.{Entry, AreFatesOf}
use Rattle.hs_report.proofs.Loops.{record_lines}
use Rattle.hs_report.proofs.text.push_records.Given as goal

abbrev pub invariant-loop-whole : goal.invariant-loop-whole
invariant-loop-whole l =
    (entries : List Entry) → AreFatesOf entries l.fates → l.out.items ≡ l.initial.out.items ++ record_lines entries (take l.whole-index l.records)
