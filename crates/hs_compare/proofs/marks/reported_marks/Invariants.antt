use Rattle.std.proofs.Common.{◌≡◌, map, take}
use Rattle.hs_compare.proofs.Prelude.{Entry, is_reported}
use Rattle.hs_compare.proofs.marks.reported_marks.Given as goal

abbrev pub invariant-loop-entry : goal.invariant-loop-entry
invariant-loop-entry l = l.marks.items ≡ map (λ (e : Entry). is_reported e.fate) (take l.entry-index l.entries)
