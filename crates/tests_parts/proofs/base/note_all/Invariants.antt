use Rattle.std.proofs.Common.{◌≡◌}
use Rattle.tests_parts.proofs.base.note_all.Given as goal

abbrev pub invariant-loop-item : goal.invariant-loop-item
invariant-loop-item l = l.notes.keeps ≡ l.initial.notes.keeps
