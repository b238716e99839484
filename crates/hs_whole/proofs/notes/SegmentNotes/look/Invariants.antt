use Rattle.std.proofs.Common.{◌≡◌, ◌-◌}
use Rattle.hs_whole.specs.declared.answers.TheConstants.{MOST_LOOKS}
use Rattle.hs_whole.specs.Notes.{looked}
use Rattle.hs_whole.proofs.notes.SegmentNotes.look.Given as goal

-- what is left to look at comes to the same
abbrev pub invariant-loop : goal.invariant-loop
invariant-loop l = looked (MOST_LOOKS - l.counter) l.self ≡ looked MOST_LOOKS l.fn.self
