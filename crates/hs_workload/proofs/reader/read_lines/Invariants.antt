use Rattle.std.proofs.Common.{◌≡◌, true, length}
use Rattle.hs_workload.proofs.Prelude.{IsSound, draft_of}
use Rattle.hs_text.specs.Tidy.{is_tidy}
use Rattle.hs_workload.proofs.ReaderAnswers.{IsAt}
use Rattle.hs_workload.proofs.reader.read_lines.Given as goal

abbrev pub invariant-loop-line : goal.invariant-loop-line
invariant-loop-line l = record { at : IsAt l.text l.rest (draft_of l.reader); sound : IsSound (draft_of l.reader); seen : l.is_seen ≡ true → is_tidy l.rest ≡ true }

abbrev pub decreases-loop-line : goal.decreases-loop-line
decreases-loop-line l = length l.rest
