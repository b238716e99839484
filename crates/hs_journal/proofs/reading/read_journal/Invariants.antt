use Rattle.std.proofs.Common.{◌≡◌, true, length}
use Rattle.hs_text.specs.JudgingLaws.{IsReading}
use Rattle.hs_text.specs.Tidy.{is_tidy}
use Rattle.hs_journal.specs.Forward.{draft_of}
use Rattle.hs_journal.proofs.Seen.{journal_reader}
use Rattle.hs_journal.proofs.reading.read_journal.Given as goal

abbrev pub invariant-loop-line : goal.invariant-loop-line
invariant-loop-line l = record { at : IsReading journal_reader l.text l.rest l.line_number (draft_of l.reader); seen : l.is_seen ≡ true → is_tidy l.rest ≡ true }

abbrev pub decreases-loop-line : goal.decreases-loop-line
decreases-loop-line l = length l.rest
