use Rattle.std.proofs.Common.{◌≡◌, true, ◌||◌, drop}
use Rattle.hs_text.specs.Text.{has_bad_byte}
use Rattle.hs_text.proofs.Lines.{has_gap}
use Rattle.hs_text.proofs.reading.line_fault.Given as goal

abbrev pub invariant-loop-byte : goal.invariant-loop-byte
invariant-loop-byte l =
    record {
      bytes : has_bad_byte l.line ≡ has_bad_byte (drop l.byte-index l.line);
      gaps : has_gap true l.line ≡ (l.has_gap || has_gap l.is_behind_space (drop l.byte-index l.line));
    }
