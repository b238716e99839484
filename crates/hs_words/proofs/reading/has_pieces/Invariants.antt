use Rattle.std.proofs.Common.{◌-◌, ◌↔◌}
use Rattle.hs_words.specs.Reading.{HasPieces}
use Rattle.hs_words.proofs.reading.has_pieces.Given as goal

abbrev pub invariant-loop-number : goal.invariant-loop-number
invariant-loop-number l = HasPieces (l.count - l._number) l.rest ↔ HasPieces l.count l.bytes
