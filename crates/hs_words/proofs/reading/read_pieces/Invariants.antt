use Rattle.std.proofs.Common.{◌≡◌, ◌-◌, ◌≤◌, ◌++◌, length, map}
use Rattle.std.specs.List.{AllByRecursion}
use Rattle.hs_words.specs.Pages.{FitsPiece, piece_of, pieces_bytes}
use Rattle.hs_words.specs.Reading.{HasPieces}
use Rattle.hs_words.proofs.reading.read_pieces.Given as goal

-- what was read stands in front of the rest
abbrev pub invariant-loop-number : goal.invariant-loop-number
invariant-loop-number l = record {
  fits : AllByRecursion FitsPiece (map piece_of l.points.items);
  many : length l.points.items ≡ l._number;
  read : pieces_bytes (map piece_of l.points.items) ++ l.rest ≡ l.bytes;
  room : l.count ≤ l.points.room;
  left : HasPieces (l.count - l._number) l.rest;
}
