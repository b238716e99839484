use Rattle.std.proofs.Common.{◌≡◌, ◌++◌, map, take, drop}
use Rattle.hs_words.specs.Pages.{piece_of}
use Rattle.hs_c.specs.Pages.{piece_out}
use Rattle.hs_c.proofs.pages.write_pieces.Given as goal

abbrev pub invariant-loop-i : goal.invariant-loop-i
invariant-loop-i l = l.pieces ≡ map piece_out (map piece_of (take l.i l.points)) ++ drop l.i l.initial.pieces
