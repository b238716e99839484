use Rattle.hs_records.proofs.PagePieces.{pages_hold_the_pieces}
use Rattle.hs_records.proofs.laws.pages_hold_the_pieces.Goals as goal

pub returns : goal.returns
returns c = pages_hold_the_pieces
