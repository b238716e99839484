use Rattle.std.proofs.Common.{refl, ap, ◌∙◌}
use Rattle.hs_words.specs.Pages.{Piece, Sheet, with_piece}
use Rattle.hs_words.proofs.layout.extend_page.Goals as goal

pub count_piece-requires-clause-piece : goal.count_piece-requires-clause-piece
count_piece-requires-clause-piece c = (record { moment = c.args.moment; payload = c.args.payload.now }, c.put_piece.ensures.behind, refl)

pub returns-clause-sheet : goal.returns-clause-sheet
returns-clause-sheet c =
    let piece : Piece = record { moment = c.args.moment; payload = c.args.payload.now } in
    c.count_piece.ensures.sheet piece c.put_piece.ensures.behind refl ∙ ap (λ (sheet : Sheet). with_piece sheet piece) c.put_piece.ensures.sheet
