use Rattle.std.proofs.Common.{◌≡◌, ◌+◌, ◌-◌, ◌≤◌, ◌++◌, List, ℕ, length, take, drop, sym, ap, ◌∙◌, arith}
use Rattle.std.proofs.lemmas.List.{take-append-drop, length-take-le, drop_at}
use Rattle.hs_words.specs.Pages.{Piece, FitsPiece, cost_of, piece_bytes}
use Rattle.hs_words.specs.Shown.{IsBehind}
use Rattle.hs_words.proofs.Parts.{put_next}
use Rattle.hs_words.proofs.Numbers.{IsBytes-all}
use Rattle.hs_words.proofs.Layouts.{keeps}
use Rattle.hs_words.proofs.layout.put_piece.Goals as goal
use borrow.Rule.Slice.PartMut.{put_mid}

-- the buffer after the write
put : (piece : Piece) (old ys : List ℕ) (at : ℕ) → at + cost_of piece ≤ length old → ys ≡ piece_bytes piece ++ drop (cost_of piece) (take (length old - at) (drop at old))
    → put_mid at (length old - at) old ys ≡ take at old ++ (piece_bytes piece ++ drop (at + cost_of piece) old)
put piece old ys at room ys_is =
    put_next (take at old) (piece_bytes piece) old old ys at (cost_of piece) (length-take-le at old (omega (arith, room))) (sym (take-append-drop at old)) ys_is

stands : (piece : Piece) (old ys : List ℕ) (at used : ℕ) → at ≡ used + 8 → FitsPiece piece → at + cost_of piece ≤ length old → ys ≡ piece_bytes piece ++ drop (cost_of piece) (take (length old - at) (drop at old))
    → IsBehind used piece (put_mid at (length old - at) old ys)
stands piece old ys at used at_is fits room ys_is =
    let more = piece_bytes piece ++ drop (at + cost_of piece) old in
    record {
      fits = fits;
      rest = drop (at + cost_of piece) old;
      stands =
          ap (λ n. drop n (put_mid at (length old - at) old ys)) (sym at_is) ∙ ap (drop at) (put piece old ys at room ys_is)
          ∙ drop_at (take at old) more at (length-take-le at old (omega (arith, room)));
    }

pub returns-clause-holds : goal.returns-clause-holds
returns-clause-holds c =
    let piece : Piece = record { moment = c.args.moment; payload = c.args.payload.now } in
    let at = c.from-at.result + 8 in
    (keeps c.args.page.now c.args.buffer.now _ _ at c.requires.holds (ap (λ n. n + 8) c.from-at.ensures)
    (put piece c.args.buffer.now c.write_piece.new.buffer at (omega (arith, c.requires.room, c.from-at.ensures)) c.write_piece.ensures)).0

pub returns-clause-sheet : goal.returns-clause-sheet
returns-clause-sheet c =
    let piece : Piece = record { moment = c.args.moment; payload = c.args.payload.now } in
    let at = c.from-at.result + 8 in
    (keeps c.args.page.now c.args.buffer.now _ _ at c.requires.holds (ap (λ n. n + 8) c.from-at.ensures)
    (put piece c.args.buffer.now c.write_piece.new.buffer at (omega (arith, c.requires.room, c.from-at.ensures)) c.write_piece.ensures)).1

pub returns-clause-behind : goal.returns-clause-behind
returns-clause-behind c =
    let piece : Piece = record { moment = c.args.moment; payload = c.args.payload.now } in
    stands piece c.args.buffer.now c.write_piece.new.buffer (c.from-at.result + 8) c.args.page.now.used (ap (λ n. n + 8) c.from-at.ensures) (record { moment = omega (arith, c.ranges.moment); len = omega (arith, c.requires.room, c.requires.small); payload = IsBytes-all c.args.payload.now (λ i. omega (arith, c.type_inv.payload i)) }) (omega (arith, c.requires.room, c.from-at.ensures)) c.write_piece.ensures
