use Rattle.std.proofs.Common.{◌∙◌, add-one, arith}
use Rattle.hs_c.proofs.Pieces.{next_out, all_out}
use Rattle.hs_c.proofs.pages.write_pieces.Goals as goal

pub loop-i-preserved : goal.loop-i-preserved
loop-i-preserved c =
    let next = next_out c.args.points.now c.args.pieces.now c.loop-i.i c.index-points-i.result (omega arith) (omega arith) c.index-points-i.is in
    rw add-one (cc (next, c.loop-i.invariant, c.piece_out.ensures))

pub returns : goal.returns
returns c = c.loop-i.invariant ∙ all_out c.args.points.now c.args.pieces.now c.loop-i.i (omega arith) (omega arith) (λ some room. omega arith)
