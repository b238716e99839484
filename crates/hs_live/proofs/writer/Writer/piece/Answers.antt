use Rattle.std.proofs.Common.{refl}
use Rattle.hs_live.proofs.Prelude.{writing_in}
use Rattle.hs_live.proofs.Steps.{wrote}
use Rattle.hs_live.proofs.writer.Writer.piece.Goals as goal

pub returns-then-has_room-clause-written : goal.returns-then-has_room-clause-written
returns-then-has_room-clause-written c = λ made pieces later all is.
    wrote made pieces later all (writing_in c.args.self.now) _ c.args.moment c.args.payload.now c.args.more
    (c.requires.left, c.requires.open, c.requires.narrow, c.if-has_room.ensures.room refl) c.write.ensures refl refl is
