use Rattle.std.proofs.Common.{false, refl}
use Rattle.hs_live.proofs.Prelude.{writing_in}
use Rattle.hs_live.proofs.Steps.{wrote}
use Rattle.hs_live.proofs.writer.Writer.put.Goals as goal

pub returns-clause-written : goal.returns-clause-written
returns-clause-written c = λ made pieces later all is.
    wrote made pieces later all (writing_in c.args.self.now) _ c.args.moment c.args.payload.now false c.requires.may c.write.ensures refl refl is
