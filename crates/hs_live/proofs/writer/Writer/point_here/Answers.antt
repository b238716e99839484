use Rattle.std.proofs.Common.{arith}
use Rattle.hs_live.proofs.Prelude.{writing_in}
use Rattle.hs_live.proofs.Cuts.{cut_once}
use Rattle.hs_live.proofs.writer.Writer.point_here.Goals as goal

pub returns-clause-spends : goal.returns-clause-spends
returns-clause-spends c =
    (cut_once (record { fits = c.payloads_are_cut_from_the_front.ensures.fits; cut = c.payloads_are_cut_from_the_front.ensures.cut; counted = c.pieces_are_counted.ensures })
    c.args.moment c.args.payload.now (writing_in c.args.self.now) (writing_in c.put.new.self) c.requires.sound (omega (arith, c.requires.may.2, c.requires.sound.least))
    (record { sound = c.put.ensures.sound; trace = c.put.ensures.trace; number_is = c.put.ensures.number; page = c.put.ensures.page; spends = c.put.ensures.spends; written = c.put.ensures.written })).spends

pub returns-clause-written : goal.returns-clause-written
returns-clause-written c =
    (cut_once (record { fits = c.payloads_are_cut_from_the_front.ensures.fits; cut = c.payloads_are_cut_from_the_front.ensures.cut; counted = c.pieces_are_counted.ensures })
    c.args.moment c.args.payload.now (writing_in c.args.self.now) (writing_in c.put.new.self) c.requires.sound (omega (arith, c.requires.may.2, c.requires.sound.least))
    (record { sound = c.put.ensures.sound; trace = c.put.ensures.trace; number_is = c.put.ensures.number; page = c.put.ensures.page; spends = c.put.ensures.spends; written = c.put.ensures.written })).written
