use Rattle.std.proofs.Common.{ap, ◌∙◌}
use Rattle.hs_live.proofs.Prelude.{piece_limit, writing_in}
use Rattle.hs_live.proofs.Cuts.{IsCut, cut_further, cut_all, places_now}
use Rattle.hs_live.proofs.writer.Writer.point.Goals as goal

pub piece-requires-clause-place : goal.piece-requires-clause-place
piece-requires-clause-place c = places_now c.args.moment c.args.payload.now c.loop-rest.rest.now (writing_in c.args.self.now) (writing_in c.loop-rest.self) c.loop-rest.invariant c.requires.places

pub piece-requires-2-clause-place : goal.piece-requires-2-clause-place
piece-requires-2-clause-place c = places_now c.args.moment c.args.payload.now c.loop-rest.rest.now (writing_in c.args.self.now) (writing_in c.loop-rest.self) c.loop-rest.invariant c.requires.places

pub loop-rest-preserved : goal.loop-rest-preserved
loop-rest-preserved c =
    cut_further (record { fits = c.payloads_are_cut_from_the_front.ensures.fits; cut = c.payloads_are_cut_from_the_front.ensures.cut; counted = c.pieces_are_counted.ensures })
    c.piece_limit-limit.result c.args.moment c.args.payload.now c.loop-rest.rest.now c.split_at.result.0.now c.split_at.result.1.now (writing_in c.args.self.now) (writing_in c.loop-rest.self) (writing_in c.piece.new.self)
    c.loop-rest.invariant (c.piece_limit-limit.ensures ∙ ap piece_limit c.size.ensures.value) c.loop-rest-test.true (search (c.split_at.ensures)) (search (c.split_at.ensures))
    (record { sound = c.piece.ensures.sound; trace = c.piece.ensures.trace; number_is = c.piece.ensures.number; page = c.piece.ensures.page; spends = c.piece.ensures.spends; written = c.piece.ensures.written })

is_cut : (c : goal.After-piece-2) → IsCut c.args.moment c.args.payload.now (writing_in c.args.self.now) (writing_in c.piece-2.new.self)
is_cut c =
    cut_all (record { fits = c.payloads_are_cut_from_the_front.ensures.fits; cut = c.payloads_are_cut_from_the_front.ensures.cut; counted = c.pieces_are_counted.ensures })
    c.piece_limit-limit.result c.args.moment c.args.payload.now c.loop-rest.rest.now (writing_in c.args.self.now) (writing_in c.loop-rest.self) (writing_in c.piece-2.new.self)
    c.loop-rest.invariant (c.piece_limit-limit.ensures ∙ ap piece_limit c.size.ensures.value) c.loop-rest-test.false
    (record { sound = c.piece-2.ensures.sound; trace = c.piece-2.ensures.trace; number_is = c.piece-2.ensures.number; page = c.piece-2.ensures.page; spends = c.piece-2.ensures.spends; written = c.piece-2.ensures.written })

pub returns-clause-number : goal.returns-clause-number
returns-clause-number c = (is_cut c).number

pub returns-clause-spends : goal.returns-clause-spends
returns-clause-spends c = (is_cut c).spends

pub returns-clause-written : goal.returns-clause-written
returns-clause-written c = (is_cut c).written

pub returns-clause-page : goal.returns-clause-page
returns-clause-page c = (is_cut c).page
