use Rattle.std.proofs.Common.{ap, ◌∙◌}
use Rattle.hs_replay_client.proofs.Prelude.{on_ok_weaker, piece_limit, AreCut, writing_in}
use Rattle.hs_replay_client.proofs.Cuts.{cut_none, cut_further, cut_all, cut_ready}
use Rattle.hs_replay_client.proofs.writer.Writer.point.Goals as goal

pub loop-rest-init : goal.loop-rest-init
loop-rest-init g c = cut_none g.W.Well.way c.args.moment c.args.payload.now (writing_in c.args.self.now) c.args.well.now c.requires.sound

pub piece-requires-clause-ready : goal.piece-requires-clause-ready
piece-requires-clause-ready g c =
    cut_ready g.W.Well.way c.args.moment c.args.payload.now c.loop-rest.rest.now (writing_in c.args.self.now) (writing_in c.loop-rest.self) c.args.well.now c.loop-rest.well c.loop-rest.invariant c.requires.ready

pub piece-requires-2-clause-ready : goal.piece-requires-2-clause-ready
piece-requires-2-clause-ready g c =
    cut_ready g.W.Well.way c.args.moment c.args.payload.now c.loop-rest.rest.now (writing_in c.args.self.now) (writing_in c.loop-rest.self) c.args.well.now c.loop-rest.well c.loop-rest.invariant c.requires.ready

pub loop-rest-preserved : goal.loop-rest-preserved
loop-rest-preserved g c =
    let are : AreCut = record { fits = c.payloads_are_cut_from_the_front.ensures.fits; cut = c.payloads_are_cut_from_the_front.ensures.cut; counted = c.pieces_are_counted.ensures } in
    cut_further g.W.Well.way are c.piece_limit-limit.result c.args.moment c.args.payload.now c.loop-rest.rest.now c.split_at.result.0.now c.split_at.result.1.now (writing_in c.args.self.now) (writing_in c.loop-rest.self)
    (writing_in c.piece.new.self) c.args.well.now c.loop-rest.well c.piece.new.well c.loop-rest.invariant (c.piece_limit-limit.ensures ∙ ap piece_limit c.size.ensures.value) c.loop-rest-test.true
    (search (c.split_at.ensures)) (search (c.split_at.ensures)) c.in_ok-piece.ensures

pub returns : goal.returns
returns g c =
    let are : AreCut = record { fits = c.payloads_are_cut_from_the_front.ensures.fits; cut = c.payloads_are_cut_from_the_front.ensures.cut; counted = c.pieces_are_counted.ensures } in
    on_ok_weaker c.piece-2.result
    (λ recorded.
    cut_all g.W.Well.way are c.piece_limit-limit.result c.args.moment c.args.payload.now c.loop-rest.rest.now (writing_in c.args.self.now) (writing_in c.loop-rest.self) (writing_in c.piece-2.new.self) c.args.well.now c.loop-rest.well
    c.piece-2.new.well c.loop-rest.invariant (c.piece_limit-limit.ensures ∙ ap piece_limit c.size.ensures.value) c.loop-rest-test.false recorded)
    c.piece-2.ensures
