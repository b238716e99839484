use Rattle.std.proofs.Common.{◌+◌}
use Rattle.hs_check_follow.proofs.Prelude.{AtChunk, HasChunks, chunks_at, buffer_of}
use Rattle.hs_check_follow.proofs.Queues.{begins, goes_on, ends}
use Rattle.hs_check_follow.proofs.Kept.{one_chunk}
use Rattle.hs_check_follow.proofs.Taking.{chunks_fewer, chunks_ordered}
use Rattle.hs_check_follow.proofs.gathering.take_chunks.Goals as goal

pub loop-held-init : goal.loop-held-init
loop-held-init c = λ w was.
    begins (AtChunk w c.args.number) (λ items. HasChunks w.settings.size items c.args.keeping.now c.args.numbers.now.items) (chunks_at w) c.args.number c.args.player.now
    (chunks_ordered c.items_are_sent_in_order.ensures.chunks w c.args.number c.args.player.now was) was

pub loop-held-preserved : goal.loop-held-preserved
loop-held-preserved c = λ w was.
    let m = c.loop-held.invariant w was in
    let took = c.in-Some.ensures w.settings w.client w.ops w.drawn (c.args.number + 1) m.count w.others.0 w.others.1 m.at in
    goes_on (AtChunk w c.args.number) (λ items. HasChunks w.settings.size items c.loop-held.keeping c.loop-held.numbers.items) (λ items. HasChunks w.settings.size items c.keep.new.self c.append.new.self.items)
    (chunks_at w) c.args.number c.loop-held.player c.next_chunk.new.self took.0.item
    (chunks_ordered c.items_are_sent_in_order.ensures.chunks w c.args.number c.args.player.now was) m took.0.within took.1
    (λ front own are. one_chunk w.settings.size front took.0.item c.args.number c.loop-held.keeping c.keep.new.self c.loop-held.numbers.items c.append.new.self.items (buffer_of c.in-Some.held) took.0.sheet took.0.size c.in_ok-keep.ensures.keeps c.in_ok-keep.ensures.chunks c.in_ok-append.ensures.ok own are)

pub loop-held-smaller : goal.loop-held-smaller
loop-held-smaller c =
    let w = c.requires.0 in
    let m = c.loop-held.invariant w c.requires.1 in
    let took = c.in-Some.ensures w.settings w.client w.ops w.drawn (c.args.number + 1) m.count w.others.0 w.others.1 m.at in
    chunks_fewer w c.args.number m.count c.loop-held.player c.next_chunk.new.self m.at took.1

pub returns : goal.returns
returns c = λ w was.
    let m = c.loop-held.invariant w was in
    let none = c.in_default.ensures w.settings w.client w.ops w.drawn (c.args.number + 1) m.count w.others.0 w.others.1 m.at in
    ends (AtChunk w c.args.number) (λ items. HasChunks w.settings.size items c.loop-held.keeping c.loop-held.numbers.items) (chunks_at w) c.args.number c.loop-held.player c.next_chunk.new.self m
    none.0 none.1
