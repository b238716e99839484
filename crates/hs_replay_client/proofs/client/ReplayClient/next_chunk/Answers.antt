use Rattle.std.proofs.Common.{map, subst}
use Rattle.hs_replay_client.proofs.Prelude.{buffer_of, PlainReplayClient, replay_client_in, TakesChunk}
use Rattle.hs_base.proofs.Parts.{map_option_append, map_rest}
use Rattle.hs_words.specs.Buffers.{buffer_in}
use Rattle.hs_replay_client.proofs.Taking.{takes_chunk}
use Rattle.hs_replay_client.proofs.client.ReplayClient.next_chunk.Goals as goal

pub returns : goal.returns
returns c =
    let s = c.self.inside in
    let chunks = s.doing.writer.chunks.items in
    let more = c.pop_front.new.self.items in
    let new : PlainReplayClient =
    replay_client_in
    (record { doing = record { writer = record { core = s.doing.writer.core; chunks = c.pop_front.new.self }; autos = s.doing.autos; crumbs = s.doing.crumbs; triggers = s.doing.triggers }; done = s.done }) in
    subst (λ (old : PlainReplayClient). TakesChunk old (buffer_in c.pop_front.result) new) c.self.view_is
    (takes_chunk (replay_client_in s) (buffer_in c.pop_front.result) (map buffer_of more) c.items_are_sent_in_order.ensures.chunks (map_option_append buffer_of chunks more c.pop_front.result c.pop_front.ensures.items)
    (map_rest buffer_of chunks more c.pop_front.ensures.rest))
