use Rattle.std.proofs.Common.{◌++◌, map, ap, ◌∙◌}
use Rattle.hs_replay_client.proofs.Prelude.{on_ok_weaker, option_to_list, buffer_of, writing_in}
use Rattle.hs_replay_client.proofs.Recording.{ends}
use Rattle.hs_replay_client.proofs.writer.Writer.end.Goals as goal

pub returns : goal.returns
returns c =
    let old = c.args.self.now in
    on_ok_weaker c.keep.result
    (λ kept.
    ends (writing_in old) c.end.new.self (map buffer_of c.keep.new.chunks.items) c.requires.sound c.in-Ended.ensures.may c.in-Ended.ensures.after
    (kept ∙ ap (λ handed. map buffer_of old.chunks.items ++ option_to_list handed) c.in-Ended.ensures.answer.2))
    c.keep.ensures
