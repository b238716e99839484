use Rattle.std.proofs.Common.{◌++◌, refl, ap, ◌∙◌}
use Rattle.hs_live.proofs.Prelude.{option_to_list, sent, outgoing, writing_in}
use Rattle.hs_live.proofs.Steps.{ended_trace}
use Rattle.hs_live.proofs.writer.Writer.end.Goals as goal

pub returns-in-Ended-clause-written : goal.returns-in-Ended-clause-written
returns-in-Ended-clause-written c = λ _ made later all is.
    let ended = c.in-Ended.ensures in
    ended_trace made later all (writing_in c.args.self.now) _ ended.may ended.after refl (c.send_chunk.ensures.sent ∙ ap (λ handed. sent (outgoing c.args.self.now.chunks) ++ option_to_list handed) ended.answer.2) is
