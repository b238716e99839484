use Rattle.std.proofs.Common.{◌++◌, sym, ap, ◌∙◌}
use Rattle.hs_live.proofs.Prelude.{option_to_list, buffer_in, sent, outgoing}
use Rattle.hs_live.proofs.Senders.{begins_buffers, sends_buffer, places_held}
use Rattle.hs_live.proofs.writer.send_chunk.Goals as goal

pub send_within-requires-clause-place : goal.send_within-requires-clause-place
send_within-requires-clause-place c = places_held 1 c.args.chunks.now c.requires.place

pub returns-in-Some-clause-goes : goal.returns-in-Some-clause-goes
returns-in-Some-clause-goes c =
    let sends = c.send_within.ensures in
    record { same = sends.same; put = begins_buffers c.args.chunks.now.put c.send_within.new.self.put sends.put }

pub returns-in-Some-clause-sent : goal.returns-in-Some-clause-sent
returns-in-Some-clause-sent c =
    sends_buffer c.args.chunks.now c.send_within.new.self c.in-Some.held c.send_within.ensures.sent
    ∙ ap (λ handed. sent (outgoing c.args.chunks.now) ++ option_to_list (buffer_in handed)) (sym c.in-Some.is)
