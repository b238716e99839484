use Rattle.hs_live.proofs.Apart.{sent_apart}
use Rattle.hs_live.proofs.laws.sent_chunks_are_told_apart.Goals as goal

pub returns : goal.returns
returns c = λ made ops client h. (sent_apart made ops client h (c.what_was_done_was_sent.ensures made ops client h)).0
