use Rattle.hs_text.proofs.TextLemmas.{payload_length}
use Rattle.hs_text.proofs.reading.payload_len.Goals as goal

pub returns : goal.returns
returns c = payload_length c.args.word.now c.requires
