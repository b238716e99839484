use Rattle.hs_text.proofs.DigitLemmas.{hex_two}
use Rattle.hs_text.proofs.digits.hex_pair.Goals as goal

pub returns : goal.returns
returns c = hex_two c.args.number
