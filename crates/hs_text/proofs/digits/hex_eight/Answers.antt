use Rattle.hs_text.proofs.DigitLemmas.{hex_halves_of_eight}
use Rattle.hs_text.proofs.digits.hex_eight.Goals as goal

pub returns : goal.returns
returns c = hex_halves_of_eight c.args.number _ _ c.hex_four-high.ensures c.hex_four-low.ensures
