use Rattle.hs_text.proofs.DigitLemmas.{hex_halves_of_sixteen}
use Rattle.hs_text.proofs.digits.hex_sixteen.Goals as goal

pub returns : goal.returns
returns c = hex_halves_of_sixteen c.args.number _ _ c.hex_eight-high.ensures c.hex_eight-low.ensures
