use Rattle.hs_text.proofs.DigitLemmas.{two_put}
use Rattle.hs_text.proofs.digits.put_pair.Goals as goal

pub returns-clause-items : goal.returns-clause-items
returns-clause-items c = two_put c.args.number _ _ _ c.requires.below c.push_reserved.ensures.items c.push_reserved-2.ensures.items
