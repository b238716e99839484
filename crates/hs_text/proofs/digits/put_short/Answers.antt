use Rattle.std.proofs.Common.{arith}
use Rattle.hs_text.proofs.DigitLemmas.{pair_put}
use Rattle.hs_text.proofs.digits.put_short.Goals as goal

pub returns-else-number-lt100-clause-items : goal.returns-else-number-lt100-clause-items
returns-else-number-lt100-clause-items c = pair_put c.args.number _ _ _ c.if-number-lt100.false (omega arith) c.put_first-else-number-lt100.ensures.items c.put_pair.ensures.items
