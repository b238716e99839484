use Rattle.std.proofs.Common.{arith}
use Rattle.hs_text.proofs.DigitLemmas.{four_put}
use Rattle.hs_text.proofs.digits.put_number.Goals as goal

pub returns-else-number-lt10000 : goal.returns-else-number-lt10000
returns-else-number-lt10000 c = four_put c.args.number _ _ _ c.if-number-lt10000.false (omega arith) c.put_short-else-number-lt10000.ensures.items c.put_four.ensures
