use Rattle.std.proofs.lemmas.Fmt.{decimal_digit}
use Rattle.itoa.proofs.Decimal.{decimal_two}
use Rattle.hs_text.proofs.digits.put_first.Goals as goal

pub returns-then-number-lt10-clause-items : goal.returns-then-number-lt10-clause-items
returns-then-number-lt10-clause-items c = rw (decimal_digit c.args.number c.if-number-lt10.true) c.push_reserved.ensures.items

pub returns-else-number-lt10-clause-items : goal.returns-else-number-lt10-clause-items
returns-else-number-lt10-clause-items c = rw (decimal_two c.args.number c.if-number-lt10.false c.requires.below) c.put_pair.ensures.items
