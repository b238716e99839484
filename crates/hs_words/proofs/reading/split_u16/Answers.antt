use Rattle.std.proofs.Common.{arith}
use Rattle.std.specs.Int.{w16}
use Rattle.hs_words.proofs.Numbers.{back_16, number_front}
use Rattle.hs_words.proofs.reading.split_u16.Goals as goal

pub returns-clause-some : goal.returns-clause-some
returns-clause-some c =
    let cases = c.in_ok-field.ensures.cases in (
      number_front w16 2 c.args.bytes.now c.in_ok-field.field.now c.in_ok-field.rest.now c.from_be_bytes.result back_16 (λ i. omega (arith, c.type_inv.bytes i)) cases.0 cases.1 cases.2 c.from_be_bytes.ensures,
      omega (arith, c.from_be_bytes.type_inv),
    )
