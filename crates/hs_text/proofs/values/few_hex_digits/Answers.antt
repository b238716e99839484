use Rattle.std.proofs.Common.{arith}
use Rattle.hs_text.proofs.Pairs.{few_room}
use Rattle.hs_text.proofs.values.few_hex_digits.Goals as goal

pub overflow_mul-number : goal.overflow_mul-number
overflow_mul-number c = omega (arith, few_room c.loop-digit.number c.loop-digit.digit-index c.loop-digit.invariant.small (omega arith))

pub overflow_add-number : goal.overflow_add-number
overflow_add-number c = omega (arith, few_room c.loop-digit.number c.loop-digit.digit-index c.loop-digit.invariant.small (omega arith), c.hex_value.ensures.small, c.from.ensures)
