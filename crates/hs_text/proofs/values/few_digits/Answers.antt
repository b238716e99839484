use Rattle.std.proofs.Common.{◌≡◌, ◌<◌, ◌^◌, ◌+◌, ◌*◌, ◌≤◌, ℕ, suc, arith}
use Rattle.std.proofs.Math.Nat.{pow-le-pow_right, pow-suc}
use Rattle.hs_text.proofs.values.few_digits.Goals as goal

-- one more digit fits 64 bits
room : (n i : ℕ) → n < 10 ^ i → i < 19 → 10 * n + 9 < 2 ^ 64
room n i small within =
    let most : 10 ^ suc i ≤ 10 ^ 19 = pow-le-pow_right {n = 10} (omega arith) {i = suc i} {j = 19} (omega arith) in
    omega (arith, pow-suc 10 i, most)

pub overflow_mul-number : goal.overflow_mul-number
overflow_mul-number c = omega (arith, room c.loop-byte.number c.loop-byte.byte-index c.loop-byte.invariant.small (omega arith))

pub overflow_add-number : goal.overflow_add-number
overflow_add-number c = omega (arith, room c.loop-byte.number c.loop-byte.byte-index c.loop-byte.invariant.small (omega arith), c.from.ensures, c.if-not-is_ascii_digit.ensures.cases)
