use Rattle.std.proofs.Common.{◌≡◌, ◌<◌, ◌≤◌, ◌+◌, ◌^◌, ℕ, List, true, length, get_or, take, drop, sym, ap, subst, ◌∙◌, arith}
use Rattle.std.specs.List.{list_all}
use Rattle.std.proofs.lemmas.List.{length-take-le, length-drop, take_rest}
use Rattle.hs_text.specs.Text.{is_hex_digit, hex_digit_of, hex_value_after}
use Rattle.hs_text.proofs.TextLemmas.{hex_room}
use Rattle.hs_text.proofs.Pairs.{digits_in_parts, hex_value_in_parts, value_more, small_more}
use Rattle.hs_text.proofs.reading.hex_number.Goals as goal

pub few_hex_digits-requires-clause-digits : goal.few_hex_digits-requires-clause-digits
few_hex_digits-requires-clause-digits c =
    let all : list_all is_hex_digit c.args.word.now ≡ true = sym c.is_hex.ensures ∙ c.if-not-is_hex.false in
    (digits_in_parts c.args.word.now c.min-front.result all).0

pub loop-digit-init : goal.loop-digit-init
loop-digit-init c =
    let word = c.args.word.now in
    let front = c.min-front.result in
    let within : front ≤ length word = omega (arith, c.min-front.ensures) in
    let same : length (take front word) ≡ front + 0 = omega (arith, length-take-le front word within) in
    let is = c.from-number.ensures ∙ c.few_hex_digits.ensures.value in
    record {
      value = hex_value_in_parts word front within ∙ ap (λ (n : ℕ). hex_value_after n (drop front word)) (sym is);
      small = omega (arith, c.from-number.ensures, subst (λ (k : ℕ). c.few_hex_digits.result < 16 ^ k) same c.few_hex_digits.ensures.small);
    }

pub overflow_mul-number : goal.overflow_mul-number
overflow_mul-number c =
    let inside : c.min-front.result + c.loop-digit.digit-index < 32 = omega (arith, c.loop-digit-test.true, length-drop c.min-front.result c.args.word.now) in
    omega (arith, hex_room c.loop-digit.number (c.min-front.result + c.loop-digit.digit-index) c.loop-digit.invariant.small inside)

pub overflow_add-number : goal.overflow_add-number
overflow_add-number c =
    let inside : c.min-front.result + c.loop-digit.digit-index < 32 = omega (arith, c.loop-digit-test.true, length-drop c.min-front.result c.args.word.now) in
    omega (arith, hex_room c.loop-digit.number (c.min-front.result + c.loop-digit.digit-index) c.loop-digit.invariant.small inside, c.hex_value.ensures.small, c.from.ensures)

pub loop-digit-preserved : goal.loop-digit-preserved
loop-digit-preserved c =
    let n = c.loop-digit.number in
    let i = c.loop-digit.digit-index in
    let same = take_rest c.args.word.now c.min-front.result in
    let inside : i < length (drop c.min-front.result c.args.word.now) = omega (arith, c.loop-digit-test.true, ap length same) in
    record {
      value = c.loop-digit.invariant.value ∙ value_more (drop c.min-front.result c.args.word.now) n i c.from.result inside (c.from.ensures ∙ c.hex_value.ensures.value ∙ ap (λ (xs : List ℕ). hex_digit_of (get_or xs i 0)) same);
      small = small_more n (c.min-front.result + i) (c.min-front.result + (i + 1)) c.from.result c.loop-digit.invariant.small (omega (arith, c.hex_value.ensures.small, c.from.ensures)) (omega arith);
    }
