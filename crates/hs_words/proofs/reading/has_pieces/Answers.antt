use Rattle.std.proofs.Common.{◌≡◌, ◌+◌, ◌-◌, length, true≢false, sym, ap, ◌∙◌, arith}
use Rattle.std.proofs.lemmas.List.{nil_from_length}
use Rattle.std.proofs.lemmas.Bool.{eqb-true}
use Rattle.std.proofs.Common.{eq-eqb}
use Rattle.hs_words.proofs.Readings.{one_fewer, one_more, begins_with_one, none_left}
use Rattle.hs_words.proofs.reading.has_pieces.Goals as goal

pub returns-in_default : goal.returns-in_default
returns-in_default c = (
  λ no. absurd (true≢false (sym no)),
  λ has. absurd (c.in_default.ensures.none (begins_with_one (c.args.count - c.loop-number._number) c.loop-number.rest.now (omega (arith, c.loop-number-test.true)) (c.loop-number.invariant.1 has))),
)

pub loop-number-preserved : goal.loop-number-preserved
loop-number-preserved c =
    let n = c.args.count - c.loop-number._number in
    let m = c.args.count - (c.loop-number._number + 1) in
    let next : n ≡ m + 1 = omega (arith, c.loop-number-test.true) in (
      λ has. c.loop-number.invariant.0 (one_more n m c.loop-number.rest.now c.in-Some.after.now _ next c.in-Some.ensures.fits c.in-Some.ensures.some has),
      λ has. one_fewer n m c.loop-number.rest.now c.in-Some.after.now _ next c.in-Some.ensures.fits c.in-Some.ensures.some (c.loop-number.invariant.1 has),
    )

pub returns : goal.returns
returns c =
    let rest = c.loop-number.rest.now in
    let left = none_left (c.args.count - c.loop-number._number) rest (omega (arith, c.loop-number-test.false)) in (
      λ empty. c.loop-number.invariant.0 (left.1 (nil_from_length rest (eqb-true (length rest) 0 (sym c.is_empty.ensures ∙ empty)))),
      λ has. c.is_empty.ensures ∙ eq-eqb (length rest) 0 (ap length (left.0 (c.loop-number.invariant.1 has))),
    )
