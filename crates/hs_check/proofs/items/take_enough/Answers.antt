use Rattle.std.proofs.Common.{◌≡◌, ◌+◌, ◌-◌, ◌<◌, true, false, length, take, sum, sym, ap, ◌∙◌, arith}
use Rattle.hs_check.proofs.Tallied.{sum_more, enough_is}
use Rattle.hs_check.proofs.items.take_enough.Goals as goal

pub loop-pass-preserved : goal.loop-pass-preserved
loop-pass-preserved c =
    let i = c.loop-pass.pass in
    let low : i < length c.args.taken.now - 1 = omega (arith, c.saturating_sub-pass-end.ensures) in
    let more = sum_more c.args.taken.now c.args.sent.now i c.loop-pass.all c.loop-pass.invariant.least low c.requires.many c.loop-pass.invariant.all in
    let back : i + 1 - 1 ≡ i = omega arith in
    record {
      least = omega arith;
      all = more ∙ sym (ap (λ k. sum (take k c.args.sent.now)) back);
      is = enough_is c.args.taken.now c.args.sent.now i c.loop-pass.all c.loop-pass.invariant.least low c.requires.many c.loop-pass.invariant.all c.is_enough.result _ c.is_enough.ensures c.loop-pass.invariant.is true c.if-not-is_enough.false;
    }

pub returns-then-not-is_enough : goal.returns-then-not-is_enough
returns-then-not-is_enough c =
    let i = c.loop-pass.pass in
    let low : i < length c.args.taken.now - 1 = omega (arith, c.saturating_sub-pass-end.ensures) in
    enough_is c.args.taken.now c.args.sent.now i c.loop-pass.all c.loop-pass.invariant.least low c.requires.many c.loop-pass.invariant.all c.is_enough.result _ c.is_enough.ensures c.loop-pass.invariant.is false c.if-not-is_enough.true
