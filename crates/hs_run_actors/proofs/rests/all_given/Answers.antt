use Rattle.std.proofs.Common.{◌≡◌, ◌<◌, sym, ap, arith, length}
use Rattle.hs_run_actors.proofs.Prelude.{indexed}
use Rattle.hs_run_actors.proofs.Resting.{all_were, one_was_not, given_more}
use Rattle.hs_run_actors.proofs.rests.all_given.Goals as goal

pub loop-rest-preserved : goal.loop-rest-preserved
loop-rest-preserved g c =
    let low = c.loop-rest-test.true in
    let slice = ap length c.as_slice-rest-items.ensures in
    let inside : c.loop-rest.rest-index < length c.args.rests.now.items = omega (arith, low, slice) in
    let at = indexed c.args.rests.now.items c.as_slice-rest-items.result.now c.loop-rest.rest-index c.rest-item.result c.as_slice-rest-items.ensures inside c.rest-item.is in
    let none : length c.rest-item.result.items ≡ 0 = (let left = c.left.ensures in let test = c.if-left-gt0.false in omega (arith, left, test)) in
    given_more c.loop-rest.rest-index c.args.rests.now.items c.rest-item.result c.loop-rest.invariant at none

pub returns-then-left-gt0 : goal.returns-then-left-gt0
returns-then-left-gt0 g c =
    let low = c.loop-rest-test.true in
    let slice = ap length c.as_slice-rest-items.ensures in
    let inside : c.loop-rest.rest-index < length c.args.rests.now.items = omega (arith, low, slice) in
    let at = indexed c.args.rests.now.items c.as_slice-rest-items.result.now c.loop-rest.rest-index c.rest-item.result c.as_slice-rest-items.ensures inside c.rest-item.is in
    let some : 0 < length c.rest-item.result.items = (let left = c.left.ensures in let test = c.if-left-gt0.true in omega (arith, left, test)) in
    sym (one_was_not c.args.rests.now.items c.loop-rest.rest-index c.rest-item.result at some)

pub returns : goal.returns
returns g c =
    let high = c.loop-rest-test.false in
    let slice = ap length c.as_slice-rest-items.ensures in
    sym (all_were c.args.rests.now.items c.loop-rest.rest-index (omega (arith, high, slice)) c.loop-rest.invariant)
