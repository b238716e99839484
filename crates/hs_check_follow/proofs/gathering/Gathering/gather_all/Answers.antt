use Rattle.std.proofs.Common.{◌≡◌, length, map, subst, arith}
use Rattle.hs_check_follow.proofs.Prelude.{operation_of, IsSentBy}
use Rattle.hs_check_follow.proofs.gathering.Gathering.gather_all.Goals as goal

pub loop-number-init : goal.loop-number-init
loop-number-init c = λ settings client draws same was. was

pub gather_operation-requires-clause-sent : goal.gather_operation-requires-clause-sent
gather_operation-requires-clause-sent c =
    let (settings, client, draws, same, was) = c.requires in
    (settings, client, draws, same, c.loop-number.invariant settings client draws same was)

pub loop-number-preserved : goal.loop-number-preserved
loop-number-preserved c = λ settings client draws same was. c.in_ok-gather_operation.ensures settings client draws same (c.loop-number.invariant settings client draws same was)

pub returns : goal.returns
returns c = λ settings client draws same was.
    let ops = map operation_of c.args.operations.now in
    let all : c.loop-number.number ≡ length c.args.operations.now = omega (arith, c.loop-number-test.false, c.loop-number.auto.number-end) in
    subst (λ n. IsSentBy settings client ops draws n c.loop-number.script c.loop-number.player c.loop-number.self) all (c.loop-number.invariant settings client draws same was)
