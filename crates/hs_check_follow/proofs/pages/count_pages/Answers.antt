use Rattle.std.proofs.Common.{◌≡◌, ◌+◌, ◌≤◌, map, drop, arith}
use Rattle.hs_check_follow.proofs.Prelude.{operation_of}
use Rattle.hs_check_follow.proofs.PagesCounted.{pages_are_started, pages_are_few, step_is, rest_is}
use Rattle.hs_check_follow.proofs.pages.count_pages.Goals as goal

pub put_operation-filled-requires-clause-few : goal.put_operation-filled-requires-clause-few
put_operation-filled-requires-clause-few c =
    let next = step_is c.args.size c.loop-operation.filled.room c.args.operations.now c.loop-operation.operation-index c.operation-item.result c.loop-operation-test.true c.operation-item.is in
    let few = pages_are_few c.args.size 0 (map operation_of c.args.operations.now) (λ payload. c.pieces_are_counted.ensures c.args.size payload) in
    omega (arith, next, few, c.loop-operation.invariant, c.requires.few)

pub returns : goal.returns
returns c =
    let rest = rest_is c.args.size c.loop-operation.filled.room c.args.operations.now c.loop-operation.operation-index c.loop-operation-test.false in
    let whole = pages_are_started c.args.size (map operation_of c.args.operations.now) c.requires.least c.requires.bracketed in
    omega (arith, rest, whole, c.loop-operation.invariant)
