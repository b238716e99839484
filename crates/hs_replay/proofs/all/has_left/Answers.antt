use Rattle.std.proofs.Common.{arith, subst}
use Rattle.hs_replay.proofs.Prelude.{workload_of, TellsNodeLeft}
use Rattle.hs_replay.proofs.Scheduled.{some_left, all_done}
use Rattle.hs_replay.proofs.all.has_left.Goals as goal

pub returns-then-has_left_at : goal.returns-then-has_left_at
returns-then-has_left_at c = λ m at.
    let W = workload_of c.args.workload.now in
    let count = at.nodes_are.count in
    let low = c.loop-node-test.true in
    some_left W at.valid m c.loop-node.node (omega (arith, count, low)) (subst (TellsNodeLeft W m c.loop-node.node) c.if-has_left_at.true (c.has_left_at.ensures m at))

pub returns : goal.returns
returns c = λ m at.
    let W = workload_of c.args.workload.now in
    let count = at.nodes_are.count in
    let high = c.loop-node-test.false in
    all_done W at.valid m (λ n low. c.loop-node.invariant m at n (omega (arith, count, high, low)))
