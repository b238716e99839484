use Rattle.std.proofs.Common.{arith}
use Rattle.hs_replay.proofs.Looping.{queue_there, took_more, took_all, took_most, was_taken, was_drained}
use Rattle.hs_replay.proofs.node.ReplayNode.take_from.Goals as goal

pub take_next-requires-clause-queue : goal.take_next-requires-clause-queue
take_next-requires-clause-queue c =
    let (W, m, n, run, amid) = c.requires.amid in
    let took = c.loop-count.invariant W m n run amid in
    queue_there W m n run took.went.next c.args.self.now c.loop-count.self c.args.queue amid took.went.amid c.requires.queue

pub take_next-requires-clause-amid : goal.take_next-requires-clause-amid
take_next-requires-clause-amid c =
    let (W, m, n, run, amid) = c.requires.amid in
    let took = c.loop-count.invariant W m n run amid in
    (W, m, n, took.went.next, took.went.amid)

pub returns-then-not-branch : goal.returns-then-not-branch
returns-then-not-branch c = λ W m n run amid.
    let took = c.loop-count.invariant W m n run amid in
    took_all W m n c.args.queue run amid.comes.number c.loop-count.count c.loop-count.self took (let low = c.loop-count-test.true in omega (arith, low)) c.take_next.new.self
    (was_drained W m n c.args.queue took.went.next c.take_next.new.self c.in_ok-take_next.field-0 c.if-not-branch.true (c.in_ok-take_next.ensures W m n took.went.next took.went.amid))

pub loop-count-preserved : goal.loop-count-preserved
loop-count-preserved c = λ W m n run amid.
    let took = c.loop-count.invariant W m n run amid in
    took_more W m n c.args.queue run amid.comes.number c.loop-count.count c.loop-count.self took c.step_by_step.ensures c.take_next.new.self
    (was_taken W m n c.args.queue took.went.next c.take_next.new.self c.in_ok-take_next.field-0 c.if-not-branch.false (c.in_ok-take_next.ensures W m n took.went.next took.went.amid))

pub returns : goal.returns
returns c = λ W m n run amid.
    let took = c.loop-count.invariant W m n run amid in
    took_most W m n c.args.queue run amid.comes.number c.loop-count.count c.loop-count.self took (let high = c.loop-count-test.false in let low = c.loop-count.auto.count-end in omega (arith, high, low))
