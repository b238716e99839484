use Rattle.std.proofs.Common.{subst, arith}
use Rattle.hs_replay.specs.Hearing.{HearsNext}
use Rattle.hs_replay.proofs.Heard.{heard_more, heard_full, heard_out}
use Rattle.hs_replay.proofs.coordinator.hear_node.Goals as goal

pub hear-requires-clause-node : goal.hear-requires-clause-node
hear-requires-clause-node c =
    let (W, m, heard, all) = c.requires.all in
    let was = all.nodes_are.count in
    let now = (c.loop-count.invariant W m heard all).all.nodes_are.count in
    let low = c.requires.node in
    omega (arith, was, now, low)

pub hear-requires-clause-all : goal.hear-requires-clause-all
hear-requires-clause-all c =
    let (W, m, heard, all) = c.requires.all in
    let h = c.loop-count.invariant W m heard all in
    (W, m, h.next, h.all)

pub returns-then-not-branch : goal.returns-then-not-branch
returns-then-not-branch c = λ W m heard all.
    let h = c.loop-count.invariant W m heard all in
    let was = all.nodes_are.count in
    let now = h.all.nodes_are.count in
    let low = c.requires.node in
    let out = subst (HearsNext W m h.next c.args.node c.hear.new.nodes.items c.hear.new.coordinator) c.if-not-branch.true (c.in_ok-hear.ensures W m h.next h.all) in
    heard_out c.step_by_step.ensures W m heard c.args.node c.loop-count.count c.loop-count.nodes.items c.loop-count.coordinator h (omega (arith, was, now, low)) c.loop-count-test.true c.hear.new.nodes.items c.hear.new.coordinator out

pub loop-count-preserved : goal.loop-count-preserved
loop-count-preserved c = λ W m heard all.
    let h = c.loop-count.invariant W m heard all in
    let one = subst (HearsNext W m h.next c.args.node c.hear.new.nodes.items c.hear.new.coordinator) c.if-not-branch.false (c.in_ok-hear.ensures W m h.next h.all) in
    heard_more c.step_by_step.ensures W m heard c.args.node c.loop-count.count c.loop-count.nodes.items c.loop-count.coordinator h c.hear.new.nodes.items c.hear.new.coordinator one

pub returns : goal.returns
returns c = λ W m heard all.
    let h = c.loop-count.invariant W m heard all in
    let was = all.nodes_are.count in
    let now = h.all.nodes_are.count in
    let low = c.requires.node in
    heard_full c.step_by_step.ensures W m heard c.args.node c.loop-count.count c.loop-count.nodes.items c.loop-count.coordinator h (omega (arith, was, now, low)) (omega arith)
