use Rattle.std.proofs.Common.{◌≡◌, length, subst, arith}
use Rattle.hs_check_follow.proofs.Prelude.{AreSent}
use Rattle.hs_check_follow.proofs.Sending.{sent_none, sent_more}
use Rattle.hs_check_follow.proofs.coordinator.send_all.Goals as goal

pub loop-node-init : goal.loop-node-init
loop-node-init c = sent_none c.args.asks.now c.args.lists.now.items

pub send_if-requires-clause-node : goal.send_if-requires-clause-node
send_if-requires-clause-node c =
    let same = c.loop-node.invariant.count in
    let low = c.loop-node-test.true in
    let count = c.len-count.ensures in
    omega (arith, same, low, count)

pub send_if-requires-clause-few : goal.send_if-requires-clause-few
send_if-requires-clause-few c =
    let low = c.loop-node-test.true in
    let count = c.len-count.ensures in
    let few = c.requires in
    omega (arith, low, count, few)

pub loop-node-preserved : goal.loop-node-preserved
loop-node-preserved c = sent_more c.args.asks.now c.loop-node.node c.args.lists.now.items c.loop-node.lists.items c.send_if.new.lists.items c.loop-node.invariant c.in_ok-send_if.ensures

pub returns : goal.returns
returns c =
    let high = c.loop-node-test.false in
    let low = c.loop-node.auto.node-end in
    let count = c.len-count.ensures in
    let all : c.loop-node.node ≡ length c.args.lists.now.items = omega (arith, high, low, count) in
    subst (λ k. AreSent c.args.asks.now k c.args.lists.now.items c.loop-node.lists.items) all c.loop-node.invariant
