use Rattle.std.proofs.Common.{arith, subst, sym}
use Rattle.hs_replay.proofs.Prelude.{workload_of, Machine, NodesAt, clients_gone}
use Rattle.hs_replay.proofs.Others.{gone_next, gone_none, gone_all}
use Rattle.hs_replay.proofs.all.play_all.Goals as goal

pub loop-node-init : goal.loop-node-init
loop-node-init c = λ m at. let W = workload_of c.args.workload.now in subst (λ (next : Machine). NodesAt W next c.args.nodes.now.items) (sym (gone_none W m)) at

pub play_node-requires-clause-node : goal.play_node-requires-clause-node
play_node-requires-clause-node c =
    let (m, at) = c.requires in
    let was = at.nodes_are.count in
    let now = (c.loop-node.invariant m at).nodes_are.count in
    omega (arith, was, now)

pub play_node-requires-clause-at : goal.play_node-requires-clause-at
play_node-requires-clause-at c =
    let (m, at) = c.requires in
    (clients_gone (workload_of c.args.workload.now) m c.loop-node.node, c.loop-node.invariant m at)

pub loop-node-preserved : goal.loop-node-preserved
loop-node-preserved c = λ m at.
    let W = workload_of c.args.workload.now in
    subst (λ (next : Machine). NodesAt W next c.play_node.new.nodes.items) (gone_next W m c.loop-node.node)
    (c.in_ok-play_node.ensures (clients_gone W m c.loop-node.node) (c.loop-node.invariant m at))

pub returns : goal.returns
returns c = λ m at.
    let W = workload_of c.args.workload.now in
    let end = c.loop-node.invariant m at in
    let was = at.nodes_are.count in
    subst (λ (next : Machine). NodesAt W next c.loop-node.nodes.items) (gone_all W at.valid m c.loop-node.node (omega (arith, was))) end
