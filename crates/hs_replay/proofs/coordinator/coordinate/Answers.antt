use Rattle.std.proofs.Common.{arith}
use Rattle.hs_replay.proofs.Coordinated.{heard_none_yet, heard_node_more, heard_through}
use Rattle.hs_replay.proofs.coordinator.coordinate.Goals as goal

pub loop-node-init : goal.loop-node-init
loop-node-init c = λ W m all. heard_none_yet c.machines_are_whole.ensures c.step_by_step.ensures W m c.args.nodes.now.items c.args.coordinator.now all

pub hear_node-requires-clause-node : goal.hear_node-requires-clause-node
hear_node-requires-clause-node c =
    let (W, m, all) = c.requires in
    let was = all.nodes_are.count in
    let now = (c.loop-node.invariant W m all).all.nodes_are.count in
    omega (arith, was, now)

pub hear_node-requires-clause-all : goal.hear_node-requires-clause-all
hear_node-requires-clause-all c =
    let (W, m, all) = c.requires in
    let h = c.loop-node.invariant W m all in
    (W, m, h.next, h.all)

pub loop-node-preserved : goal.loop-node-preserved
loop-node-preserved c = λ W m all.
    let h = c.loop-node.invariant W m all in
    heard_node_more c.machines_are_whole.ensures c.step_by_step.ensures W m c.loop-node.node c.loop-node.nodes.items c.loop-node.coordinator h c.hear_node.new.nodes.items c.hear_node.new.coordinator (c.in_ok-hear_node.ensures W m h.next h.all)

pub returns : goal.returns
returns c = λ W m all.
    let h = c.loop-node.invariant W m all in
    let was = all.nodes_are.count in
    let now = h.all.nodes_are.count in
    heard_through c.machines_are_whole.ensures c.step_by_step.ensures W m c.coordinator_hears_so.ensures c.loop-node.node c.loop-node.nodes.items c.loop-node.coordinator (omega (arith, was, now)) h
