use Rattle.std.proofs.Common.{◌+◌, arith, subst, sym, List}
use Rattle.hs_law_run.specs.Reaching as reaching
use Rattle.hs_replay.proofs.Prelude.{workload_of, AreMade, PlainReplayNode}
use Rattle.hs_replay.proofs.Started.{one_more_made, none_made}
use Rattle.hs_replay.proofs.start.make_nodes.Goals as goal

pub loop-node-init : goal.loop-node-init
loop-node-init c =
    let room = c.in_ok-nodes.ensures.room in
    (omega (arith, room), none_made (workload_of c.args.workload.now) c.in_ok-nodes.nodes.items c.in_ok-nodes.ensures.empty)

pub loop-node-preserved : goal.loop-node-preserved
loop-node-preserved c =
    let W = workload_of c.args.workload.now in
    let room = c.push.ensures.room in
    let had = c.loop-node.invariant.0 in
    (omega (arith, room, had), subst (λ (l : List PlainReplayNode). AreMade W (c.loop-node.node + 1) l) (sym c.push.ensures.items) (one_more_made W c.loop-node.node c.loop-node.nodes.items c.in_ok-made.made c.loop-node.invariant.1 c.in_ok-made.ensures))

pub returns : goal.returns
returns c =
    let W = workload_of c.args.workload.now in
    let made = c.loop-node.invariant.1 in
    let many = made.many in
    let high = c.loop-node-test.false in
    let low = c.loop-node.auto.node-end in
    record {
      valid = c.requires;
      reached = reaching.Starts;
      nodes_are = record { count = omega (arith, many, high, low); each = made.each };
    }
