use Rattle.std.proofs.Common.{◌≡◌, arith, subst}
use Rattle.hs_replay.proofs.Prelude.{node_goes, NodeIsAt}
use Rattle.hs_replay.proofs.Going.{one_of, still_more}
use Rattle.hs_replay.proofs.node.ReplayNode.play_clients.Goals as goal

pub client_goes-requires : goal.client_goes-requires
client_goes-requires c =
    let (W, m, n, still, are) = c.requires in (
      W,
      node_goes W m n c.loop-client.client,
      n,
      c.loop-client.invariant W m n still are,
      one_of W n c.args.settings.now c.args.clients.now c.loop-client.client c.index-clients-client.result c.as_slice-operations.result.now are c.loop-client-test.true c.index-clients-client.is c.as_slice-operations.ensures,
    )

pub loop-client-preserved : goal.loop-client-preserved
loop-client-preserved c = λ W m n still are.
    let before = c.loop-client.invariant W m n still are in
    let one = one_of W n c.args.settings.now c.args.clients.now c.loop-client.client c.index-clients-client.result c.as_slice-operations.result.now are c.loop-client-test.true c.index-clients-client.is c.as_slice-operations.ensures in
    still_more c.machines_are_whole.ensures W m n c.loop-client.client c.loop-client.self c.client_goes.new.self before one.low (c.in_ok-client_goes.ensures W (node_goes W m n c.loop-client.client) n before one)

pub returns : goal.returns
returns c = λ W m n still are.
    let count = are.count in
    let high = c.loop-client-test.false in
    let low = c.loop-client.auto.client-end in
    let all : c.loop-client.client ≡ W.settings.clients = omega (arith, count, high, low) in
    subst (λ k. NodeIsAt W (node_goes W m n k) n c.loop-client.self) all (c.loop-client.invariant W m n still are).at
