use Rattle.std.proofs.Common.{◌≡◌, ◌<◌, ◌∙◌, refl, ap, sym, arith, length, map, subst, below_more}
use Rattle.hs_replay.proofs.Prelude.{indexed, operations_at, place_of, operation_of, done_of, all_of, replay_node_in, PlainReplayNode, NodeIsAt}
use Rattle.hs_replay.proofs.LeftOver.{left_is, none_left}
use Rattle.hs_replay.proofs.node.ReplayNode.has_left.Goals as goal

pub returns-then-has_left : goal.returns-then-has_left
returns-then-has_left c = λ W m n at has.
    let here : NodeIsAt W m n (replay_node_in c.self.inside) = subst (λ (p : PlainReplayNode). NodeIsAt W m n p) (sym c.self.view_is) at in
    let low = c.loop-client-test.true in
    let count = has.count in
    let players = here.stands.players.count in
    let inside : c.loop-client.client < length c.self.inside.players.items = omega (arith, low, count, players) in
    let stood = indexed c.self.inside.players.items c.as_slice-players.result.now c.loop-client.client c.index-players-client.result c.as_slice-players.ensures inside c.index-players-client.is in
    let item = indexed c.args.clients.now c.args.clients.now c.loop-client.client c.index-clients-client.result refl low c.index-clients-client.is in
    let ops : map operation_of c.as_slice.result.now ≡ operations_at W (place_of W.settings.clients n c.loop-client.client) = ap (map operation_of) c.as_slice.ensures ∙ has.each c.loop-client.client c.index-clients-client.result item in
    (c.loop-client.client, omega (arith, low, count), (left_is W m n c.loop-client.client (replay_node_in c.self.inside) c.index-players-client.result (map operation_of c.as_slice.result.now) c.has_left.result here stood ops c.has_left.ensures).0 c.if-has_left.true)

pub loop-client-preserved : goal.loop-client-preserved
loop-client-preserved c = λ W m n at has.
    let here : NodeIsAt W m n (replay_node_in c.self.inside) = subst (λ (p : PlainReplayNode). NodeIsAt W m n p) (sym c.self.view_is) at in
    let low = c.loop-client-test.true in
    let count = has.count in
    let players = here.stands.players.count in
    let inside : c.loop-client.client < length c.self.inside.players.items = omega (arith, low, count, players) in
    let stood = indexed c.self.inside.players.items c.as_slice-players.result.now c.loop-client.client c.index-players-client.result c.as_slice-players.ensures inside c.index-players-client.is in
    let item = indexed c.args.clients.now c.args.clients.now c.loop-client.client c.index-clients-client.result refl low c.index-clients-client.is in
    let ops : map operation_of c.as_slice.result.now ≡ operations_at W (place_of W.settings.clients n c.loop-client.client) = ap (map operation_of) c.as_slice.ensures ∙ has.each c.loop-client.client c.index-clients-client.result item in
    below_more (λ k. done_of W m n k ≡ all_of W n k) c.loop-client.client (c.loop-client.invariant W m n at has)
    (none_left W m n c.loop-client.client (replay_node_in c.self.inside) c.index-players-client.result (map operation_of c.as_slice.result.now) c.has_left.result here stood ops c.has_left.ensures c.if-has_left.false)

pub bounds-players-client : goal.bounds-players-client
bounds-players-client c =
    let (W, m, n, at, has) = c.requires in
    let view = ap (λ (p : PlainReplayNode). length p.players) c.self.view_is in
    let slice = ap length c.as_slice-players.ensures in
    let low = c.loop-client-test.true in
    let count = has.count in
    let players = at.stands.players.count in
    omega (arith, view, slice, low, count, players)

pub returns : goal.returns
returns c = λ W m n at has client low.
    let count = has.count in
    let high = c.loop-client-test.false in
    c.loop-client.invariant W m n at has client (omega (arith, low, count, high))
