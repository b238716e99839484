use Rattle.std.proofs.Common.{◌≡◌, ℕ, List, sym, ap, ◌∙◌, subst, map}
use Rattle.hs_replay.proofs.Prelude.{ChangesAt, IsWithin, Operation, operations_at, place_of, operation_of, replay_node_in, PlainReplayNode, StandsStill}
use Rattle.hs_base.specs.declared.settings.AutoRule.{AutoRule}
use Rattle.hs_replay_client.specs.Places.{Goes}
use Rattle.hs_replay.proofs.Going.{is_low, is_within, has_stamps, went_at}
use Rattle.hs_replay.proofs.node.ReplayNode.client_goes.Goals as goal

pub play_client-requires-clause-client : goal.play_client-requires-clause-client
play_client-requires-clause-client c =
    let (W, m, n, still, one) = c.requires in
    let here : StandsStill W m n (replay_node_in c.self.inside) = subst (λ (p : PlainReplayNode). StandsStill W m n p) (sym c.self.view_is) still in
    is_low W m n c.args.client (replay_node_in c.self.inside) here one.low c.clients_go_so.ensures

pub play_client-requires-clause-within : goal.play_client-requires-clause-within
play_client-requires-clause-within c = λ player stood.
    let (W, m, n, still, one) = c.requires in
    let here : StandsStill W m n (replay_node_in c.self.inside) = subst (λ (p : PlainReplayNode). StandsStill W m n p) (sym c.self.view_is) still in
    let rules : W.settings.autos ≡ c.as_slice-rules.result.now = sym (c.as_slice-rules.ensures ∙ ap (λ s. s.autos) one.settings_are) in
    subst (λ (r : List AutoRule). IsWithin r (map operation_of c.args.operations.now) c.self.inside.pool player) rules
    (subst (λ (ops : List Operation). IsWithin W.settings.autos ops c.self.inside.pool player) (sym one.ops_are)
    (is_within W m n c.args.client (replay_node_in c.self.inside) here one.low c.clients_go_so.ensures player stood))

pub play_client-requires-clause-stamps : goal.play_client-requires-clause-stamps
play_client-requires-clause-stamps c =
    let (W, m, n, still, one) = c.requires in
    let here : StandsStill W m n (replay_node_in c.self.inside) = subst (λ (p : PlainReplayNode). StandsStill W m n p) (sym c.self.view_is) still in
    has_stamps W m n c.args.client (replay_node_in c.self.inside) here one.low c.clients_go_so.ensures

pub returns : goal.returns
returns c = λ W m n still one.
    let here : StandsStill W m n (replay_node_in c.self.inside) = subst (λ (p : PlainReplayNode). StandsStill W m n p) (sym c.self.view_is) still in
    let Changes : ℕ → List Operation → Type 0 =
    λ stride ops. ChangesAt c.args.client c.self.inside.players.items c.play_client.new.players.items (λ before now. Goes stride ops before c.self.inside.pool now c.play_client.new.pool) in
    let goes : Changes W.settings.stride (operations_at W (place_of W.settings.clients n c.args.client)) =
    subst (λ stride. Changes stride (operations_at W (place_of W.settings.clients n c.args.client))) (ap (λ s. s.stride) one.settings_are)
    (subst (Changes c.args.settings.now.stride) one.ops_are c.in_ok-play_client.ensures.goes) in
    went_at W m n c.args.client (replay_node_in c.self.inside) here one.low c.clients_go_so.ensures c.play_client.new.pool c.play_client.new.players.items goes c.in_ok-play_client.ensures.pool
