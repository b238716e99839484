use Rattle.std.proofs.Common.{◌≡◌, ◌<◌, ◌+◌, [], ◌∷◌, ◌∙◌, refl, ap, sym, arith, length, map, List, subst, length-append}
use Rattle.hs_replay.proofs.Prelude.{indexed, PlainReplayClient, Operation, PlainSettings, PlainWorkload, settings_of, operations_at, place_of, operation_of, IsNewNode, AreNew}
use Rattle.hs_client.specs.Playable.{IsPlayable}
use Rattle.hs_records.specs.declared.setting.Setting.TheVariants as settings
use Rattle.hs_replay.proofs.Begun.{one_more_new, player_made}
use Rattle.hs_replay.proofs.Going.{place_there}
use Rattle.hs_replay.proofs.making.players_of.Goals as goal

pub overflow_cast-number : goal.overflow_cast-number
overflow_cast-number c =
    let (W, new) = c.requires in
    let count = new.are.count in
    let few = (new.valid.head settings.Clients).1 in
    let below = c.loop-client-test.true in
    omega (arith, count, few, below)

pub make-requires : goal.make-requires
make-requires c =
    let (W, new) = c.requires in
    let low = c.loop-client-test.true in
    let item = indexed c.args.clients.now c.args.clients.now c.loop-client.client c.index-clients-client.result refl low c.index-clients-client.is in
    let ops : map operation_of c.as_slice-operations.result.now ≡ operations_at W (place_of W.settings.clients c.args.node c.loop-client.client) = ap (map operation_of) c.as_slice-operations.ensures ∙ new.are.each c.loop-client.client c.index-clients-client.result item in
    let count = new.are.count in
    let within : c.loop-client.client < W.settings.clients = omega (arith, low, count) in
    let playable = c.valid_clients_may_be_played.ensures W new.valid (place_of W.settings.clients c.args.node c.loop-client.client) (place_there W c.args.node c.loop-client.client new.valid.count new.low within) in
    subst (λ (s : PlainSettings). IsPlayable s (map operation_of c.as_slice-operations.result.now)) (sym new.are.settings_are) (subst (λ (o : List Operation). IsPlayable W.settings o) (sym ops) playable)

pub loop-client-preserved : goal.loop-client-preserved
loop-client-preserved c =
    let more : (W : PlainWorkload) → IsNewNode W c.args.node c.args.settings.now c.args.clients.now → AreNew W c.args.node (c.loop-client.client + 1) c.push.new.self.items = λ W new.
    let low = c.loop-client-test.true in
    let item = indexed c.args.clients.now c.args.clients.now c.loop-client.client c.index-clients-client.result refl low c.index-clients-client.is in
    let ops : map operation_of c.as_slice-operations.result.now ≡ operations_at W (place_of W.settings.clients c.args.node c.loop-client.client) = ap (map operation_of) c.as_slice-operations.ensures ∙ new.are.each c.loop-client.client c.index-clients-client.result item in
    let at = player_made W c.args.node c.loop-client.client (settings_of c.args.settings.now) (map operation_of c.as_slice-operations.result.now) c.in_ok-player.player new.are.settings_are ops c.in_ok-player.ensures in
    subst (λ (l : List PlainReplayClient). AreNew W c.args.node (c.loop-client.client + 1) l) (sym c.push.ensures.items) (one_more_new W c.args.node c.loop-client.client c.loop-client.players.items c.in_ok-player.player (c.loop-client.invariant.2 W new) at)
    in
    let pushed = ap length c.push.ensures.items in
    let both = length-append c.loop-client.players.items (c.in_ok-player.player ∷ []) in
    let room = c.push.ensures.room in
    let had = c.loop-client.invariant.0 in
    let count = c.loop-client.invariant.1 in
    (omega (arith, room, had), omega (arith, pushed, both, count), more)

pub returns : goal.returns
returns c = λ W new.
    let count = new.are.count in
    let high = c.loop-client-test.false in
    let low = c.loop-client.auto.client-end in
    let all : c.loop-client.client ≡ W.settings.clients = omega (arith, count, high, low) in
    subst (λ k. AreNew W c.args.node k c.loop-client.players.items) all (c.loop-client.invariant.2 W new)
