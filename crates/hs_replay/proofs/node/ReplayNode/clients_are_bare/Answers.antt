use Rattle.std.proofs.Common.{◌<◌, ◌∙◌, ap, sym, arith, length, subst, below_more}
use Rattle.hs_replay.proofs.Prelude.{same_Some, slice_get_within, indexed, NodeRun, followed, are_clients_bare, replay_node_in, PlainReplayNode, NodeIsAt}
use Rattle.hs_replay.proofs.Going.{place_there}
use Rattle.hs_replay.proofs.LeftOver.{AllTaken, bare_is, was_bare, not_bare, clients_bare, count_sends}
use Rattle.hs_replay.proofs.node.ReplayNode.clients_are_bare.Goals as goal

pub returns-then-not-is_bare : goal.returns-then-not-is_bare
returns-then-not-is_bare c = λ W m n still done run there.
    let at : NodeIsAt W m n (replay_node_in c.self.inside) = subst (λ (p : PlainReplayNode). NodeIsAt W m n p) (sym c.self.view_is) still.at in
    let low = c.loop-player-test.true in
    let slice = ap length c.as_slice-player-items.ensures in
    let players = at.stands.players.count in
    let inside : c.loop-player.player-index < length c.self.inside.players.items = omega (arith, low, slice) in
    let within : c.loop-player.player-index < W.settings.clients = omega (arith, inside, players) in
    let stood = indexed c.self.inside.players.items c.as_slice-player-items.result.now c.loop-player.player-index c.player-item.result c.as_slice-player-items.ensures inside c.player-item.is in
    let nodes = (c.machines_are_whole.ensures W still.valid m still.reached).count in
    let found = slice_get_within (followed W m.journal).nodes n at.run at.at in
    let here : n < W.settings.nodes = omega (arith, nodes, found) in
    let whole = place_there W n c.loop-player.player-index still.valid.count here within in
    let is = bare_is W m n (replay_node_in c.self.inside) at c.loop-player.player-index c.player-item.result stood c.all_is_sent_in_the_end.ensures.chunks c.all_is_sent_in_the_end.ensures.crumbs c.all_is_sent_in_the_end.ensures.triggers
    still.valid within whole (done c.loop-player.player-index within) c.is_bare.result c.is_bare.ensures in
    let none = not_bare W m n (replay_node_in c.self.inside) at c.loop-player.player-index c.is_bare.result within is c.if-not-is_bare.true in
    sym (ap are_clients_bare (same_Some run at.run (sym there ∙ at.at)) ∙ none)

pub loop-player-preserved : goal.loop-player-preserved
loop-player-preserved c = λ W m n still done.
    let at : NodeIsAt W m n (replay_node_in c.self.inside) = subst (λ (p : PlainReplayNode). NodeIsAt W m n p) (sym c.self.view_is) still.at in
    let low = c.loop-player-test.true in
    let slice = ap length c.as_slice-player-items.ensures in
    let players = at.stands.players.count in
    let inside : c.loop-player.player-index < length c.self.inside.players.items = omega (arith, low, slice) in
    let within : c.loop-player.player-index < W.settings.clients = omega (arith, inside, players) in
    let stood = indexed c.self.inside.players.items c.as_slice-player-items.result.now c.loop-player.player-index c.player-item.result c.as_slice-player-items.ensures inside c.player-item.is in
    let nodes = (c.machines_are_whole.ensures W still.valid m still.reached).count in
    let found = slice_get_within (followed W m.journal).nodes n at.run at.at in
    let here : n < W.settings.nodes = omega (arith, nodes, found) in
    let whole = place_there W n c.loop-player.player-index still.valid.count here within in
    let all = was_bare W m n (replay_node_in c.self.inside) at c.loop-player.player-index c.player-item.result stood c.all_is_sent_in_the_end.ensures.chunks c.all_is_sent_in_the_end.ensures.crumbs c.all_is_sent_in_the_end.ensures.triggers
    still.valid within whole (done c.loop-player.player-index within) c.is_bare.result c.is_bare.ensures c.if-not-is_bare.false in
    below_more (AllTaken still.at.run) c.loop-player.player-index (c.loop-player.invariant W m n still done)
    (subst (λ (r : NodeRun). AllTaken r c.loop-player.player-index) (same_Some at.run still.at.run (sym at.at ∙ still.at.at)) all)

pub returns : goal.returns
returns c = λ W m n still done run there.
    let high = c.loop-player-test.false in
    let slice = ap length c.as_slice-player-items.ensures in
    let view = ap (λ (p : PlainReplayNode). length p.players) c.self.view_is in
    let players = still.at.stands.players.count in
    let count = count_sends W m n c.args.self.now still.at in
    sym (ap are_clients_bare (same_Some run still.at.run (sym there ∙ still.at.at)) ∙ clients_bare still.at.run (λ client low. c.loop-player.invariant W m n still done client (omega (arith, low, high, slice, view, players, count))))
