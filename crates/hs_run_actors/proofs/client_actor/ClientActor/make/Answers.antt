use Rattle.std.proofs.Common.{[], map, refl, sym, subst}
use Rattle.hs_run_actors.proofs.Prelude.{made_of, HasDone, PlainClient, outgoing, settings_of, operation_of, ConnectedClient, IsConnected}
use Rattle.hs_run_actors.proofs.Beginning.{are_parts, is_new, connected}
use Rattle.hs_run_actors.proofs.client_actor.ClientActor.make.Goals as goal

pub make-client-requires : goal.make-client-requires
make-client-requires c =
    let settings = settings_of c.args.settings.now in
    let ops = map operation_of c.args.operations.now in
    is_new settings c.args.client ops c.args.giver.now _ _ _ _ c.requires.playable
    (are_parts settings c.args.client ops c.args.giver.now c.in_ok-core.core c.in_ok-autos.autos.items c.args.drawer c.in_ok-links.links.chunks c.in_ok-links.links.chunk_end c.in_ok-links.links.crumbs c.in_ok-links.links.crumb_end
    c.in_ok-links.links.triggers c.in_ok-links.links.trigger_end
    (record {
      key = c.new-key.result;
      key_is = c.new-key.ensures;
      calls = c.amounts_of-amounts.result.calls;
      calls_are = c.amounts_of-amounts.ensures.calls;
      crumbs = c.amounts_of-amounts.result.crumbs;
      crumbs_are = c.amounts_of-amounts.ensures.crumbs;
      triggers = c.amounts_of-amounts.result.triggers;
      triggers_are = c.amounts_of-amounts.ensures.triggers;
      new_chunks = c.in_ok-links.ensures.chunks;
      new_crumbs = c.in_ok-links.ensures.crumbs;
      new_triggers = c.in_ok-links.ensures.triggers;
    })
    c.in_ok-core.ensures.core c.in_ok-autos.ensures c.requires.drawer)

pub returns : goal.returns
returns c =
    let settings = settings_of c.args.settings.now in
    let ops = map operation_of c.args.operations.now in
    let made : PlainClient =
    record { core = c.in_ok-core.core; autos = c.in_ok-autos.autos.items; drawer = c.args.drawer; chunks = outgoing c.in_ok-links.links.chunks; crumbs = c.in_ok-links.links.crumbs; triggers = c.in_ok-links.links.triggers } in
    let parts =
    are_parts settings c.args.client ops c.args.giver.now c.in_ok-core.core c.in_ok-autos.autos.items c.args.drawer c.in_ok-links.links.chunks c.in_ok-links.links.chunk_end c.in_ok-links.links.crumbs c.in_ok-links.links.crumb_end
    c.in_ok-links.links.triggers c.in_ok-links.links.trigger_end
    (record {
      key = c.new-key.result;
      key_is = c.new-key.ensures;
      calls = c.amounts_of-amounts.result.calls;
      calls_are = c.amounts_of-amounts.ensures.calls;
      crumbs = c.amounts_of-amounts.result.crumbs;
      crumbs_are = c.amounts_of-amounts.ensures.crumbs;
      triggers = c.amounts_of-amounts.result.triggers;
      triggers_are = c.amounts_of-amounts.ensures.triggers;
      new_chunks = c.in_ok-links.ensures.chunks;
      new_crumbs = c.in_ok-links.ensures.crumbs;
      new_triggers = c.in_ok-links.ensures.triggers;
    })
    c.in_ok-core.ensures.core c.in_ok-autos.ensures c.requires.drawer in
    let is = c.make-client.ensures.client in
    let with : PlainClient → ConnectedClient =
    λ client. record { caller = record { done = 0; client = client }; chunks = c.in_ok-links.links.chunk_end; crumbs = c.in_ok-links.links.crumb_end; triggers = c.in_ok-links.links.trigger_end } in
    subst (λ (client : PlainClient). IsConnected settings c.args.client ops c.args.giver.now c.args.drawer (with client)) (sym is)
    (connected settings c.args.client ops c.args.giver.now c.args.drawer (with made) made c.requires.playable parts refl refl (subst (λ (client : PlainClient). HasDone (made_of client) [] client) is c.make-client.ensures.done))
