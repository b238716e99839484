use Rattle.std.proofs.Common.{◌≡◌, ◌+◌, [], ◌∷◌, ◌++◌, List, length, map, sym, ap, ◌∙◌, subst, arith, length-append}
use Rattle.std.proofs.lemmas.Iterator.Adapters.{YieldsList-from_vec}
use Rattle.std.proofs.lemmas.Iterator.Consumers.{YieldsList-end, YieldsList-turn}
use Rattle.std.proofs.lemmas.List.{length-map, length-replicate, map-append}
use Rattle.hs_live.specs.Live.{incoming}
use Rattle.hs_ring.proofs.Drawers.{new_drawers_length}
use Rattle.hs_ring.specs.Parts.{Drawing}
use Rattle.hs_node_client.specs.Clients.{PlainNodeClient}
use Rattle.hs_node_client.specs.Making.{AreJoined, IsNewClient, Receiving, ends_of, id_of, joined_ends, rules_by, share, shares}
use Rattle.hs_node_client.proofs.Joining.{joined_more, more_ends, next_is}
use Rattle.hs_node_client.proofs.making.join_all.Goals as goal
use Rattle.hs_node_client.proofs.making.join_all.Goals.{After-next}

pub join_one-requires-clause-drawer : goal.join_one-requires-clause-drawer
join_one-requires-clause-drawer c =
    let all = YieldsList-from_vec {s = c.into_iter-drawer-iterator.result} c.args.drawers.items (cc) (cc) in
    let turn = YieldsList-turn all c.loop-drawer.yielded c.loop-drawer.drawer-iterator c.loop-drawer.yielded_by c.next.result c.next.new.self c.in-Some.drawer c.in-Some.is c.next.ensures.steps in
    let next = next_is c.args.limits.now c.args.giver.now c.args.drawers.items c.loop-drawer.number (length c.loop-drawer.yielded) c.in-Some.drawer c.requires.drawers c.loop-drawer.invariant.2 turn in
    (ap (λ (d : Drawing). d.size) next.drawer_is, ap (λ (d : Drawing). d.pool) next.drawer_is)

pub add-requires-clause-clients : goal.add-requires-clause-clients
add-requires-clause-clients c =
    let is = c.loop-drawer.invariant in
    let all = YieldsList-from_vec {s = c.into_iter-drawer-iterator.result} c.args.drawers.items (cc) (cc) in
    let turn = YieldsList-turn all c.loop-drawer.yielded c.loop-drawer.drawer-iterator c.loop-drawer.yielded_by c.next.result c.next.new.self c.in-Some.drawer c.in-Some.is c.next.ensures.steps in
    let next = next_is c.args.limits.now c.args.giver.now c.args.drawers.items c.loop-drawer.number (length c.loop-drawer.yielded) c.in-Some.drawer c.requires.drawers is.2 turn in
    omega (arith, is.9.clients_are, is.2, next.low, is.3)

pub add-requires-clause-chunks : goal.add-requires-clause-chunks
add-requires-clause-chunks c =
    let is = c.loop-drawer.invariant in
    let all = YieldsList-from_vec {s = c.into_iter-drawer-iterator.result} c.args.drawers.items (cc) (cc) in
    let turn = YieldsList-turn all c.loop-drawer.yielded c.loop-drawer.drawer-iterator c.loop-drawer.yielded_by c.next.result c.next.new.self c.in-Some.drawer c.in-Some.is c.next.ensures.steps in
    let next = next_is c.args.limits.now c.args.giver.now c.args.drawers.items c.loop-drawer.number (length c.loop-drawer.yielded) c.in-Some.drawer c.requires.drawers is.2 turn in
    omega (arith, is.9.chunks, length-map c.loop-drawer.joined.chunks.items incoming, is.2, next.low, is.4)

pub add-requires-clause-crumbs : goal.add-requires-clause-crumbs
add-requires-clause-crumbs c =
    let is = c.loop-drawer.invariant in
    let all = YieldsList-from_vec {s = c.into_iter-drawer-iterator.result} c.args.drawers.items (cc) (cc) in
    let turn = YieldsList-turn all c.loop-drawer.yielded c.loop-drawer.drawer-iterator c.loop-drawer.yielded_by c.next.result c.next.new.self c.in-Some.drawer c.in-Some.is c.next.ensures.steps in
    let next = next_is c.args.limits.now c.args.giver.now c.args.drawers.items c.loop-drawer.number (length c.loop-drawer.yielded) c.in-Some.drawer c.requires.drawers is.2 turn in
    omega (arith, is.9.crumbs, is.2, next.low, is.5)

pub add-requires-clause-triggers : goal.add-requires-clause-triggers
add-requires-clause-triggers c =
    let is = c.loop-drawer.invariant in
    let all = YieldsList-from_vec {s = c.into_iter-drawer-iterator.result} c.args.drawers.items (cc) (cc) in
    let turn = YieldsList-turn all c.loop-drawer.yielded c.loop-drawer.drawer-iterator c.loop-drawer.yielded_by c.next.result c.next.new.self c.in-Some.drawer c.in-Some.is c.next.ensures.steps in
    let next = next_is c.args.limits.now c.args.giver.now c.args.drawers.items c.loop-drawer.number (length c.loop-drawer.yielded) c.in-Some.drawer c.requires.drawers is.2 turn in
    omega (arith, is.9.triggers, is.2, next.low, is.6)

pub add-requires-clause-late : goal.add-requires-clause-late
add-requires-clause-late c =
    let is = c.loop-drawer.invariant in
    let all = YieldsList-from_vec {s = c.into_iter-drawer-iterator.result} c.args.drawers.items (cc) (cc) in
    let turn = YieldsList-turn all c.loop-drawer.yielded c.loop-drawer.drawer-iterator c.loop-drawer.yielded_by c.next.result c.next.new.self c.in-Some.drawer c.in-Some.is c.next.ensures.steps in
    let next = next_is c.args.limits.now c.args.giver.now c.args.drawers.items c.loop-drawer.number (length c.loop-drawer.yielded) c.in-Some.drawer c.requires.drawers is.2 turn in
    omega (arith, is.9.late, is.2, next.low, is.7)

pub add-requires-clause-notes : goal.add-requires-clause-notes
add-requires-clause-notes c =
    let is = c.loop-drawer.invariant in
    let all = YieldsList-from_vec {s = c.into_iter-drawer-iterator.result} c.args.drawers.items (cc) (cc) in
    let turn = YieldsList-turn all c.loop-drawer.yielded c.loop-drawer.drawer-iterator c.loop-drawer.yielded_by c.next.result c.next.new.self c.in-Some.drawer c.in-Some.is c.next.ensures.steps in
    let next = next_is c.args.limits.now c.args.giver.now c.args.drawers.items c.loop-drawer.number (length c.loop-drawer.yielded) c.in-Some.drawer c.requires.drawers is.2 turn in
    omega (arith, is.9.notes, is.2, next.low, is.8)

pub overflow_add-number : goal.overflow_add-number
overflow_add-number c =
    let all = YieldsList-from_vec {s = c.into_iter-drawer-iterator.result} c.args.drawers.items (cc) (cc) in
    let turn = YieldsList-turn all c.loop-drawer.yielded c.loop-drawer.drawer-iterator c.loop-drawer.yielded_by c.next.result c.next.new.self c.in-Some.drawer c.in-Some.is c.next.ensures.steps in
    let next = next_is c.args.limits.now c.args.giver.now c.args.drawers.items c.loop-drawer.number (length c.loop-drawer.yielded) c.in-Some.drawer c.requires.drawers c.loop-drawer.invariant.2 turn in
    omega (arith, next.low, c.requires.fit.sizes.clients.1)

pub loop-drawer-preserved : goal.loop-drawer-preserved
loop-drawer-preserved c =
    let limits = c.args.limits.now in
    let rules = rules_by c.args.autos.now.items c.args.triggers.now.items c.args.nodes in
    let giver = c.args.giver.now in
    let is = c.loop-drawer.invariant in
    let number = c.loop-drawer.number in
    let joined = c.loop-drawer.joined in
    let client = c.in_ok-client.client in
    let ends = ends_of c.in_ok-client.ends in
    let added = c.add.ensures in
    let all = YieldsList-from_vec {s = c.into_iter-drawer-iterator.result} c.args.drawers.items (c.into_iter-drawer-iterator.ensures.into_iter_gives.0 ∙ c.into_vec-drawer-items.ensures.items)
    (c.into_iter-drawer-iterator.ensures.into_iter_gives.1 ∙ c.into_vec-drawer-items.result.ok.0 ∙ ap length c.into_vec-drawer-items.ensures.items) in
    let turn = YieldsList-turn all c.loop-drawer.yielded c.loop-drawer.drawer-iterator c.loop-drawer.yielded_by c.next.result c.next.new.self c.in-Some.drawer c.in-Some.is c.next.ensures.steps in
    let next = next_is limits giver c.args.drawers.items number (length c.loop-drawer.yielded) c.in-Some.drawer c.requires.drawers is.2 turn in
    let count : number + 1 ≡ length (c.loop-drawer.yielded ++ c.in-Some.drawer ∷ []) = omega (arith, is.2, length-append c.loop-drawer.yielded (c.in-Some.drawer ∷ [])) in
    let at = subst (λ n. AreJoined limits rules giver n joined.clients.items (joined_ends joined)) (sym is.2) is.9 in
    let new = subst (λ (d : Drawing). IsNewClient limits rules (id_of limits number) d client) next.drawer_is c.in_ok-client.ensures.new in
    let more = joined_more limits rules giver number joined.clients.items (joined_ends joined) client ends at new c.in_ok-client.ensures.linked in
    let chunks = ap (map incoming) added.chunks.0 ∙ map-append incoming joined.chunks.items (c.in_ok-client.ends.chunks ∷ []) in
    let same : joined_ends c.add.new.self ≡ more_ends (joined_ends joined) ends =
    λ i. record { chunks = chunks i; crumbs = added.crumbs.0 i; triggers = added.triggers.0 i; late = added.late.0 i; notes = added.notes.0 i } in (
      tt,
      tt,
      count,
      omega (arith, is.3, added.clients.1),
      omega (arith, is.4, added.chunks.1),
      omega (arith, is.5, added.crumbs.1),
      omega (arith, is.6, added.triggers.1),
      omega (arith, is.7, added.late.1),
      omega (arith, is.8, added.notes.1),
      subst (λ n. AreJoined limits rules giver n c.add.new.self.clients.items (joined_ends c.add.new.self)) count
          (subst (λ (l : List PlainNodeClient). AreJoined limits rules giver (number + 1) l (joined_ends c.add.new.self)) (sym added.clients.0)
          (subst (λ (r : Receiving). AreJoined limits rules giver (number + 1) (joined.clients.items ++ client ∷ []) r) (sym same) more)),
    )

pub returns : goal.returns
returns c =
    let limits = c.args.limits.now in
    let rules = rules_by c.args.autos.now.items c.args.triggers.now.items c.args.nodes in
    let joined = c.loop-drawer.joined in
    let all = YieldsList-from_vec {s = c.into_iter-drawer-iterator.result} c.args.drawers.items (cc) (cc) in
    let last = YieldsList-end all c.loop-drawer.yielded c.loop-drawer.drawer-iterator c.loop-drawer.yielded_by c.next.result c.next.new.self c.in-None.is c.next.ensures.steps in
    let count : length c.loop-drawer.yielded ≡ limits.clients =
    last.1 ∙ ap length c.requires.drawers ∙ new_drawers_length c.args.giver.now.pool limits.buffers limits.size 0 (shares limits.clients) ∙ length-replicate limits.clients (share limits.clients) in
    subst (λ n. AreJoined limits rules c.args.giver.now n joined.clients.items (joined_ends joined)) count c.loop-drawer.invariant.9
