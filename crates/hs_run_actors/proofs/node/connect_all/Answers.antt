use Rattle.std.proofs.Common.{◌≡◌, ◌+◌, [], ◌∷◌, ◌++◌, List, length, map, sym, ap, ◌∙◌, subst, arith, length-append}
use Rattle.hs_run_actors.proofs.Prelude.{YieldsList-from_vec, YieldsList-turn, YieldsList-end, length-map, map-append, client_of, incoming, IsPlayable, Operation, place_of, ops_of, operation_of, workload_of, new_drawers_length, PlainClientActor, IsConnected, AreBegun, Receiving, lefts_of, IsDrawerFor}
use Rattle.hs_records.proofs.Sizes.{last_low}
use Rattle.hs_run_actors.proofs.Clients.{next_is, can_draw, are_few, count_of}
use Rattle.hs_run_actors.proofs.Connecting.{begun_more}
use Rattle.hs_run_actors.proofs.node.connect_all.Goals as goal

pub bounds-clients-number : goal.bounds-clients-number
bounds-clients-number c =
    let all = YieldsList-from_vec {s = c.into_iter-drawer-iterator.result} c.args.drawers.items (cc) (cc) in
    let turn = YieldsList-turn all c.loop-drawer.yielded c.loop-drawer.drawer-iterator c.loop-drawer.yielded_by c.next.result c.next.new.self c.in-Some.drawer c.in-Some.is c.next.ensures.steps in
    (next_is c.args.workload.now c.args.node c.args.clients.now c.args.giver.now c.args.drawers.items c.loop-drawer.number (length c.loop-drawer.yielded) c.in-Some.drawer c.requires.clients c.requires.drawers c.loop-drawer.invariant.2 turn).within

pub make-requires-clause-playable : goal.make-requires-clause-playable
make-requires-clause-playable c =
    let w = c.args.workload.now in
    let W = workload_of w in
    let number = c.loop-drawer.number in
    let all = YieldsList-from_vec {s = c.into_iter-drawer-iterator.result} c.args.drawers.items (cc) (cc) in
    let turn = YieldsList-turn all c.loop-drawer.yielded c.loop-drawer.drawer-iterator c.loop-drawer.yielded_by c.next.result c.next.new.self c.in-Some.drawer c.in-Some.is c.next.ensures.steps in
    let next = next_is w c.args.node c.args.clients.now c.args.giver.now c.args.drawers.items number (length c.loop-drawer.yielded) c.in-Some.drawer c.requires.clients c.requires.drawers c.loop-drawer.invariant.2 turn in
    let ops : map operation_of c.as_slice-operations.result.now ≡ ops_of W c.args.node number = ap (map operation_of) c.as_slice-operations.ensures ∙ next.ops_are c.index-clients-number.result c.index-clients-number.is in
    subst (λ (l : List Operation). IsPlayable W.settings l) (sym ops)
    (c.valid_clients_may_be_played.ensures W c.requires.clients.valid (place_of W.settings.clients c.args.node number) (omega (arith, next.low, last_low W c.requires.clients.valid c.args.node c.requires.clients.low)))

pub make-requires-clause-drawer : goal.make-requires-clause-drawer
make-requires-clause-drawer c =
    let w = c.args.workload.now in
    let W = workload_of w in
    let number = c.loop-drawer.number in
    let all = YieldsList-from_vec {s = c.into_iter-drawer-iterator.result} c.args.drawers.items (cc) (cc) in
    let turn = YieldsList-turn all c.loop-drawer.yielded c.loop-drawer.drawer-iterator c.loop-drawer.yielded_by c.next.result c.next.new.self c.in-Some.drawer c.in-Some.is c.next.ensures.steps in
    let next = next_is w c.args.node c.args.clients.now c.args.giver.now c.args.drawers.items number (length c.loop-drawer.yielded) c.in-Some.drawer c.requires.clients c.requires.drawers c.loop-drawer.invariant.2 turn in
    let ops : map operation_of c.as_slice-operations.result.now ≡ ops_of W c.args.node number = ap (map operation_of) c.as_slice-operations.ensures ∙ next.ops_are c.index-clients-number.result c.index-clients-number.is in
    subst (λ (l : List Operation). IsDrawerFor W.settings l c.args.giver.now c.in-Some.drawer) (sym ops) (can_draw W.settings c.args.giver.now number (ops_of W c.args.node number) c.in-Some.drawer next.drawer_is c.requires.size)

pub add-requires-clause-callers : goal.add-requires-clause-callers
add-requires-clause-callers c =
    let is = c.loop-drawer.invariant in
    let all = YieldsList-from_vec {s = c.into_iter-drawer-iterator.result} c.args.drawers.items (cc) (cc) in
    let turn = YieldsList-turn all c.loop-drawer.yielded c.loop-drawer.drawer-iterator c.loop-drawer.yielded_by c.next.result c.next.new.self c.in-Some.drawer c.in-Some.is c.next.ensures.steps in
    let next = next_is c.args.workload.now c.args.node c.args.clients.now c.args.giver.now c.args.drawers.items c.loop-drawer.number (length c.loop-drawer.yielded) c.in-Some.drawer c.requires.clients c.requires.drawers is.2 turn in
    omega (arith, is.7.callers_are, is.2, next.within, is.3)

pub add-requires-clause-chunks : goal.add-requires-clause-chunks
add-requires-clause-chunks c =
    let is = c.loop-drawer.invariant in
    let all = YieldsList-from_vec {s = c.into_iter-drawer-iterator.result} c.args.drawers.items (cc) (cc) in
    let turn = YieldsList-turn all c.loop-drawer.yielded c.loop-drawer.drawer-iterator c.loop-drawer.yielded_by c.next.result c.next.new.self c.in-Some.drawer c.in-Some.is c.next.ensures.steps in
    let next = next_is c.args.workload.now c.args.node c.args.clients.now c.args.giver.now c.args.drawers.items c.loop-drawer.number (length c.loop-drawer.yielded) c.in-Some.drawer c.requires.clients c.requires.drawers is.2 turn in
    omega (arith, is.7.chunks, length-map c.loop-drawer.ends.chunks.items incoming, is.2, next.within, is.4)

pub add-requires-clause-crumbs : goal.add-requires-clause-crumbs
add-requires-clause-crumbs c =
    let is = c.loop-drawer.invariant in
    let all = YieldsList-from_vec {s = c.into_iter-drawer-iterator.result} c.args.drawers.items (cc) (cc) in
    let turn = YieldsList-turn all c.loop-drawer.yielded c.loop-drawer.drawer-iterator c.loop-drawer.yielded_by c.next.result c.next.new.self c.in-Some.drawer c.in-Some.is c.next.ensures.steps in
    let next = next_is c.args.workload.now c.args.node c.args.clients.now c.args.giver.now c.args.drawers.items c.loop-drawer.number (length c.loop-drawer.yielded) c.in-Some.drawer c.requires.clients c.requires.drawers is.2 turn in
    omega (arith, is.7.crumbs, is.2, next.within, is.5)

pub add-requires-clause-triggers : goal.add-requires-clause-triggers
add-requires-clause-triggers c =
    let is = c.loop-drawer.invariant in
    let all = YieldsList-from_vec {s = c.into_iter-drawer-iterator.result} c.args.drawers.items (cc) (cc) in
    let turn = YieldsList-turn all c.loop-drawer.yielded c.loop-drawer.drawer-iterator c.loop-drawer.yielded_by c.next.result c.next.new.self c.in-Some.drawer c.in-Some.is c.next.ensures.steps in
    let next = next_is c.args.workload.now c.args.node c.args.clients.now c.args.giver.now c.args.drawers.items c.loop-drawer.number (length c.loop-drawer.yielded) c.in-Some.drawer c.requires.clients c.requires.drawers is.2 turn in
    omega (arith, is.7.triggers, is.2, next.within, is.6)

pub overflow_add-number : goal.overflow_add-number
overflow_add-number c =
    let all = YieldsList-from_vec {s = c.into_iter-drawer-iterator.result} c.args.drawers.items (c.into_iter-drawer-iterator.ensures.into_iter_gives.0 ∙ c.into_vec-drawer-items.ensures.items)
    (c.into_iter-drawer-iterator.ensures.into_iter_gives.1 ∙ c.into_vec-drawer-items.result.ok.0 ∙ ap length c.into_vec-drawer-items.ensures.items) in
    let turn = YieldsList-turn all c.loop-drawer.yielded c.loop-drawer.drawer-iterator c.loop-drawer.yielded_by c.next.result c.next.new.self c.in-Some.drawer c.in-Some.is c.next.ensures.steps in
    let next = next_is c.args.workload.now c.args.node c.args.clients.now c.args.giver.now c.args.drawers.items c.loop-drawer.number (length c.loop-drawer.yielded) c.in-Some.drawer c.requires.clients c.requires.drawers c.loop-drawer.invariant.2 turn in
    omega (arith, next.low, (are_few (workload_of c.args.workload.now) c.requires.clients.valid).clients)

pub loop-drawer-preserved : goal.loop-drawer-preserved
loop-drawer-preserved c =
    let w = c.args.workload.now in
    let W = workload_of w in
    let is = c.loop-drawer.invariant in
    let number = c.loop-drawer.number in
    let giver = c.args.giver.now in
    let ends = c.loop-drawer.ends in
    let made = c.in_ok-make.field-0 in
    let added = c.add.ensures in
    let all = YieldsList-from_vec {s = c.into_iter-drawer-iterator.result} c.args.drawers.items (c.into_iter-drawer-iterator.ensures.into_iter_gives.0 ∙ c.into_vec-drawer-items.ensures.items)
    (c.into_iter-drawer-iterator.ensures.into_iter_gives.1 ∙ c.into_vec-drawer-items.result.ok.0 ∙ ap length c.into_vec-drawer-items.ensures.items) in
    let turn = YieldsList-turn all c.loop-drawer.yielded c.loop-drawer.drawer-iterator c.loop-drawer.yielded_by c.next.result c.next.new.self c.in-Some.drawer c.in-Some.is c.next.ensures.steps in
    let next = next_is w c.args.node c.args.clients.now giver c.args.drawers.items number (length c.loop-drawer.yielded) c.in-Some.drawer c.requires.clients c.requires.drawers is.2 turn in
    let ops : map operation_of c.as_slice-operations.result.now ≡ ops_of W c.args.node number = ap (map operation_of) c.as_slice-operations.ensures ∙ next.ops_are c.index-clients-number.result c.index-clients-number.is in
    let connected = subst (λ (l : List Operation). IsConnected W.settings (client_of c.args.node number) l giver c.in-Some.drawer made) ops c.in_ok-make.ensures in
    let count : number + 1 ≡ length (c.loop-drawer.yielded ++ c.in-Some.drawer ∷ []) = omega (arith, is.2, length-append c.loop-drawer.yielded (c.in-Some.drawer ∷ [])) in
    let old : Receiving = record { chunks = map incoming ends.chunks.items; crumbs = ends.crumbs.items; triggers = ends.triggers.items } in
    let new : Receiving = record { chunks = map incoming c.add.new.self.chunks.items; crumbs = c.add.new.self.crumbs.items; triggers = c.add.new.self.triggers.items } in
    let at = subst (λ n. AreBegun W c.args.node giver n ends.callers.items old) (sym is.2) is.7 in
    let more = begun_more W c.args.node giver number ends.callers.items old c.in-Some.drawer made at next.drawer_is connected in
    let chunks = ap (map incoming) added.chunks.0 ∙ map-append incoming ends.chunks.items (made.chunks ∷ []) in
    let same : new ≡ record { chunks = old.chunks ++ incoming made.chunks ∷ []; crumbs = old.crumbs ++ made.crumbs ∷ []; triggers = old.triggers ++ made.triggers ∷ [] } =
    λ i. record { chunks = chunks i; crumbs = added.crumbs.0 i; triggers = added.triggers.0 i } in (
      tt,
      tt,
      count,
      omega (arith, is.3, added.callers.1),
      omega (arith, is.4, added.chunks.1),
      omega (arith, is.5, added.crumbs.1),
      omega (arith, is.6, added.triggers.1),
      subst (λ n. AreBegun W c.args.node giver n c.add.new.self.callers.items new) count
          (subst (λ (l : List PlainClientActor). AreBegun W c.args.node giver (number + 1) l new) (sym added.callers.0)
          (subst (λ (r : Receiving). AreBegun W c.args.node giver (number + 1) (ends.callers.items ++ made.caller ∷ []) r) (sym same) more)),
    )

pub returns : goal.returns
returns c =
    let w = c.args.workload.now in
    let W = workload_of w in
    let ends = c.loop-drawer.ends in
    let all = YieldsList-from_vec {s = c.into_iter-drawer-iterator.result} c.args.drawers.items (cc) (cc) in
    let last = YieldsList-end all c.loop-drawer.yielded c.loop-drawer.drawer-iterator c.loop-drawer.yielded_by c.next.result c.next.new.self c.in-None.is c.next.ensures.steps in
    let lefts = lefts_of w.settings.size c.args.clients.now in
    let count : length c.loop-drawer.yielded ≡ w.settings.clients =
    last.1 ∙ ap length c.requires.drawers ∙ new_drawers_length c.args.giver.now.pool w.settings.buffers w.settings.size 0 lefts ∙ length-map c.args.clients.now _ ∙ count_of w c.args.node c.args.clients.now c.requires.clients in
    subst (λ n. AreBegun W c.args.node c.args.giver.now n ends.callers.items (record { chunks = map incoming ends.chunks.items; crumbs = ends.crumbs.items; triggers = ends.triggers.items })) count c.loop-drawer.invariant.7
