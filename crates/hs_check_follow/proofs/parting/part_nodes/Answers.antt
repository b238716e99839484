use Rattle.std.proofs.Common.{[], ◌∷◌, ◌++◌, List, map, refl, sym, ap, ◌∙◌, subst}
use Rattle.hs_check_follow.proofs.Prelude.{YieldsList-from_vec, YieldsList-end, flat_map, nil_behind, map_self, AreFound, books_left, IsFoundOf, FollowedNode}
use Rattle.hs_check_follow.proofs.FoundAll.{read_more, flat_more, found_more}
use Rattle.hs_check_follow.proofs.parting.part_nodes.Goals as goal

pub loop-tracked-init : goal.loop-tracked-init
loop-tracked-init c =
    (tt, tt, subst (AreFound IsFoundOf []) (sym c.new-found.ensures.items) tt, nil_behind c.args.ended.now.clients.items, nil_behind c.args.ended.now.agents.items)

pub loop-tracked-preserved : goal.loop-tracked-preserved
loop-tracked-preserved c =
    let is = c.loop-tracked.invariant in
    let yielded = c.loop-tracked.yielded in
    let t = c.in-Some.tracked in (
      tt,
      tt,
      subst (AreFound IsFoundOf (yielded ++ t ∷ [])) (sym c.in_ok-append.ensures.ok) (found_more IsFoundOf yielded c.loop-tracked.found.items t c.in_ok-part_node.field-0 is.2 c.in_ok-part_node.ensures.found),
      flat_more books_left yielded t c.args.ended.now.clients.items c.loop-tracked.ended.clients.items _ c.in_ok-part_node.ensures.clients is.3,
      read_more (λ (t : FollowedNode). t.follower.agent) yielded t c.args.ended.now.agents.items c.loop-tracked.ended.agents.items t.follower.agent _ c.in_ok-part_node.ensures.agents is.4 refl,
    )

pub returns-clause-found : goal.returns-clause-found
returns-clause-found c =
    let all = YieldsList-from_vec {s = c.into_iter-tracked-iterator.result} c.args.nodes.items (cc) (cc) in
    let last = YieldsList-end all c.loop-tracked.yielded c.loop-tracked.tracked-iterator c.loop-tracked.yielded_by c.next.result c.next.new.self c.in-None.is c.next.ensures.steps in
    subst (λ (l : List FollowedNode). AreFound IsFoundOf l c.loop-tracked.found.items) (sym (map_self c.loop-tracked.yielded) ∙ last.0) c.loop-tracked.invariant.2

pub returns-clause-clients : goal.returns-clause-clients
returns-clause-clients c =
    let all = YieldsList-from_vec {s = c.into_iter-tracked-iterator.result} c.args.nodes.items (cc) (cc) in
    let last = YieldsList-end all c.loop-tracked.yielded c.loop-tracked.tracked-iterator c.loop-tracked.yielded_by c.next.result c.next.new.self c.in-None.is c.next.ensures.steps in
    c.loop-tracked.invariant.3 ∙ ap (λ (l : List FollowedNode). c.args.ended.now.clients.items ++ flat_map books_left l) (sym (map_self c.loop-tracked.yielded) ∙ last.0)

pub returns-clause-agents : goal.returns-clause-agents
returns-clause-agents c =
    let all = YieldsList-from_vec {s = c.into_iter-tracked-iterator.result} c.args.nodes.items (cc) (cc) in
    let last = YieldsList-end all c.loop-tracked.yielded c.loop-tracked.tracked-iterator c.loop-tracked.yielded_by c.next.result c.next.new.self c.in-None.is c.next.ensures.steps in
    c.loop-tracked.invariant.4 ∙ ap (λ (l : List FollowedNode). c.args.ended.now.agents.items ++ map (λ (t : FollowedNode). t.follower.agent) l) (sym (map_self c.loop-tracked.yielded) ∙ last.0)
