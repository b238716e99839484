use Rattle.std.proofs.Common.{◌++◌, List, map, refl, sym, ap, ◌∙◌}
use Rattle.hs_check_follow.proofs.Prelude.{YieldsList-from_vec, YieldsList-end, nil_behind, map_self, FollowedClient}
use Rattle.hs_check_follow.proofs.FoundAll.{read_more}
use Rattle.hs_check_follow.proofs.parting.part_clients.Goals as goal

pub loop-client-init : goal.loop-client-init
loop-client-init c = (tt, tt, nil_behind c.args.found.now.items, nil_behind c.args.books.now.items)

pub loop-client-preserved : goal.loop-client-preserved
loop-client-preserved c =
    let is = c.loop-client.invariant in
    let yielded = c.loop-client.yielded in
    let s = c.in-Some.client in
    let more = c.in_ok-part_client.ensures in (
      tt,
      tt,
      read_more (λ (s : FollowedClient). s.found) yielded s c.args.found.now.items c.loop-client.found.items s.found _ more.found is.2 refl,
      read_more (λ (s : FollowedClient). s.book) yielded s c.args.books.now.items c.loop-client.books.items s.book _ more.books is.3 refl,
    )

pub returns-clause-found : goal.returns-clause-found
returns-clause-found c =
    let all = YieldsList-from_vec {s = c.into_iter-client-iterator.result} c.args.clients.items (cc) (cc) in
    let last = YieldsList-end all c.loop-client.yielded c.loop-client.client-iterator c.loop-client.yielded_by c.next.result c.next.new.self c.in-None.is c.next.ensures.steps in
    c.loop-client.invariant.2 ∙ ap (λ (l : List FollowedClient). c.args.found.now.items ++ map (λ (s : FollowedClient). s.found) l) (sym (map_self c.loop-client.yielded) ∙ last.0)

pub returns-clause-books : goal.returns-clause-books
returns-clause-books c =
    let all = YieldsList-from_vec {s = c.into_iter-client-iterator.result} c.args.clients.items (cc) (cc) in
    let last = YieldsList-end all c.loop-client.yielded c.loop-client.client-iterator c.loop-client.yielded_by c.next.result c.next.new.self c.in-None.is c.next.ensures.steps in
    c.loop-client.invariant.3 ∙ ap (λ (l : List FollowedClient). c.args.books.now.items ++ map (λ (s : FollowedClient). s.book) l) (sym (map_self c.loop-client.yielded) ∙ last.0)
