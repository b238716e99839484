use Rattle.std.proofs.Common.{◌≡◌, [], ◌∷◌, ◌++◌, List, length, map, sym, ap, ◌∙◌, subst}
use Rattle.hs_run.proofs.Prelude.{YieldsList-from_vec, YieldsList-turn, YieldsList-end, map-append, map_self, PlainClientBook, client_book_of, Drawing, PlainClosedAgent, PlainNodeActors, ActingNode, HaveClosedLinks, items_of, sites_of}
use Rattle.hs_run.proofs.Shut.{there, shut_more}
use Rattle.hs_run.proofs.shutting.shut_all.Goals as goal

abbrev site_in : ActingNode → PlainNodeActors
site_in node = node.site

pub shut-requires : goal.shut-requires
shut-requires c =
    let all = YieldsList-from_vec {s = c.into_iter-node-iterator.result} c.args.nodes.items (c.into_iter-node-iterator.ensures.into_iter_gives.0 ∙ c.into_vec-node-items.ensures.items)
    (c.into_iter-node-iterator.ensures.into_iter_gives.1 ∙ c.into_vec-node-items.result.ok.0 ∙ ap length c.into_vec-node-items.ensures.items) in
    let turn = YieldsList-turn all c.loop-node.yielded c.loop-node.node-iterator c.loop-node.yielded_by c.next.result c.next.new.self c.in-Some.node c.in-Some.is c.next.ensures.steps in
    c.requires.each (length c.loop-node.yielded) (c.in-Some.node.site) (there site_in c.args.nodes.items (length c.loop-node.yielded) c.in-Some.node turn)

pub loop-node-preserved : goal.loop-node-preserved
loop-node-preserved c =
    let yielded = c.loop-node.yielded in
    let node = c.in-Some.node in
    let one = c.in_ok-one.one in
    let old = c.loop-node.ended in
    let new = c.add.new.self in
    let added = c.in_ok-add.ensures in
    let books = map client_book_of old.books.items in
    let lists = items_of old.drawers.items in
    let more = shut_more (sites_of yielded) books lists old.nodes.items (node.site) (map client_book_of one.books.items) one.drawers.items one.node c.loop-node.invariant.2 c.in_ok-one.ensures in
    let sites : sites_of (yielded ++ node ∷ []) ≡ sites_of yielded ++ node.site ∷ [] = map-append site_in yielded (node ∷ []) in
    let drawers : items_of new.drawers.items ≡ lists ++ one.drawers.items ∷ [] = ap items_of added.drawers ∙ map-append _ old.drawers.items (one.drawers ∷ []) in (
      tt,
      tt,
      subst (λ (l : List PlainNodeActors). HaveClosedLinks l (map client_book_of new.books.items) (items_of new.drawers.items) new.nodes.items) (sym sites)
          (subst (λ (l : List PlainClientBook). HaveClosedLinks (sites_of yielded ++ node.site ∷ []) l (items_of new.drawers.items) new.nodes.items) (sym added.books)
          (subst (λ (l : List (List Drawing)). HaveClosedLinks (sites_of yielded ++ node.site ∷ []) (books ++ map client_book_of one.books.items) l new.nodes.items) (sym drawers)
          (subst (λ (l : List PlainClosedAgent). HaveClosedLinks (sites_of yielded ++ node.site ∷ []) (books ++ map client_book_of one.books.items) (lists ++ one.drawers.items ∷ []) l) (sym added.nodes) more))),
    )

pub returns : goal.returns
returns c =
    let all = YieldsList-from_vec {s = c.into_iter-node-iterator.result} c.args.nodes.items (c.into_iter-node-iterator.ensures.into_iter_gives.0 ∙ c.into_vec-node-items.ensures.items)
    (c.into_iter-node-iterator.ensures.into_iter_gives.1 ∙ c.into_vec-node-items.result.ok.0 ∙ ap length c.into_vec-node-items.ensures.items) in
    let last = YieldsList-end all c.loop-node.yielded c.loop-node.node-iterator c.loop-node.yielded_by c.next.result c.next.new.self c.in-None.is c.next.ensures.steps in
    subst (λ (l : List ActingNode). HaveClosedLinks (sites_of l) (map client_book_of c.loop-node.ended.books.items) (items_of c.loop-node.ended.drawers.items) c.loop-node.ended.nodes.items) (sym (map_self c.loop-node.yielded) ∙ last.0) c.loop-node.invariant.2
