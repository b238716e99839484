use Rattle.std.proofs.Common.{◌≡◌, ◌∷◌, [], ◌++◌, List, length, map, sym, ap, ◌∙◌, subst}
use Rattle.hs_run.proofs.Prelude.{YieldsList-from_vec, YieldsList-turn, YieldsList-end, map-append, Listing, PlainAgentBook, agent_book_of, Drawing, PlainClosedAgent, HasFinished, HaveFinished}
use Rattle.std.proofs.lemmas.Iterator.{YieldsList-from_zip}
use Rattle.std.proofs.lemmas.Iterator.Consumers.{YieldsList-at}
use Rattle.hs_run.proofs.Taken.{can_finish, finished_more, all_finished}
use Rattle.hs_run.proofs.pools.close_pools.Goals as goal

pub finish-requires-clause-done : goal.finish-requires-clause-done
finish-requires-clause-done c =
    let first = YieldsList-at c.zip-node-items.ensures.first (YieldsList-from_vec {s = c.into_iter.result} c.args.nodes.items (cc) (cc)) in
    let second = YieldsList-from_vec {s = c.zip-node-items.result.b} c.args.drawers.items (cc) (cc) in
    let road = YieldsList-at c.into_iter-node-iterator.ensures.into_iter_gives (YieldsList-from_zip first second) in
    let turn = YieldsList-turn road c.loop-node.yielded c.loop-node.node-iterator c.loop-node.yielded_by c.next.result c.next.new.self (c.in-Some.node, c.in-Some.ends) c.in-Some.is c.next.ensures.steps in
    let can = can_finish c.args.nodes.items c.args.drawers.items c.requires (length c.loop-node.yielded) (c.in-Some.node, c.in-Some.ends) turn in
    (can.workload, can.work, can.all, can.stands, can.pinned)

pub finish-requires-clause-ends : goal.finish-requires-clause-ends
finish-requires-clause-ends c =
    let first = YieldsList-at c.zip-node-items.ensures.first (YieldsList-from_vec {s = c.into_iter.result} c.args.nodes.items (cc) (cc)) in
    let second = YieldsList-from_vec {s = c.zip-node-items.result.b} c.args.drawers.items (cc) (cc) in
    let road = YieldsList-at c.into_iter-node-iterator.ensures.into_iter_gives (YieldsList-from_zip first second) in
    let turn = YieldsList-turn road c.loop-node.yielded c.loop-node.node-iterator c.loop-node.yielded_by c.next.result c.next.new.self (c.in-Some.node, c.in-Some.ends) c.in-Some.is c.next.ensures.steps in
    let can = can_finish c.args.nodes.items c.args.drawers.items c.requires (length c.loop-node.yielded) (c.in-Some.node, c.in-Some.ends) turn in
    can.ends

pub loop-node-preserved : goal.loop-node-preserved
loop-node-preserved c =
    let book = agent_book_of c.in_ok-book.book in
    let has : HasFinished c.in-Some.node c.in-Some.ends.items book = record { book_is = c.in_ok-book.ensures.book; tally = c.in_ok-book.ensures.closes.0; closes = c.in_ok-book.ensures.closes.1 } in
    let l = c.loop-node.yielded in
    let x : PlainClosedAgent × Listing Drawing = (c.in-Some.node, c.in-Some.ends) in
    let more = finished_more (map (λ p. p.0) l) (map (λ p. p.1.items) l) (map agent_book_of c.loop-node.books.items) c.in-Some.node c.in-Some.ends.items book c.loop-node.invariant.2 has in
    let books : map agent_book_of c.append.new.self.items ≡ map agent_book_of c.loop-node.books.items ++ book ∷ [] = ap (map agent_book_of) c.in_ok-append.ensures.ok ∙ map-append agent_book_of c.loop-node.books.items (c.in_ok-book.book ∷ []) in
    let firsts : map (λ p. p.0) (l ++ x ∷ []) ≡ map (λ p. p.0) l ++ c.in-Some.node ∷ [] = map-append (λ (p : PlainClosedAgent × Listing Drawing). p.0) l (x ∷ []) in
    let seconds : map (λ p. p.1.items) (l ++ x ∷ []) ≡ map (λ p. p.1.items) l ++ c.in-Some.ends.items ∷ [] = map-append (λ (p : PlainClosedAgent × Listing Drawing). p.1.items) l (x ∷ []) in (
      (tt, tt),
      tt,
      subst (λ (a : List PlainClosedAgent). HaveFinished a (map (λ p. p.1.items) (l ++ x ∷ [])) (map agent_book_of c.append.new.self.items)) (sym firsts)
          (subst (λ (b : List (List Drawing)). HaveFinished (map (λ p. p.0) l ++ c.in-Some.node ∷ []) b (map agent_book_of c.append.new.self.items)) (sym seconds)
          (subst (λ (b : List PlainAgentBook). HaveFinished (map (λ p. p.0) l ++ c.in-Some.node ∷ []) (map (λ p. p.1.items) l ++ c.in-Some.ends.items ∷ []) b) (sym books) more)),
    )

pub returns : goal.returns
returns c =
    let first = YieldsList-at c.zip-node-items.ensures.first (YieldsList-from_vec {s = c.into_iter.result} c.args.nodes.items (cc) (cc)) in
    let second = YieldsList-from_vec {s = c.zip-node-items.result.b} c.args.drawers.items (cc) (cc) in
    let road = YieldsList-at c.into_iter-node-iterator.ensures.into_iter_gives (YieldsList-from_zip first second) in
    let end = YieldsList-end road c.loop-node.yielded c.loop-node.node-iterator c.loop-node.yielded_by c.next.result c.next.new.self c.in-None.is c.next.ensures.steps in
    all_finished c.args.nodes.items c.args.drawers.items c.loop-node.yielded (map agent_book_of c.loop-node.books.items) c.requires end.0 c.loop-node.invariant.2
