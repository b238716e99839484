use Rattle.std.proofs.Common.{◌≡◌, ◌∙◌, suc, ◌*◌, [], ◌∷◌, ◌++◌, length, map, take, sym, ap, arith, length-append}
use Rattle.hs_replay.proofs.Prelude.{YieldsList-from_vec, YieldsList-turn, YieldsList-end, range_with_len, item_there, agent_book_of, client_book_of, NodeRun, followed, book_of, client_book}
use Rattle.hs_replay.proofs.Booked.{has_ended, clients_more, agents_more, all_clients, all_agents}
use Rattle.hs_replay.proofs.books.books_of.Goals as goal

pub finish-requires : goal.finish-requires
finish-requires c =
    let (W, coordinator, closed) = c.requires in
    let all = YieldsList-from_vec {s = c.into_iter-node-iterator.result} c.args.nodes.items (cc) (cc) in
    let turn = YieldsList-turn all c.loop-node.yielded c.loop-node.node-iterator c.loop-node.yielded_by c.next.result c.next.new.self c.in-Some.node c.in-Some.is c.next.ensures.steps in
    let stood = item_there c.args.nodes.items (length c.loop-node.yielded) c.in-Some.node turn in
    (W, closed.last, length c.loop-node.yielded, has_ended c.machines_are_whole.ensures W c.args.nodes.items coordinator closed (length c.loop-node.yielded) c.in-Some.node stood)

pub loop-node-preserved : goal.loop-node-preserved
loop-node-preserved c =
    let all = YieldsList-from_vec {s = c.into_iter-node-iterator.result} c.args.nodes.items (cc) (cc) in
    let turn = YieldsList-turn all c.loop-node.yielded c.loop-node.node-iterator c.loop-node.yielded_by c.next.result c.next.new.self c.in-Some.node c.in-Some.is c.next.ensures.steps in
    let stood = item_there c.args.nodes.items (length c.loop-node.yielded) c.in-Some.node turn in
    let count : length (c.loop-node.yielded ++ c.in-Some.node ∷ []) ≡ suc (length c.loop-node.yielded) = let both = length-append c.loop-node.yielded (c.in-Some.node ∷ []) in omega (arith, both) in (
      tt,
      tt,
      λ W coordinator closed.
          let k = length c.loop-node.yielded in
          let so = c.loop-node.invariant.2 W coordinator closed in
          let ended = has_ended c.machines_are_whole.ensures W c.args.nodes.items coordinator closed k c.in-Some.node stood in
          let clients = clients_more c.machines_are_whole.ensures W c.args.nodes.items coordinator closed k c.loop-node.clients.items c.finish.new.clients.items (c.in_ok-book.ensures.clients W closed.last k ended) so.0 in
          let agents = agents_more c.machines_are_whole.ensures W c.args.nodes.items coordinator closed k c.loop-node.agents.items c.in_ok-book.book (c.in_ok-book.ensures.agent W closed.last k ended) so.1 in (
            clients ∙ ap (λ n. map (client_book W closed.last.journal) (range_with_len 0 (n * W.settings.clients))) (sym count),
            ap (map agent_book_of) c.in_ok-append.ensures.ok ∙ agents ∙ ap (λ n. map (λ (node : NodeRun). book_of node.node node.state) (take n (followed W closed.last.journal).nodes)) (sym count),
          ),
    )

pub returns : goal.returns
returns c = λ W coordinator closed.
    let all = YieldsList-from_vec {s = c.into_iter-node-iterator.result} c.args.nodes.items (cc) (cc) in
    let last = YieldsList-end all c.loop-node.yielded c.loop-node.node-iterator c.loop-node.yielded_by c.next.result c.next.new.self c.in-None.is c.next.ensures.steps in
    let so = c.loop-node.invariant.2 W coordinator closed in
    record {
      clients_are = all_clients c.machines_are_whole.ensures W c.args.nodes.items coordinator closed (length c.loop-node.yielded) c.loop-node.clients.items last.1 so.0;
      agents_are = all_agents c.machines_are_whole.ensures W c.args.nodes.items coordinator closed (length c.loop-node.yielded) c.loop-node.agents.items last.1 so.1;
    }

pub loop-node-init : goal.loop-node-init
loop-node-init c = (
  tt,
  tt,
  λ W coordinator closed.
      let none : 0 * W.settings.clients ≡ 0 = omega arith in
      (ap (map client_book_of) c.new-clients.ensures.items ∙ sym (ap (λ n. map (client_book W closed.last.journal) (range_with_len 0 n)) none), ap (map agent_book_of) c.new-agents.ensures.items),
)
