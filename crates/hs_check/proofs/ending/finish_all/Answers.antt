use Rattle.std.proofs.Common.{◌≡◌, ◌+◌, List, [], ◌∷◌, ◌++◌, length, map, sym, ap, subst, arith, length-append}
use Rattle.hs_check.proofs.Prelude.{agent_book_of, AgentBook, book_at}
use Rattle.std.proofs.lemmas.Iterator.Adapters.{YieldsList-from_vec}
use Rattle.std.proofs.lemmas.Iterator.Consumers.{YieldsList-turn, YieldsList-end}
use Rattle.hs_check.proofs.Finishing.{AreBooksSo, may_finish, one_more, all_books}
use Rattle.hs_check.proofs.ending.finish_all.Goals as goal

pub finish-requires : goal.finish-requires
finish-requires c =
    let (settings, runs, are) = c.requires in
    let all = YieldsList-from_vec {s = c.into_iter-agent-iterator.result} c.args.agents.items (cc) (cc) in
    let turn = YieldsList-turn all c.loop-agent.yielded c.loop-agent.agent-iterator c.loop-agent.yielded_by c.next.result c.next.new.self c.in-Some.agent c.in-Some.is c.next.ensures.steps in
    may_finish settings runs c.args.agents.items are (length c.loop-agent.yielded) c.in-Some.agent turn.0 turn.1

pub loop-agent-preserved : goal.loop-agent-preserved
loop-agent-preserved c =
    let all = YieldsList-from_vec {s = c.into_iter-agent-iterator.result} c.args.agents.items (cc) (cc) in
    let turn = YieldsList-turn all c.loop-agent.yielded c.loop-agent.agent-iterator c.loop-agent.yielded_by c.next.result c.next.new.self c.in-Some.agent c.in-Some.is c.next.ensures.steps in
    let count : length c.loop-agent.yielded + 1 ≡ length (c.loop-agent.yielded ++ c.in-Some.agent ∷ []) = let both = length-append c.loop-agent.yielded (c.in-Some.agent ∷ []) in omega (arith, both) in (
      tt,
      tt,
      λ settings runs are.
          let more = one_more settings runs c.args.agents.items are (length c.loop-agent.yielded) c.in-Some.agent c.loop-agent.books.items _ turn.0 turn.1 (λ run follows. c.in_ok-finish.ensures.book run follows) (c.loop-agent.invariant.2 settings runs are) in
          subst (λ n. AreBooksSo runs n c.append.new.self.items) count (subst (AreBooksSo runs (length c.loop-agent.yielded + 1)) (sym c.in_ok-append.ensures.ok) more),
    )

pub returns : goal.returns
returns c = λ settings runs are.
    let all = YieldsList-from_vec {s = c.into_iter-agent-iterator.result} c.args.agents.items (cc) (cc) in
    let last = YieldsList-end all c.loop-agent.yielded c.loop-agent.agent-iterator c.loop-agent.yielded_by c.next.result c.next.new.self c.in-None.is c.next.ensures.steps in
    all_books settings runs c.args.agents.items are (length c.loop-agent.yielded) c.loop-agent.books.items last.1 (c.loop-agent.invariant.2 settings runs are)

pub loop-agent-init : goal.loop-agent-init
loop-agent-init c = (tt, tt, λ settings runs are. ap (λ (l : List AgentBook). map agent_book_of l ++ map book_at runs) c.new-books.ensures.items)
