use Rattle.std.proofs.Common.{[], List, None, subst, sym, ◌≡◌}
use Rattle.hs_agent.specs.Keeping.{PlainAgent}
use Rattle.hs_replay.proofs.Prelude.{agent_book_of, Follows, HaveEnded, Knows, PlainReplayClient, run_of, state_of}
use Rattle.hs_replay.proofs.Ended.{have_ended, may_finish, book_at}
use Rattle.hs_replay.proofs.Values.{on_ok_so, on_ok_value}
use Rattle.hs_replay.proofs.node.ReplayNode.finish.Goals as goal

pub note_players-requires : goal.note_players-requires
note_players-requires c =
    let (W, m, n, ended) = c.requires in
    (W, m, n, subst (λ (l : List PlainReplayClient). HaveEnded W m n l) (sym c.ends-players.ensures.players) (have_ended W m n c.args.self ended))

pub agent_book-requires : goal.agent_book-requires
agent_book-requires c =
    let (W, m, n, ended) = c.requires in
    subst (λ (a : PlainAgent (Unit {0})). Knows a (λ run. ((state_of run).pinned ≡ []) × (run.offered ≡ None))) (sym c.ends-players.ensures.agent) (may_finish W m n c.args.self ended)

pub returns-clause-agent : goal.returns-clause-agent
returns-clause-agent c = λ W m n ended.
    let run = run_of W.settings ended.at.run ended.at.stands.agent.buffers None in
    let follows = subst (λ (a : PlainAgent (Unit {0})). Follows a run) (sym c.ends-players.ensures.agent) ended.at.stands.agent.follows in
    on_ok_value c.agent_book.result _ _ (c.agent_book.ensures run follows) (λ book is. book_at W m n c.args.self ended (agent_book_of book) is)

pub returns-clause-clients : goal.returns-clause-clients
returns-clause-clients c = λ W m n ended.
    let players = subst (λ (l : List PlainReplayClient). HaveEnded W m n l) (sym c.ends-players.ensures.players) (have_ended W m n c.args.self ended) in
    on_ok_so c.agent_book.result _ (c.in_ok-note_players.ensures W m n players)
