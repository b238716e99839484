use Rattle.std.proofs.Common.{◌≡◌, ℕ, Bool, ◌+◌, List, sym, ap, ◌∙◌, arith}
use Rattle.hs_check_follow.proofs.Prelude.{count_by, list_all, range_with_len, Step, PlainJournal, journal_of, log_at, is_turn, are_enough}
use Rattle.hs_check_follow.proofs.Ranges.{all_more, all_fails, all_done}
use Rattle.hs_check_follow.proofs.rounds.make_enough.Goals as goal

abbrev test : PlainJournal → ℕ → ℕ → ℕ → Bool
test j first rounds node = are_enough (count_by is_turn (log_at j node)) first rounds

-- what the test of this node says
tested : (log : List Step) (j : PlainJournal) (first rounds node turns : ℕ) (result b : Bool) → log ≡ log_at j node → turns ≡ count_by is_turn log → result ≡ are_enough turns first rounds → result ≡ b → test j first rounds node ≡ b
tested log j first rounds node turns result b is count answer e =
    sym (ap (λ (l : List Step). are_enough (count_by is_turn l) first rounds) is) ∙ sym (ap (λ n. are_enough n first rounds) count) ∙ sym answer ∙ e

pub loop-node-preserved : goal.loop-node-preserved
loop-node-preserved c =
    let j = journal_of c.args.journal.now in
    let f = test j c.args.first c.args.rounds in
    let at = tested c.log_of.result.now j c.args.first c.args.rounds c.loop-node.node c.count_turns.result c.are_enough.result _ c.log_of.ensures c.count_turns.ensures c.are_enough.ensures c.if-not-are_enough.false in
    all_more f (list_all f (range_with_len 0 c.args.nodes)) c.loop-node.node c.args.nodes c.loop-node-test.true at c.loop-node.invariant

pub returns-then-not-are_enough : goal.returns-then-not-are_enough
returns-then-not-are_enough c =
    let j = journal_of c.args.journal.now in
    let f = test j c.args.first c.args.rounds in
    let at = tested c.log_of.result.now j c.args.first c.args.rounds c.loop-node.node c.count_turns.result c.are_enough.result _ c.log_of.ensures c.count_turns.ensures c.are_enough.ensures c.if-not-are_enough.true in
    all_fails f (list_all f (range_with_len 0 c.args.nodes)) c.loop-node.node c.args.nodes c.loop-node-test.true at c.loop-node.invariant

pub returns : goal.returns
returns c =
    let f = test (journal_of c.args.journal.now) c.args.first c.args.rounds in
    all_done f (list_all f (range_with_len 0 c.args.nodes)) c.loop-node.node c.args.nodes c.loop-node-test.false c.loop-node.invariant
