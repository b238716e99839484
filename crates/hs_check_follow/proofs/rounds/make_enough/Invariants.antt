use Rattle.std.proofs.Common.{◌≡◌}
use Rattle.hs_check_follow.proofs.Prelude.{count_by, list_all, range_with_len, journal_of, log_at, is_turn, are_enough}
use Rattle.hs_check_follow.proofs.Ranges.{range_from}
use Rattle.hs_check_follow.proofs.rounds.make_enough.Given as goal

abbrev pub invariant-loop-node : goal.invariant-loop-node
invariant-loop-node l =
    list_all (λ node. are_enough (count_by is_turn (log_at (journal_of l.journal) node)) l.first l.rounds) (range_from l.node l.nodes)
    ≡ list_all (λ node. are_enough (count_by is_turn (log_at (journal_of l.journal) node)) l.first l.rounds) (range_with_len 0 l.nodes)
