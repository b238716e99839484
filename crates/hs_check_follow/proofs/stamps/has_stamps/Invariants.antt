use Rattle.std.proofs.Common.{◌≡◌, ℕ, ◌<◌, ◌++◌, List, length, get_or, take, drop, eqb, ltb, cond, true, false}
use Rattle.hs_check_follow.proofs.Prelude.{count_by, list_all, flat_map, range_with_len, journal_of, played, nodes_of, has_stamps, node_has_stamps, node_stamps, node_draws, draw_stamps, log_stamps, rise, draws_at, place_of, workload_of, rise_behind}
use Rattle.hs_check_follow.proofs.Ranges.{range_from}
use Rattle.hs_check_follow.proofs.stamps.has_stamps.Given as goal

abbrev pub invariant-loop-node : goal.invariant-loop-node
invariant-loop-node l =
    list_all (node_has_stamps (workload_of l.workload) (journal_of l.journal)) (range_from l.node l.workload.settings.nodes)
    ≡ has_stamps (played (workload_of l.workload) (journal_of l.journal))
