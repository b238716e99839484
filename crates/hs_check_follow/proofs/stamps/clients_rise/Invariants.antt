use Rattle.std.proofs.Common.{◌≡◌, ℕ, ◌<◌, ◌++◌, List, length, get_or, take, drop, eqb, ltb, cond, true, false}
use Rattle.hs_check_follow.proofs.Prelude.{count_by, list_all, flat_map, range_with_len, journal_of, played, nodes_of, has_stamps, node_has_stamps, node_stamps, node_draws, draw_stamps, log_stamps, rise, draws_at, place_of, workload_of, rise_behind}
use Rattle.hs_check_follow.proofs.Ranges.{range_from}
use Rattle.hs_check_follow.proofs.stamps.clients_rise.Given as goal

abbrev pub invariant-loop-number : goal.invariant-loop-number
invariant-loop-number l =
    list_all (λ number. rise (draw_stamps (draws_at (journal_of l.journal) (place_of l.workload.settings.clients l.node number)))) (range_from l.number l.workload.settings.clients)
    ≡ list_all (λ draws. rise (draw_stamps draws)) (node_draws (workload_of l.workload) (journal_of l.journal) l.node)
