use Rattle.std.proofs.Common.{◌≡◌, ℕ, ◌<◌, ◌++◌, List, length, get_or, take, drop, eqb, ltb, cond, true, false}
use Rattle.hs_check_follow.proofs.Prelude.{count_by, list_all, flat_map, range_with_len, journal_of, played, nodes_of, has_stamps, node_has_stamps, node_stamps, node_draws, draw_stamps, log_stamps, rise, draws_at, place_of, workload_of, rise_behind}
use Rattle.hs_check_follow.proofs.Ranges.{range_from}
use Rattle.hs_check_follow.proofs.rising.log_rises.Given as goal

abbrev pub invariant-loop-step : goal.invariant-loop-step
invariant-loop-step l = rise_behind l.before (log_stamps (drop l.step-index l.log)) ≡ rise (log_stamps l.log)
