use Rattle.std.proofs.Common.{◌≡◌, ℕ, ◌<◌, ◌++◌, List, length, get_or, take, drop, eqb, ltb, cond, true, false}
use Rattle.hs_check_follow.proofs.Prelude.{count_by, list_all, flat_map, range_with_len, journal_of, played, nodes_of, has_stamps, node_has_stamps, node_stamps, node_draws, draw_stamps, log_stamps, rise, draws_at, place_of, workload_of, rise_behind}
use Rattle.hs_check_follow.proofs.Ranges.{range_from}
use Rattle.hs_check_follow.proofs.stamps.push_draws.Given as goal

abbrev pub invariant-loop-draw : goal.invariant-loop-draw
invariant-loop-draw l = l.stamps.items ≡ l.fn.stamps.items ++ draw_stamps (take l.draw-index l.draws)
