use Rattle.std.proofs.Common.{◌≡◌, ℕ, ◌<◌, ◌++◌, List, length, get_or, take, drop, eqb, ltb, cond, true, false}
use Rattle.hs_check_follow.proofs.Prelude.{count_by, list_all, flat_map, range_with_len, journal_of, played, nodes_of, has_stamps, node_has_stamps, node_stamps, node_draws, draw_stamps, log_stamps, rise, draws_at, place_of, workload_of, rise_behind}
use Rattle.hs_check_follow.proofs.Ranges.{range_from}
use Rattle.hs_check_follow.proofs.stamps.are_numbered.Given as goal

abbrev pub invariant-loop-stamp : goal.invariant-loop-stamp
invariant-loop-stamp l = record {
  many : length l.seen.items ≡ length l.stamps;
  low : count_by (λ t. ltb t (length l.stamps)) (take l.stamp-index l.stamps) ≡ l.stamp-index;
  counts : (s : ℕ) → s < length l.stamps → count_by (λ t. eqb t s) (take l.stamp-index l.stamps) ≡ cond (get_or l.seen.items s false) 1 0;
}
