use Rattle.std.proofs.Common.{◌≡◌, ◌≤◌, List, length, drop}
use Rattle.hs_check_follow.proofs.Prelude.{is_history, PoolEvent, events_below}
use Rattle.hs_check_follow.specs.Replaying.{IsReplayed}
use Rattle.hs_check_follow.proofs.Histories.{history_from}
use Rattle.hs_check_follow.proofs.history.may_happen.Given as goal

abbrev pub invariant-loop-event : goal.invariant-loop-event
invariant-loop-event l =
    (earlier : List PoolEvent) × IsReplayed l.buffers earlier l.replay
    × (history_from l.buffers earlier (events_below l.bound (drop l.event-index l.events)) ≡ is_history l.buffers (events_below l.bound l.events))
    × (length earlier ≤ l.event-index)
