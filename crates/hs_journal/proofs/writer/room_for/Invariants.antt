use Rattle.std.proofs.Common.{◌≤◌, ◌+◌, ◌*◌, take, map, sum, length}
use Rattle.hs_journal.proofs.writer.room_for.Given as goal

abbrev pub invariant-loop-draws : goal.invariant-loop-draws
invariant-loop-draws l = l.room ≤ l.initial.room + sum (map (λ draws. length draws.items) (take l.draws-index l.draws-items)) * 16

abbrev pub invariant-loop-log : goal.invariant-loop-log
invariant-loop-log l = l.room ≤ l.initial.room + sum (map (λ log. length log.items) (take l.log-index l.log-items)) * 12
