use Rattle.std.proofs.Common.{◌*◌, ◌≤◌, List}
use Rattle.hs_words.specs.PoolHistory.{PoolEvent}
use Rattle.hs_pool.specs.Pool.{IsAfter}
use Rattle.bench.proofs.pool.turn_plain.Given as goal

-- each round makes two events at most
abbrev pub invariant-loop-round : goal.invariant-loop-round
invariant-loop-round l = ((history : List PoolEvent) × IsAfter history l.pool) × (l.pool.events ≤ 2 * l._round)
