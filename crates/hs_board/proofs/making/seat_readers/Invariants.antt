use Rattle.std.proofs.Common.{◌≡◌, ◌≤◌, length}
use Rattle.std.specs.List.{AllByRecursion}
use Rattle.hs_board.specs.Looking.{IsNew}
use Rattle.hs_board.proofs.making.seat_readers.Given as goal

abbrev pub invariant-loop : goal.invariant-loop
invariant-loop l = (length l.list.items ≡ l.counter) × (l.count ≤ l.list.room) × AllByRecursion IsNew l.list.items
