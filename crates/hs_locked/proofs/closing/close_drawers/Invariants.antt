use Rattle.std.proofs.Common.{◌≡◌, ◌++◌, length, List}
use Rattle.hs_locked.proofs.Prelude.{Drawing, answers_of_all, IsSameSeat, giver_seat_of, IsFree, closed_giver_seat}
use Rattle.hs_locked.proofs.closing.close_drawers.Given as goal

-- the last of the drawers were closed
abbrev pub invariant-loop-drawer : goal.invariant-loop-drawer
invariant-loop-drawer l =
    IsSameSeat l.initial.place l.place × IsFree l.place
    × ((done : List Drawing) × (l.drawers.items ++ done ≡ l.initial.drawers.items) × (giver_seat_of l.place.me.0 ≡ closed_giver_seat (giver_seat_of l.initial.place.me.0) (answers_of_all done)))

abbrev pub decreases-loop-drawer : goal.decreases-loop-drawer
decreases-loop-drawer l = length l.drawers.items
