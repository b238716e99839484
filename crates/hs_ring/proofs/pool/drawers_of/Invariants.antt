use Rattle.std.proofs.Common.{◌≡◌, ◌≤◌, length, take, drop}
use Rattle.hs_ring.proofs.Prelude.{arc_value, giver_seat_of, new_drawers, name_of, IsMaking}
use Rattle.hs_ring.proofs.pool.drawers_of.Given as goal

-- so many drawers were made
abbrev pub invariant-loop-left : goal.invariant-loop-left
invariant-loop-left l =
    IsMaking (arc_value l.board).shared.table_id l.place (giver_seat_of l.initial.place.me.0).size l.left-index (drop l.left-index l.allowances)
    × (l.drawers.items ≡ new_drawers (name_of (arc_value l.board).shared.table_id) l.buffers (giver_seat_of l.initial.place.me.0).size 0 (take l.left-index l.allowances))
    × (length l.allowances ≤ l.drawers.room)
