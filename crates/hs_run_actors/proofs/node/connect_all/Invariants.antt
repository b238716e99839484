use Rattle.std.proofs.Common.{◌≡◌, ◌≤◌, length, map}
use Rattle.hs_run_actors.proofs.Prelude.{incoming, workload_of, AreBegun}
use Rattle.hs_run_actors.proofs.node.connect_all.Given as goal

abbrev pub invariant-loop-drawer : goal.invariant-loop-drawer
invariant-loop-drawer l =
    (goal.iterator-loop-drawer).can_next l.drawer-iterator × (goal.iterator-loop-drawer).is_finite l.drawer-iterator × (l.number ≡ length l.yielded)
    × (length l.clients ≤ l.ends.callers.room) × (length l.clients ≤ l.ends.chunks.room) × (length l.clients ≤ l.ends.crumbs.room) × (length l.clients ≤ l.ends.triggers.room)
    × AreBegun (workload_of l.workload) l.node l.giver (length l.yielded) l.ends.callers.items (record { chunks = map incoming l.ends.chunks.items; crumbs = l.ends.crumbs.items; triggers = l.ends.triggers.items })
