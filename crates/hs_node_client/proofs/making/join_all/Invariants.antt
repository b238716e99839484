use Rattle.std.proofs.Common.{◌≡◌, ◌≤◌, length}
use Rattle.hs_node_client.specs.Making.{AreJoined, joined_ends, rules_by}
use Rattle.hs_node_client.proofs.making.join_all.Given as goal

abbrev pub invariant-loop-drawer : goal.invariant-loop-drawer
invariant-loop-drawer l =
    (goal.iterator-loop-drawer).can_next l.drawer-iterator × (goal.iterator-loop-drawer).is_finite l.drawer-iterator × (l.number ≡ length l.yielded)
    × (l.limits.clients ≤ l.joined.clients.room) × (l.limits.clients ≤ l.joined.chunks.room) × (l.limits.clients ≤ l.joined.crumbs.room)
    × (l.limits.clients ≤ l.joined.triggers.room) × (l.limits.clients ≤ l.joined.late.room) × (l.limits.clients ≤ l.joined.notes.room)
    × AreJoined l.limits (rules_by l.autos.items l.triggers.items l.nodes) l.giver (length l.yielded) l.joined.clients.items (joined_ends l.joined)
