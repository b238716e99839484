use Rattle.std.proofs.Common.{◌≡◌, ◌+◌, ◌≤◌, length}
use Rattle.hs_link.specs.Contents.{sent}
use Rattle.tests_with.proofs.rings.draw_all.Given as goal

-- what is left of the allowance goes over the link
abbrev pub invariant-draws : goal.invariant-draws
invariant-draws g l =
    (l.drawer.pool ≡ l.chunks.key.giver.value.pool) × (l.drawer.size ≡ l.chunks.key.giver.value.size)
    × (length (sent l.chunks) + l.drawer.left ≤ l.chunks.room)

abbrev pub decreases-draws : goal.decreases-draws
decreases-draws g l = l.drawer.left
