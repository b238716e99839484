use Rattle.std.proofs.Common.{◌≡◌, ◌/◌, ◌≤◌, length}
use Rattle.hs_base.specs.declared.limits.TheConstants.{MAX_OPERATIONS}
use Rattle.hs_link.specs.Contents.{sent}
use Rattle.bench.proofs.five.pop_all.Given as goal

-- each draw sends one chunk at most
abbrev pub invariant-loop-draw : goal.invariant-loop-draw
invariant-loop-draw g l = (length (sent l.chunks) ≤ l._draw) × (l.chunks.room ≡ MAX_OPERATIONS / 4)
