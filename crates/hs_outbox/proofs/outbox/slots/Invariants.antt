use Rattle.std.proofs.Common.{◌≡◌, ◌≤◌, length, vec_capacity}
use Rattle.hs_outbox.specs.Layout.{HaveRoom}
use Rattle.hs_outbox.proofs.outbox.slots.Given as goal

abbrev pub invariant-loop-place : goal.invariant-loop-place
invariant-loop-place l = (length l.slots.items ≡ l._place) × HaveRoom l.room l.slots.items × (l.places ≤ vec_capacity l.slots)
