use Rattle.std.proofs.Common.{◌≡◌, ◌-◌, length}
use Rattle.hs_wire.proofs.Prelude.{traces_at}
use Rattle.hs_wire.proofs.Loops.{with_front}
use Rattle.hs_wire.proofs.reading.traces_of.Given as goal

abbrev pub invariant-loop-place : goal.invariant-loop-place
invariant-loop-place l = record { many : length l.laterals ≡ l._place; reads : traces_at l.count l.bytes ≡ with_front l.laterals (traces_at (l.count - l._place) l.rest) }
