use Rattle.std.proofs.Common.{◌≡◌, find, drop}
use Rattle.hs_hub.specs.Ready.{is_ready}
use Rattle.hs_hub.proofs.ready.ready_lateral.Given as goal

-- the first that is ready is among those that are left
abbrev pub invariant-loop-place : goal.invariant-loop-place
invariant-loop-place l = find (is_ready l.groups l.standings l.traces) (drop l.place l.laterals) ≡ find (is_ready l.groups l.standings l.traces) l.laterals
