use Rattle.std.proofs.Common.{◌≡◌, drop}
use Rattle.hs_hub.specs.Ready.{first_ready}
use Rattle.hs_hub.proofs.ready.ready_among.Given as goal

-- the first that is ready is one of the groups that are left
abbrev pub invariant-loop-followed : goal.invariant-loop-followed
invariant-loop-followed l = first_ready l.groups l.standings l.traces (drop l.followed-index l.some) ≡ first_ready l.groups l.standings l.traces l.some
