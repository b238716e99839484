use Rattle.std.proofs.Common.{◌≡◌}
use Rattle.std.specs.List.{list_all}
use Rattle.hs_verdict.specs.Verdict.{leads_to_known, are_known}
use Rattle.hs_verdict.proofs.led.are_known.Given as goal

-- all depends on those that are left
abbrev pub invariant-loop-latest : goal.invariant-loop-latest
invariant-loop-latest l = are_known l.groups l.standings l.trace ≡ list_all (leads_to_known l.groups l.standings l.trace) l.latest-iterator
