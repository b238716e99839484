use Rattle.std.proofs.Common.{◌≡◌}
use Rattle.std.specs.List.{list_all}
use Rattle.hs_verdict.specs.Verdict.{leads_within, are_followed}
use Rattle.hs_verdict.proofs.led.are_followed.Given as goal

-- all depends on those that are left
abbrev pub invariant-loop-life : goal.invariant-loop-life
invariant-loop-life l = are_followed l.groups l.standings l.fn.trace ≡ list_all (leads_within l.nodes) l.life-iterator
