use Rattle.std.proofs.Common.{◌≡◌, take, fold}
use Rattle.hs_verdict.specs.Verdict as verdict
use Rattle.hs_verdict.proofs.led.with_reached.Given as goal

-- of the groups that were looked at so far
abbrev pub invariant-loop-followed : goal.invariant-loop-followed
invariant-loop-followed l = l.nodes ≡ fold (verdict.with_reached l.trace) l.fn.nodes (take l.followed-index l.groups)
