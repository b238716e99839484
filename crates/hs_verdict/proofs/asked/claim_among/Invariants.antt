use Rattle.std.proofs.Common.{◌≡◌, drop, filter}
use Rattle.std.specs.Prelude.{slice_get}
use Rattle.hs_verdict.specs.Verdict.{claims}
use Rattle.hs_verdict.proofs.asked.claim_among.Given as goal

-- what is looked for is among the groups that are left
abbrev pub invariant-loop-followed : goal.invariant-loop-followed
invariant-loop-followed l = slice_get (filter (claims l.trace) (drop l.followed-index l.groups)) l.left ≡ slice_get (filter (claims l.trace) l.groups) l.place
