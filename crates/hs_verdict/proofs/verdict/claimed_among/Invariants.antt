use Rattle.std.proofs.Common.{◌≡◌, true, take}
use Rattle.std.specs.List.{list_all, list_any}
use Rattle.hs_verdict.specs.Verdict.{claims, is_answered}
use Rattle.hs_verdict.proofs.verdict.claimed_among.Given as goal

-- those that were looked at are answered, and whether one claims the trace is known
abbrev pub invariant-loop-followed : goal.invariant-loop-followed
invariant-loop-followed l = record {
  answered : list_all (is_answered l.groups l.standings l.trace) (take l.followed-index l.some) ≡ true;
  claimed : l.claimed ≡ list_any (claims l.trace) (take l.followed-index l.some);
}
