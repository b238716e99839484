use Rattle.std.proofs.Common.{◌≡◌}
use Rattle.std.specs.List.{list_all}
use Rattle.hs_verdict.specs.Verdict.{is_life_asked, are_asked}
use Rattle.hs_verdict.proofs.words.are_asked.Given as goal

-- all depends on those that are left
abbrev pub invariant-loop-life : goal.invariant-loop-life
invariant-loop-life l = are_asked l.groups l.standings l.trace ≡ list_all (is_life_asked l.groups l.trace) l.life-iterator
