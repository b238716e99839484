use Rattle.std.proofs.Common.{◌≡◌}
use Rattle.std.specs.List.{list_all}
use Rattle.hs_verdict.specs.Pages.{pages_in, is_full, are_full}
use Rattle.hs_verdict.proofs.pages.are_full.Given as goal

-- all depends on those that are left
abbrev pub invariant-loop-life : goal.invariant-loop-life
invariant-loop-life l = are_full l.standings l.trace (pages_in l.pages l.trace) ≡ list_all (is_full (pages_in l.pages l.trace)) l.life-iterator
