use Rattle.std.proofs.Common.{◌≤◌}
use Rattle.tests_with.specs.Pages.{HasSheet}
use Rattle.tests_with.proofs.pages.fill_page.Given as goal

abbrev pub invariant-loop-moment : goal.invariant-loop-moment
invariant-loop-moment l = HasSheet l.chunk l.fn.page l.fn.first l.count × (l.count ≤ l.moment)
