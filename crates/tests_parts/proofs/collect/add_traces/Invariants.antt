use Rattle.tests_with.specs.Pages.{HasAdded}
use Rattle.tests_parts.proofs.collect.add_traces.Given as goal

abbrev pub invariant-loop-page : goal.invariant-loop-page
invariant-loop-page l = HasAdded l.collector l.page l.first
