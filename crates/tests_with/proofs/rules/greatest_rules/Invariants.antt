use Rattle.tests_with.specs.Rising.{AreRulesTo}
use Rattle.tests_with.proofs.rules.greatest_rules.Given as goal

abbrev pub invariant-loop-below : goal.invariant-loop-below
invariant-loop-below l = AreRulesTo l.below l.rules.items
