use Rattle.std.specs.Prelude.{IsSome}
use Rattle.tests_parts.proofs.words.fill.Given as goal

abbrev pub invariant-loop-moment : goal.invariant-loop-moment
invariant-loop-moment l = IsSome l.chunk.page
