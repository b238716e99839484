use Rattle.tests_with.specs.Claims.{IsReady}
use Rattle.tests_parts.proofs.pins.claims_traces.Given as goal

abbrev pub invariant-loop-number : goal.invariant-loop-number
invariant-loop-number l = IsReady 0 l.pins
