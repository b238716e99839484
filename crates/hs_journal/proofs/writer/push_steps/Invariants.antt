use Rattle.std.proofs.Common.{◌≡◌, ◌++◌, take, map}
use Rattle.hs_journal.specs.Statements.{step_statement}
use Rattle.hs_journal.specs.Grammar.{statements_text}
use Rattle.hs_journal.proofs.writer.push_steps.Given as goal

abbrev pub invariant-loop-step : goal.invariant-loop-step
invariant-loop-step l = l.out.items ≡ l.initial.out.items ++ statements_text (map step_statement (take l.step-index l.steps))
