use Rattle.std.proofs.Common.{◌≡◌, ◌++◌, take, map}
use Rattle.hs_workload.proofs.Prelude.{Declare, statements_text}
use Rattle.hs_workload.proofs.writer.push_rules.Given as goal

abbrev pub invariant-loop-rule : goal.invariant-loop-rule
invariant-loop-rule l = l.out.items ≡ l.initial.out.items ++ statements_text 1 (map Declare (take l.rule-index l.rules))
