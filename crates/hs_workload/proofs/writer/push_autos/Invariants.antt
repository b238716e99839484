use Rattle.std.proofs.Common.{◌≡◌, ◌++◌, drop}
use Rattle.hs_workload.proofs.Prelude.{statements_text, auto_statements}
use Rattle.hs_workload.proofs.writer.push_autos.Given as goal

abbrev pub invariant-loop-rule : goal.invariant-loop-rule
invariant-loop-rule l = record {
  place : l.number ≡ l.rule-index;
  text : l.out.items ++ statements_text 1 (auto_statements l.number (drop l.rule-index l.autos)) ≡ l.initial.out.items ++ statements_text 1 (auto_statements 0 l.autos);
}
