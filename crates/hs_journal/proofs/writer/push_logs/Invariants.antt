use Rattle.std.proofs.Common.{◌≡◌, ◌++◌, drop, map}
use Rattle.hs_journal.specs.Grammar.{statements_text, log_statements}
use Rattle.hs_journal.proofs.writer.push_logs.Given as goal

abbrev pub invariant-loop-log : goal.invariant-loop-log
invariant-loop-log l = record {
  place : l.node ≡ l.log-index;
  text : l.out.items ++ statements_text (log_statements l.node (map (λ log. log.items) (drop l.log-index l.logs)))
      ≡ l.initial.out.items ++ statements_text (log_statements 0 (map (λ log. log.items) l.logs));
}
