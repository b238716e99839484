use Rattle.std.proofs.Common.{◌≡◌, ◌++◌, drop, map}
use Rattle.hs_workload.proofs.Prelude.{operations_of, statements_text, client_statements}
use Rattle.hs_workload.proofs.writer.push_clients.Given as goal

abbrev pub invariant-loop-operations : goal.invariant-loop-operations
invariant-loop-operations l = record {
  place : l.client ≡ l.operations-index;
  text : l.out.items ++ statements_text l.version (client_statements l.each l.client (map operations_of (drop l.operations-index l.clients)))
      ≡ l.initial.out.items ++ statements_text l.version (client_statements l.each 0 (map operations_of l.clients));
}
