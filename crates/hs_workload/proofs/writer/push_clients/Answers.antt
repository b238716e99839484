use Rattle.std.proofs.Common.{◌+◌, ◌/◌, ◌%◌, ◌++◌, map, refl, sym, ap, ◌∙◌, arith}
use Rattle.hs_workload.proofs.Prelude.{operation_of, operations_of, Start, Operate, client_statements, statements_text}
use Rattle.hs_base.proofs.Parts.{drop_next}
use Rattle.hs_workload.proofs.LinesWritten.{next_lines, no_line}
use Rattle.hs_workload.proofs.writer.push_clients.Goals as goal

pub loop-operations-preserved : goal.loop-operations-preserved
loop-operations-preserved c =
    let version = c.args.version in
    let each = c.from-each.result in
    let client = c.loop-operations.client in
    let split = drop_next c.args.clients.now c.loop-operations.operations-index c.operations-item.result (omega arith) c.operations-item.is in
    record {
      place = omega arith;
      text =
          next_lines version (Start (client / each) (client % each)) (map Operate (operations_of c.operations-item.result)) (client_statements each (client + 1) _)
          c.loop-operations.out.items c.push_line.new.out.items c.push_operations.new.out.items _
          (ap (λ rest. c.loop-operations.out.items ++ statements_text version (client_statements each client (map operations_of rest))) (sym split) ∙ c.loop-operations.invariant.text)
          c.in_ok-push_line.ensures
          (c.in_ok-push_operations.ensures ∙ ap (λ ops. c.push_line.new.out.items ++ statements_text version (map Operate (map operation_of ops))) c.as_slice.ensures);
    }

pub returns : goal.returns
returns c =
    let version = c.args.version in
    no_line version (λ clients. client_statements c.from-each.result c.loop-operations.client (map operations_of clients)) c.loop-operations.out.items _ c.args.clients.now c.loop-operations.operations-index refl (omega arith) c.loop-operations.invariant.text
    ∙ ap (λ each. c.args.out.now.items ++ statements_text version (client_statements each 0 (map operations_of c.args.clients.now))) c.from-each.ensures
