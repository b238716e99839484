use Rattle.std.proofs.Common.{◌++◌, length, map, ap, ◌∙◌, arith}
use Rattle.hs_workload.proofs.Prelude.{workload_of, operations_of, Declare, auto_statements, client_statements, statements_text}
use Rattle.std.proofs.lemmas.List.{length-map}
use Rattle.hs_workload.proofs.LinesWritten.{written, few_clients}
use Rattle.hs_records.specs.declared.setting.Setting.TheVariants as settings
use Rattle.hs_workload.proofs.writer.write_workload.Goals as goal

pub push_clients-requires-clause-some : goal.push_clients-requires-clause-some
push_clients-requires-clause-some c = (c.requires.head settings.Clients).0

pub push_clients-requires-clause-few : goal.push_clients-requires-clause-few
push_clients-requires-clause-few c =
    let few = few_clients (workload_of c.args.workload.now) c.requires in
    let same = ap length c.as_slice-clients.ensures in
    let size = length-map c.args.workload.now.clients.items operations_of in
    omega (arith, few, same, size)

pub returns : goal.returns
returns c =
    let w = c.args.workload.now in
    record {
      valid = c.requires;
      spelled =
          c.from_vec.ensures.items
          ∙ written (workload_of w) c.new-out.result.items c.push_head.new.out.items c.push_rules.new.out.items c.push_autos.new.out.items c.push_clients.new.out.items c.push_line.new.out.items
          c.new-out.ensures.items c.in_ok-push_head.ensures
          (c.in_ok-push_rules.ensures ∙ ap (λ rules. c.push_head.new.out.items ++ statements_text 1 (map Declare rules)) c.as_slice.ensures)
          (c.in_ok-push_autos.ensures ∙ ap (λ autos. c.push_rules.new.out.items ++ statements_text 1 (auto_statements 0 autos)) c.as_slice-2.ensures)
          (c.in_ok-push_clients.ensures
          ∙ ap (λ clients. c.push_autos.new.out.items ++ statements_text w.version (client_statements w.settings.clients 0 (map operations_of clients))) c.as_slice-clients.ensures)
          c.in_ok-push_line.ensures;
    }
