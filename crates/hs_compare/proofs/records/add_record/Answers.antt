use Rattle.std.proofs.Common.{◌++◌, ◌∷◌, [], Some, None, map, sym, ap, ◌∙◌}
use Rattle.hs_compare.proofs.Prelude.{append-nil, on_ok_map, comings_of, operation_of, coming_of}
use Rattle.hs_compare.proofs.Pointed.{joined_on}
use Rattle.hs_compare.proofs.records.add_record.Goals as goal

pub returns-in-Some-clause-joined : goal.returns-in-Some-clause-joined
returns-in-Some-clause-joined c = λ before first joined.
    let op = operation_of c.args.operation.now in
    let walk = c.args.walk.now in
    on_ok_map c.append.result _ _
    (λ more.
    record {
      gone = c.in-Some.ensures.gone before joined.gone;
      joined =
          joined_on c.one_operation_more.ensures.numbered walk.client before op first c.args.all.now.items c.append.new.self.items (Some c.in-Some.coming) (c.in-Some.ensures.brings before joined.gone) joined.joined more
          ∙ ap (λ client. map coming_of first ++ comings_of client (before ++ op ∷ [])) (sym c.in-Some.ensures.client);
    })
    c.append.ensures.ok

pub returns-in-None-clause-joined : goal.returns-in-None-clause-joined
returns-in-None-clause-joined c = λ before first joined.
    let op = operation_of c.args.operation.now in
    let all = c.args.all.now.items in
    record {
      gone = c.in-None.ensures.gone before joined.gone;
      joined =
          joined_on c.one_operation_more.ensures.numbered c.args.walk.now.client before op first all all None (c.in-None.ensures.brings before joined.gone) joined.joined (sym (append-nil all))
          ∙ ap (λ client. map coming_of first ++ comings_of client (before ++ op ∷ [])) (sym c.in-None.ensures.client);
    }
