use Rattle.std.proofs.Common.{◌≡◌, List, [], ◌∷◌, ◌++◌, length, map, ap, subst, ◌∙◌}
use Rattle.hs_base.specs.declared.ids.TraceId.{TraceId}
use Rattle.hs_report.specs.OutcomeText.{json_list, ledger_text, report_json}
use Rattle.hs_report.specs.Sorted.{count_line}
use Rattle.hs_report.specs.Sources.{report_by}
use Rattle.hs_json.proofs.parts.json_behind.Goals as goal

pub returns : goal.returns
returns c = λ entries records hold.
    let behind = c.args.behind.now in
    let ledger = ledger_text behind.version behind.ledger.entries.items behind.ledger.totals in
    let head = count_line (length behind.sorted.traces.items) ++ 10 ∷ [] in
    let line = λ (traces : List TraceId). json_list (map (report_json behind.version) (map (report_by entries records) traces)) ++ 10 ∷ [] in
    let written = c.in_ok-push_json.ensures entries records hold ∙ ap (λ t. t ++ line c.as_slice-traces.result.now) c.in_ok-out.ensures in
    let closed = c.from_vec.ensures.items ∙ c.in_ok-push_ledger.ensures ∙ ap (λ t. t ++ ledger) written in
    subst (λ (traces : List TraceId). c.from_vec.result.items ≡ (head ++ line traces) ++ ledger) c.as_slice-traces.ensures.value closed
