use Rattle.std.proofs.Common.{◌≡◌, List, [], ◌∷◌, ◌++◌, length, map, ap, subst, ◌∙◌}
use Rattle.hs_report.specs.OutcomeText.{ledger_text}
use Rattle.hs_report.proofs.Prelude.{flat_map, count_line, report_lines, report_by, text_of, TraceId}
use Rattle.hs_report.proofs.parts.lines_behind.Goals as goal

pub returns : goal.returns
returns c = λ entries records hold.
    let behind = c.args.behind.now in
    let ledger = ledger_text behind.version behind.ledger.entries.items behind.ledger.totals in
    let head = count_line (length behind.sorted.traces.items) ++ 10 ∷ [] in
    let lines = λ (traces : List TraceId). text_of (flat_map (report_lines behind.version) (map (report_by entries records) traces)) in
    let written = c.in_ok-push_reports.ensures entries records hold ∙ ap (λ t. t ++ lines c.as_slice-traces.result.now) c.in_ok-out.ensures in
    let closed = c.from_vec.ensures.items ∙ c.in_ok-push_ledger.ensures ∙ ap (λ t. t ++ ledger) written in
    subst (λ (traces : List TraceId). c.from_vec.result.items ≡ (head ++ lines traces) ++ ledger) c.as_slice-traces.ensures.value closed
