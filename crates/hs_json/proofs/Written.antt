-- The line that counts the reports, and behind it the line of JSON that has them.
use Rattle.std.proofs.Common.{◌≡◌, ℕ, List, [], ◌∷◌, ◌++◌, length, map, sym, ap, ◌∙◌, append-nil}
use Rattle.std.proofs.lemmas.List.{length-map}
use Rattle.hs_base.specs.declared.ids.TraceId.{TraceId}
use Rattle.hs_collect.specs.Collected.{Placed}
use Rattle.hs_ledger.specs.declared.ledger.Entry.{Entry}
use Rattle.hs_report.specs.declared.form.Form.TheVariants.{Json}
use Rattle.hs_report.specs.OutcomeText.{json_list, report_json, reports_line, reports_text}
use Rattle.hs_report.specs.Sorted.{count_line}
use Rattle.hs_report.specs.Sources.{report_by}

pub counted_json : (version : ℕ) (entries : List Entry) (records : TraceId → List Placed) (traces : List TraceId)
    → (count_line (length traces) ++ 10 ∷ []) ++ (json_list (map (report_json version) (map (report_by entries records) traces)) ++ 10 ∷ []) ≡ reports_text version Json (map (report_by entries records) traces)
counted_json version entries records traces =
    let reports = map (report_by entries records) traces in
    let line = json_list (map (report_json version) reports) ++ 10 ∷ [] in
    ap (λ n. (count_line n ++ 10 ∷ []) ++ line) (sym (length-map traces (report_by entries records))) ∙ ap (λ t. (reports_line reports ++ 10 ∷ []) ++ t) (sym (append-nil line))
