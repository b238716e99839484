use Rattle.std.proofs.Common.{[], ◌∷◌, ◌++◌, map}
use Rattle.hs_report.specs.OutcomeText.{json_list, report_json}
use Rattle.hs_report.specs.declared.form.Form.TheVariants.{Json}
use Rattle.hs_report.specs.Kept.{kept_of}
use Rattle.hs_report.specs.Sorted.{records_by}
use Rattle.hs_report.specs.Sources.{report_by}
use Rattle.hs_report.proofs.Written.{opened_written}
use Rattle.hs_json.proofs.Written.{counted_json}
use Rattle.hs_json.proofs.parts.json_parts.Goals as goal

pub returns-clause-text : goal.returns-clause-text
returns-clause-text c = λ W J valid lawful is.
    let outcome = c.args.outcome in
    let opened = c.in_ok-opened.opened in
    let e = c.in_ok-opened.ensures in
    let kept = kept_of outcome in
    let records = records_by W outcome.ledger.entries.items in
    let traces = opened.behind.sorted.traces.items in
    let body = json_list (map (report_json opened.behind.version) (map (report_by kept records) traces)) ++ 10 ∷ [] in
    opened_written W J outcome Json opened c.in_ok-behind.behind.items body is (e.sorted W J valid lawful is) e.journal e.version e.ledger e.collector
    (λ hold. c.in_ok-behind.ensures kept records hold) (counted_json opened.behind.version kept records traces)
