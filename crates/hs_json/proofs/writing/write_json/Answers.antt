use Rattle.std.proofs.Common.{[], ◌∷◌, ◌++◌, length, map, ap, ◌∙◌}
use Rattle.std.proofs.lemmas.Result.{IfOk-weaker}
use Rattle.hs_journal.specs.Grammar.{journal_text}
use Rattle.hs_records.specs.Journals.{journal_of}
use Rattle.hs_report.specs.OutcomeText.{json_list, report_json}
use Rattle.hs_report.specs.declared.form.Form.TheVariants.{Json}
use Rattle.hs_report.specs.Kept.{kept_of}
use Rattle.hs_report.specs.Sorted.{count_line, records_by}
use Rattle.hs_report.specs.Sources.{report_by}
use Rattle.hs_report.proofs.Written.{text_written}
use Rattle.hs_json.proofs.Written.{counted_json}
use Rattle.hs_json.proofs.writing.write_json.Goals as goal

pub returns : goal.returns
returns c =
    IfOk-weaker c.close_text.result _ _
    (λ bytes closed W J valid lawful is.
    let outcome = c.args.outcome.now in
    let sorted = c.in_ok-sorted.sorted in
    let kept = kept_of outcome in
    let records = records_by W outcome.ledger.entries.items in
    let are = c.in_ok-sorted.ensures W J valid lawful is in
    let opened = c.in_ok-out.ensures ∙ ap (λ traces. journal_text (journal_of outcome.journal) ++ (count_line (length traces) ++ 10 ∷ [])) c.as_slice-traces.ensures.value in
    let written = c.in_ok-push_json.ensures kept records are.hold
    ∙ ap (λ traces. c.in_ok-out.out.items ++ (json_list (map (report_json outcome.version) (map (report_by kept records) traces)) ++ 10 ∷ [])) c.as_slice-traces.ensures.value in
    text_written W J outcome Json sorted c.in_ok-out.out.items c.push_json.new.out.items bytes.items _ is are opened written (counted_json outcome.version kept records sorted.traces.items) closed)
    c.close_text.ensures
