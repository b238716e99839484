use Rattle.std.proofs.Common.{[], ◌∷◌, ◌++◌, length, map, ap, ◌∙◌}
use Rattle.hs_report.proofs.Prelude.{flat_map, IfOk-weaker, journal_text, journal_of, report_lines, Text, kept_of, count_line, records_by, report_by, text_of}
use Rattle.hs_report.proofs.Written.{counted_lines, text_written}
use Rattle.hs_report.proofs.writing.write_lines.Goals as goal

pub returns : goal.returns
returns c =
    IfOk-weaker c.close_text.result _ _
    (λ bytes closed W J valid lawful is.
    let outcome = c.args.outcome.now in
    let sorted = c.in_ok-sorted.sorted in
    let kept = kept_of outcome in
    let records = records_by W outcome.ledger.entries.items in
    let are = c.in_ok-sorted.ensures W J valid lawful is in
    let opened = c.in_ok-out.ensures ∙ ap (λ traces. journal_text (journal_of outcome.journal) ++ (count_line (length traces) ++ 10 ∷ [])) c.as_slice-traces.ensures.value in
    let written = c.in_ok-push_reports.ensures kept records are.hold
    ∙ ap (λ traces. c.in_ok-out.out.items ++ text_of (flat_map (report_lines outcome.version) (map (report_by kept records) traces))) c.as_slice-traces.ensures.value in
    text_written W J outcome Text sorted c.in_ok-out.out.items c.push_reports.new.out.items bytes.items _ is are opened written
    (counted_lines outcome.version kept records sorted.traces.items) closed)
    c.close_text.ensures
