use Rattle.std.proofs.Common.{map}
use Rattle.hs_report.proofs.Prelude.{flat_map, report_lines, Text, kept_of, records_by, report_by, text_of}
use Rattle.hs_report.proofs.Written.{counted_lines, opened_written}
use Rattle.hs_report.proofs.parts.line_parts.Goals as goal

pub returns-clause-text : goal.returns-clause-text
returns-clause-text c = λ W J valid lawful is.
    let outcome = c.args.outcome in
    let opened = c.in_ok-opened.opened in
    let e = c.in_ok-opened.ensures in
    let kept = kept_of outcome in
    let records = records_by W outcome.ledger.entries.items in
    let body = text_of (flat_map (report_lines opened.behind.version) (map (report_by kept records) opened.behind.sorted.traces.items)) in
    opened_written W J outcome Text opened c.in_ok-behind.behind.items body is (e.sorted W J valid lawful is) e.journal e.version e.ledger e.collector
    (λ hold. c.in_ok-behind.ensures kept records hold) (counted_lines opened.behind.version kept records opened.behind.sorted.traces.items)
