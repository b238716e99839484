use Rattle.std.proofs.Common.{◌++◌, map, ap, sym, ◌∙◌, append-nil}
use Rattle.hs_report.proofs.Prelude.{on_ok_weaker, placed_of, reported_wholes, placed_line, text_of}
use Rattle.hs_report.proofs.Reports.{none_shown}
use Rattle.hs_report.proofs.text.push_collected.Goals as goal

pub returns-in-Some : goal.returns-in-Some
returns-in-Some c =
    on_ok_weaker c.push_records.result
    (λ written entries records hold. written entries hold.are
    ∙ ap (λ t. c.args.out.now.items ++ text_of (map placed_line t))
    (ap (λ t. reported_wholes entries (map placed_of t)) c.as_slice.ensures ∙ hold.show c.args.trace _ (c.in-Some.ensures hold.sheets hold.collected).1))
    c.push_records.ensures

pub returns-in-None : goal.returns-in-None
returns-in-None c = λ entries records hold.
    sym (ap (λ t. c.args.out.now.items ++ text_of (map placed_line t)) (none_shown entries records c.args.fates.now c.args.collector.now c.args.trace hold c.in-None.ensures) ∙ append-nil c.args.out.now.items)
