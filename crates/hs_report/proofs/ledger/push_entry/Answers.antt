use Rattle.std.proofs.Common.{◌++◌, ◌∷◌, decimal, ap, ◌∙◌}
use Rattle.hs_report.proofs.LedgerLines.{entry_written, fate_behind}
use Rattle.hs_report.proofs.ledger.push_entry.Goals as goal

pub returns : goal.returns
returns c =
    entry_written c.args.version c.args.entry.now c.args.out.now.items _ _ _ _ _ _
    (c.in_ok-push_number.ensures.ok ∙ ap (λ n. c.args.out.now.items ++ decimal n) c.from.ensures)
    (c.in_ok-push_spaced_number.ensures ∙ ap (λ n. c.push_number.new.out.items ++ 32 ∷ decimal n) c.from-2.ensures)
    (c.in_ok-push_spaced_number-2.ensures ∙ ap (λ n. c.push_spaced_number.new.out.items ++ 32 ∷ decimal n) c.from-3.ensures)
    c.in_ok-push_spaced_trace.ensures
    (fate_behind c.args.version c.args.entry.now.fate _ _ _ c.in_ok-extend_from_slice.ensures.items c.in_ok-push_fate.ensures) c.in_ok-end_line.ensures
