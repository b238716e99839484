use Rattle.std.proofs.Common.{◌≡◌, List, ℕ, ◌++◌, ◌∷◌, OnOk, decimal, refl, sym, ap, ◌∙◌, subst}
use Rattle.hs_report.proofs.Prelude.{Fate, hex_text, line_of, trace_word, fate_words}
use Rattle.hs_report.proofs.LedgerLines.{abandoned_written}
use Rattle.hs_report.proofs.ledger.push_fate.Goals as goal

pub returns-in_ok-push_claim-in-Abandoned : goal.returns-in_ok-push_claim-in-Abandoned
returns-in_ok-push_claim-in-Abandoned c =
    let o = c.args.out.now.items in
    let claim = c.push_claim-in-Abandoned.new.out.items in
    let rank = hex_text 16 c.in-Abandoned.rank.word in
    let words = abandoned_written o c.extend_from_slice-in-Abandoned.new.self.items claim (claim ++ 32 ∷ rank) (decimal c.in-Abandoned.trigger.0)
    (trace_word c.args.version c.in-Abandoned.lead) rank c.in_ok-extend_from_slice-in-Abandoned.ensures.items c.in_ok-push_claim-in-Abandoned.ensures refl in
    subst (λ (text : List ℕ). OnOk c.push_spaced_hex.result (c.push_spaced_hex.new.out.items ≡ text))
    (ap (λ n. claim ++ 32 ∷ hex_text 16 n) c.from-in-Abandoned.ensures ∙ words ∙ ap (λ (f : Fate). o ++ line_of (fate_words c.args.version f)) (sym c.in-Abandoned.is)) c.push_spaced_hex.ensures
