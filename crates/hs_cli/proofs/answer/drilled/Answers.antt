use Rattle.std.proofs.Common.{◌≡◌, [], ◌∷◌}
use Rattle.std.proofs.lemmas.Result.{IfOk-weaker}
use Rattle.hs_report.specs.OutcomeText.{total_line}
use Rattle.hs_text.specs.Text.{text_of}
use Rattle.hs_records.specs.Views.{workload_of}
use Rattle.hs_cli.specs.Endings.{drill_text}
use Rattle.hs_cli.proofs.Answering.{drill_is}
use Rattle.hs_cli.proofs.answer.drilled.Goals as goal

pub returns : goal.returns
returns c =
    let W = workload_of c.args.workload.now in
    let totals = c.in_ok-outcome.outcome.ledger.totals in
    IfOk-weaker c.write_total.result (λ text. text.items ≡ text_of (total_line totals ∷ [])) (λ text. text.items ≡ drill_text W)
    (λ text is. drill_is W totals text.items c.in_ok-outcome.ensures.totals is) c.write_total.ensures
