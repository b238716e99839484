use Rattle.std.proofs.Common.{◌++◌, ℕ, List, [], ◌∷◌, decimal, codes, ap, ◌∙◌}
use Rattle.hs_journal.specs.Reasons.{reason_text}
use Rattle.hs_workload.proofs.Lines.{regrouped}
use Rattle.hs_cli.proofs.checking.journal_refusal.Goals as goal

pub returns : goal.returns
returns c =
    let line = decimal c.args.refusal.line in
    c.from_vec.ensures.items ∙ ap (λ v. v.items) c.into_bytes.ensures.value ∙ c.in_ok-text.ensures.ok
    ∙ ap (λ (rest : List ℕ). codes "refused journal line " ++ rest)
    (ap (λ (reason : List ℕ). line ++ 32 ∷ (reason ++ 10 ∷ [])) c.word-reason.ensures ∙ regrouped line (reason_text c.args.refusal.reason))
