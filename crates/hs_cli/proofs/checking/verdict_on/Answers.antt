use Rattle.std.proofs.Common.{◌≡◌, Some, None, sym, subst, ◌∙◌}
use Rattle.hs_records.specs.Journals.{journal_of}
use Rattle.hs_law_journal.specs.Lawful.{IsLawful, first_unlawful}
use Rattle.hs_outcome.specs.Outcomes.{IsOutcome}
use Rattle.hs_records.specs.Views.{workload_of}
use Rattle.hs_check.specs.Clauses.{number_of}
use Rattle.hs_check.specs.Verdicts.{IsVerdict}
use Rattle.hs_check.specs.declared.verdict.Verdict.{Verdict}
use Rattle.hs_workload.specs.declared.status.Status.TheVariants.{Done, Unlawful}
use Rattle.hs_cli.proofs.Answering.{judged_as}
use Rattle.hs_cli.proofs.checking.verdict_on.Goals as goal

pub outcome_parts-requires : goal.outcome_parts-requires
outcome_parts-requires c =
    let W = workload_of c.args.workload.now in
    let J = journal_of c.args.journal.now in
    let lawful : IsLawful W J × IsOutcome W J c.in-Lawful.outcome = subst (λ (verdict : Verdict). IsVerdict W J verdict) c.in-Lawful.is c.in_ok-outcome.ensures in
    (W, J, c.requires, lawful.0, lawful.1)

pub returns-in_ok-outcome_parts-in-Lawful : goal.returns-in_ok-outcome_parts-in-Lawful
returns-in_ok-outcome_parts-in-Lawful c =
    let W = workload_of c.args.workload.now in
    let J = journal_of c.args.journal.now in
    let lawful : IsLawful W J × IsOutcome W J c.in-Lawful.outcome = subst (λ (verdict : Verdict). IsVerdict W J verdict) c.in-Lawful.is c.in_ok-outcome.ensures in
    judged_as W J c.done_with.result.status Done _ _ c.done_with.ensures.status c.done_with.ensures.text (lawful.0, c.in_ok-outcome_parts-in-Lawful.ensures.text W J c.requires lawful.0 lawful.1)

pub returns-in_ok-line-in-Unlawful : goal.returns-in_ok-line-in-Unlawful
returns-in_ok-line-in-Unlawful c =
    let W = workload_of c.args.workload.now in
    let J = journal_of c.args.journal.now in
    let number = number_of c.in-Unlawful.clause in
    let first : first_unlawful W J ≡ Some number = subst (λ (verdict : Verdict). IsVerdict W J verdict) c.in-Unlawful.is c.in_ok-outcome.ensures in
    judged_as W J c.whole.result.status Unlawful _ _ c.whole.ensures.status c.whole.ensures.text
    (record {
      clause = number;
      first = first;
      broken = λ lawful. let both : Some number ≡ None = sym first ∙ (c.lawful_is_decided.ensures W J).1 lawful in cc;
      told = c.in_ok-line-in-Unlawful.ensures;
    })
