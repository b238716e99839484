use Rattle.std.proofs.Common.{[], map, ap, sym, ◌∙◌, subst}
use Rattle.std.proofs.lemmas.Result.{IfOk-weaker}
use Rattle.hs_collect.specs.Views.{placed_of}
use Rattle.hs_law_outcome.specs.CollectedReports.{reported_wholes}
use Rattle.hs_report.specs.OutcomeText.{placed_json}
use Rattle.hs_json.specs.Spelling.{SpellEach}
use Rattle.hs_report.proofs.Reports.{none_shown}
use Rattle.hs_json.proofs.Spelled.{spell_none}
use Rattle.hs_json.proofs.values.collected_values.Goals as goal

pub returns-in-Some : goal.returns-in-Some
returns-in-Some c =
    IfOk-weaker c.record_values.result _ _
    (λ values spelled entries records hold.
    subst (λ wholes. SpellEach values.items (map placed_json wholes))
    (ap (λ t. reported_wholes entries (map placed_of t)) c.as_slice.ensures ∙ hold.show c.args.trace _ (c.in-Some.ensures hold.sheets hold.collected).1) (spelled entries hold.are))
    c.record_values.ensures

pub returns-in-None : goal.returns-in-None
returns-in-None c = λ entries records hold.
    subst (λ wholes. SpellEach c.new.result.items (map placed_json wholes)) (sym (none_shown entries records c.args.fates.now c.args.collector.now c.args.trace hold c.in-None.ensures))
    (subst (λ vs. SpellEach vs []) (sym c.new.ensures.items) spell_none)
