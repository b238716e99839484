use Rattle.std.proofs.Common.{◌++◌, ◌∷◌, [], map, ap, ◌∙◌, append_assoc}
use Rattle.std.proofs.lemmas.Result.{on_ok_weaker}
use Rattle.hs_report.specs.OutcomeText.{json_list, report_json}
use Rattle.hs_report.specs.Sources.{report_by}
use Rattle.hs_json.proofs.values.push_json.Goals as goal

pub returns : goal.returns
returns c =
    on_ok_weaker c.end_line.result
    (λ ended entries records hold.
    let spelled = c.in_ok-reports.ensures entries records hold in
    let text = c.as_slice.ensures.value ∙ c.in_ok-to_vec.ensures.text spelled.whole ∙ spelled.is in
    ended ∙ ap (λ t. t ++ 10 ∷ []) (c.in_ok-extend_from_slice.ensures.items ∙ ap (λ t. c.args.out.now.items ++ t) text)
    ∙ append_assoc c.args.out.now.items (json_list (map (report_json c.args.version) (map (report_by entries records) c.args.traces.now))) (10 ∷ []))
    c.end_line.ensures
