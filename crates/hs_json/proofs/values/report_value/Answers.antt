use Rattle.std.proofs.Common.{subst, rules, map}
use Rattle.std.proofs.lemmas.Result.{IfOk-weaker}
use Rattle.serde_json.specs.declared.value.Value.{the_lemmas}
use Rattle.hs_report.specs.OutcomeText.{gap_json, placed_json}
use Rattle.hs_text.specs.Writing.{trace_word}
use Rattle.hs_json.specs.Spelling.{SpellEach}
use Rattle.hs_report.specs.Sources.{gaps_of}
use Rattle.hs_report.proofs.Reports.{gaps_are}
use Rattle.hs_json.proofs.Spelled.{spell_report}
use Rattle.hs_json.proofs.values.report_value.Goals as goal

pub returns : goal.returns
returns c =
    IfOk-weaker c.report_object.result _ _
    (λ report is entries records hold.
    let gaps = subst (λ own. SpellEach c.in_ok-gaps.gaps.items (map (gap_json c.args.version) own)) (gaps_are entries c.of.result.now c.args.trace (c.of.ensures entries hold.are)) c.in_ok-gaps.ensures in
    spell_report c.in_ok-gaps.gaps.items c.in_ok-records.records.items _ _ _ report (map (gap_json c.args.version) (gaps_of entries c.args.trace)) (map placed_json (records c.args.trace)) (trace_word c.args.version c.args.trace) gaps
    (c.in_ok-records.ensures entries records hold) c.in_ok-trace.ensures (search (rules, the_lemmas)) (search (rules, the_lemmas)) is)
    c.report_object.ensures
