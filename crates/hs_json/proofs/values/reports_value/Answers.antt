use Rattle.std.proofs.Common.{rules, arith}
use Rattle.serde_json.specs.declared.value.Value.{the_lemmas}
use Rattle.hs_json.proofs.Items.{report_items, report_items_join}
use Rattle.hs_json.proofs.Spelled.{spell_push, spell_more_at, spell_all, spell_list}
use Rattle.hs_json.proofs.values.reports_value.Goals as goal

pub loop-trace-preserved : goal.loop-trace-preserved
loop-trace-preserved c =
    λ entries records hold. spell_more_at (report_items c.args.version entries records) (report_items_join c.args.version entries records) c.args.traces.now c.loop-trace.trace-index _ _ (omega arith)
    (spell_push c.loop-trace.reports.items c.push.new.self.items _ _ _ (c.loop-trace.invariant entries records hold) (c.in_ok-report_value.ensures entries records hold) c.in_ok-push.ensures.items)

pub returns : goal.returns
returns c =
    λ entries records hold. spell_list c.loop-trace.reports.items _ _
    (spell_all (report_items c.args.version entries records) c.args.traces.now c.loop-trace.trace-index _ (omega arith) (c.loop-trace.invariant entries records hold)) (search (rules, the_lemmas))
