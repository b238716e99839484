use Rattle.std.proofs.Common.{List, take}
use Rattle.hs_base.specs.declared.ids.TraceId.{TraceId}
use Rattle.hs_collect.specs.Collected.{Placed}
use Rattle.hs_ledger.specs.declared.ledger.Entry.{Entry}
use Rattle.hs_json.specs.Spelling.{SpellEach}
use Rattle.hs_report.specs.Sources.{Hold}
use Rattle.hs_json.proofs.Items.{report_items}
use Rattle.hs_json.proofs.values.reports_value.Given as goal

abbrev pub invariant-loop-trace : goal.invariant-loop-trace
invariant-loop-trace l =
    (entries : List Entry) (records : TraceId → List Placed) → Hold entries records l.fates l.collector → SpellEach l.reports.items (report_items l.version entries records (take l.trace-index l.traces))
