use Rattle.std.proofs.Common.{List, take}
use Rattle.hs_ledger.specs.declared.ledger.Entry.{Entry}
use Rattle.hs_report.specs.Fates.{AreFatesOf}
use Rattle.hs_json.specs.Spelling.{SpellEach}
use Rattle.hs_json.proofs.Items.{record_items}
use Rattle.hs_json.proofs.values.record_values.Given as goal

abbrev pub invariant-loop-whole : goal.invariant-loop-whole
invariant-loop-whole l = (entries : List Entry) → AreFatesOf entries l.fates → SpellEach l.values.items (record_items entries (take l.whole-index l.records))
