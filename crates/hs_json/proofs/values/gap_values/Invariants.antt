use Rattle.std.proofs.Common.{take}
use Rattle.hs_json.specs.Spelling.{SpellEach}
use Rattle.hs_json.proofs.Items.{gap_items}
use Rattle.hs_json.proofs.values.gap_values.Given as goal

abbrev pub invariant-loop-entry : goal.invariant-loop-entry
invariant-loop-entry l = SpellEach l.values.items (gap_items l.version (take l.entry-index l.entries))
