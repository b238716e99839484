use Rattle.std.proofs.Common.{arith}
use Rattle.hs_json.proofs.Items.{gap_items, gap_items_join}
use Rattle.hs_json.proofs.Spelled.{spell_more_at, spell_all}
use Rattle.hs_json.proofs.values.gap_values.Goals as goal

pub loop-entry-preserved : goal.loop-entry-preserved
loop-entry-preserved c =
    spell_more_at (gap_items c.args.version) (gap_items_join c.args.version) c.args.entries.now c.loop-entry.entry-index _ _ (omega arith) (c.in_ok-push_unreported.ensures _ c.loop-entry.invariant)

pub returns : goal.returns
returns c = spell_all (gap_items c.args.version) c.args.entries.now c.loop-entry.entry-index _ (omega arith) c.loop-entry.invariant
