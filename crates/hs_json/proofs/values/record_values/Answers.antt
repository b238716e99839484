use Rattle.std.proofs.Common.{arith}
use Rattle.hs_json.proofs.Items.{record_items, record_items_join}
use Rattle.hs_json.proofs.Spelled.{spell_more, spell_all}
use Rattle.hs_json.proofs.values.record_values.Goals as goal

pub loop-whole-preserved : goal.loop-whole-preserved
loop-whole-preserved c =
    λ entries are. spell_more (record_items entries) (record_items_join entries) c.args.records.now c.loop-whole.whole-index c.whole-item.result _ (omega arith) c.whole-item.is
    (c.in_ok-push_shown.ensures entries _ are (c.loop-whole.invariant entries are))

pub returns : goal.returns
returns c = λ entries are. spell_all (record_items entries) c.args.records.now c.loop-whole.whole-index _ (omega arith) (c.loop-whole.invariant entries are)
