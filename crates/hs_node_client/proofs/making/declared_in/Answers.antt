use Rattle.std.proofs.Common.{◌+◌, List, take, get_or, set, true, sym, subst}
use Rattle.hs_base.specs.declared.settings.TriggerRule.{TriggerRule}
use Rattle.hs_node_client.proofs.Known.{none_declared, declared_more}
use Rattle.hs_node_client.specs.Known.{AreDeclared}
use Rattle.hs_node_client.proofs.making.declared_in.Goals as goal

pub loop-rule-init : goal.loop-rule-init
loop-rule-init c = none_declared

pub loop-rule-preserved : goal.loop-rule-preserved
loop-rule-preserved c =
    let rules = c.as_slice-rule-items.result.now in
    let at = c.loop-rule.rule-index in
    let table = c.loop-rule.declared in
    let d : TriggerRule = record { id = record { 0 = 0 }; weight = 0; burst = 0; rate = 0 } in
    subst (λ (l : List TriggerRule). AreDeclared (take (at + 1) l) (set table (get_or rules at d).id.0 true)) c.as_slice-rule-items.ensures
    (declared_more rules table at d c.loop-rule-test.true (subst (λ (l : List TriggerRule). AreDeclared (take at l) table) (sym c.as_slice-rule-items.ensures) c.loop-rule.invariant))
