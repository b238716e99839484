use Rattle.std.proofs.Common.{subst}
use Rattle.hs_node_client.proofs.Prelude.{Does, Fire}
use Rattle.hs_node_client.proofs.Living.{lives_more}
use Rattle.hs_live.specs.declared.called.Called.{Called as LiveCalled}
use Rattle.hs_node_client.proofs.acts.trigger.Goals as goal

pub returns-clause-does : goal.returns-clause-does
returns-clause-does c =
    let mid = c.has_trigger_place.new.client in
    let new = c.trigger.new.self in
    lives_more (Fire c.args.trigger.now) c.args.client.now mid new c.has_trigger_place.ensures.does
    (subst (λ (answer : LiveCalled). Does (Fire c.args.trigger.now) answer mid new) c.trigger.ensures.answer c.trigger.ensures.does)
