use Rattle.std.proofs.Common.{[]}
use Rattle.hs_pins.proofs.RuleLemmas.{one-rule-more}
use Rattle.hs_pins.proofs.queues.empty_queues.Goals as goal

pub loop-rule-preserved : goal.loop-rule-preserved
loop-rule-preserved g c =
    one-rule-more (λ rule. []) c.args.rules.now c.loop-rule.rule-index _ c.loop-rule.queues.entries c.insert.new.self.entries c.new.result c.requires.rising c.loop-rule-test.true c.new.ensures
    c.loop-rule.invariant c.in_ok-insert.ensures.entries
