use Rattle.hs_pins.proofs.Prelude.{fresh_bucket}
use Rattle.hs_pins.proofs.RuleLemmas.{one-rule-more}
use Rattle.hs_pins.proofs.pins.full_buckets.Goals as goal

pub loop-rule-preserved : goal.loop-rule-preserved
loop-rule-preserved c =
    one-rule-more (λ rule. fresh_bucket rule.burst rule.rate) c.args.rules.now c.loop-rule.rule-index _ c.loop-rule.buckets.entries c.insert.new.self.entries c.make.result c.requires.rising c.loop-rule-test.true c.make.ensures.fresh
    c.loop-rule.invariant c.in_ok-insert.ensures.entries
