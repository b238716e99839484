use Rattle.std.proofs.Common.{◌≡◌, take}
use Rattle.hs_pins.proofs.Prelude.{fresh_queues}
use Rattle.hs_pins.proofs.queues.empty_queues.Given as goal

abbrev pub invariant-loop-rule : goal.invariant-loop-rule
invariant-loop-rule g l = l.queues.entries ≡ fresh_queues (take l.rule-index l.rules)
