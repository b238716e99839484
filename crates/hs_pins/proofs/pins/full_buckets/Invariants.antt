use Rattle.std.proofs.Common.{◌≡◌, take}
use Rattle.hs_pins.proofs.Prelude.{fresh_buckets_of}
use Rattle.hs_pins.proofs.pins.full_buckets.Given as goal

abbrev pub invariant-loop-rule : goal.invariant-loop-rule
invariant-loop-rule l = l.buckets.entries ≡ fresh_buckets_of (take l.rule-index l.rules)
