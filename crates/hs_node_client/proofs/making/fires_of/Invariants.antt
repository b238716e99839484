use Rattle.std.proofs.Common.{◌≡◌, ◌≤◌, length, map, take}
use Rattle.hs_base.specs.Rules.{fired_by}
use Rattle.hs_node_client.proofs.making.fires_of.Given as goal

abbrev pub invariant-loop-rule : goal.invariant-loop-rule
invariant-loop-rule l = (length l.rules.items ≤ l.fires.room) × (l.fires.items ≡ map fired_by (take l.rule-index l.rules.items))
