use Rattle.std.proofs.Common.{◌≡◌, ◌≤◌, [], length, map, take}
use Rattle.std.specs.List.{AllByRecursion}
use Rattle.hs_auto.specs.Watching.{Watch, HasSampled}
use Rattle.hs_node_client.proofs.making.autos_of.Given as goal

abbrev pub invariant-loop-rule : goal.invariant-loop-rule
invariant-loop-rule l =
    (length l.rules.items ≤ l.autos.room) × (map (λ (watch : Watch). watch.rule) l.autos.items ≡ take l.rule-index l.rules.items)
    × AllByRecursion (λ (watch : Watch). HasSampled watch []) l.autos.items
