use Rattle.std.proofs.Common.{◌≡◌, ◌≤◌, [], length, map, take}
use Rattle.hs_run_actors.proofs.Prelude.{AllByRecursion, Watch}
use Rattle.hs_auto.specs.Watching.{HasSampled}
use Rattle.hs_run_actors.proofs.making.autos_of.Given as goal

abbrev pub invariant-loop-rule : goal.invariant-loop-rule
invariant-loop-rule l =
    (length l.settings.autos.items ≤ l.autos.room) × (map (λ (watch : Watch). watch.rule) l.autos.items ≡ take l.rule-index l.settings.autos.items)
    × AllByRecursion (λ (watch : Watch). HasSampled watch []) l.autos.items
