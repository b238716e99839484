use Rattle.std.proofs.Common.{◌≡◌, ◌++◌, drop}
use Rattle.hs_check.proofs.Prelude.{places_behind}
use Rattle.hs_check.proofs.asks.places_of.Given as goal

abbrev pub invariant-loop-place : goal.invariant-loop-place
invariant-loop-place l = l.places.items ++ places_behind l.node.0 l.place (drop l.place l.told) ≡ places_behind l.node.0 0 l.told
