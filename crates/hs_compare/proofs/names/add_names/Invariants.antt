use Rattle.std.proofs.Common.{◌≡◌, ◌∷◌, ◌++◌, map, take}
use Rattle.hs_compare.proofs.Prelude.{name_at}
use Rattle.hs_compare.proofs.names.add_names.Given as goal

abbrev pub invariant-loop-place : goal.invariant-loop-place
invariant-loop-place l = l.names.items ≡ l.fn.names.items ++ name_at l.number l.trigger.lead ∷ map (name_at l.number) (take l.place l.trigger.laterals)
