use Rattle.std.proofs.Common.{◌≡◌, ◌≤◌, ◌∷◌, ◌++◌, drop}
use Rattle.hs_check.proofs.Prelude.{is_of, behind_each}
use Rattle.hs_check.proofs.kinds.Kind.count_passes.Given as goal

abbrev pub invariant-loop-place : goal.invariant-loop-place
invariant-loop-place l = record {
  is : l.counts.items ++ behind_each (is_of l.fn.self) l.count (drop l.place l.log) ≡ 0 ∷ behind_each (is_of l.fn.self) 0 l.log;
  few : l.count ≤ l.place;
}
