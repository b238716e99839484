use Rattle.std.proofs.Common.{◌≡◌, ◌+◌, ◌++◌, length, drop}
use Rattle.hs_compare.proofs.Prelude.{names_by}
use Rattle.hs_compare.proofs.names.names_of.Given as goal

abbrev pub invariant-loop-number : goal.invariant-loop-number
invariant-loop-number l = record {
  names : l.names.items ++ names_by (drop l.number-index l.numbers) l.triggers.items ≡ names_by l.numbers l.fn.triggers.items;
  each : length l.triggers.items + l.number-index ≡ length l.numbers;
}
