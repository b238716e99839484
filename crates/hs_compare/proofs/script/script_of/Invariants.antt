use Rattle.std.proofs.Common.{◌≡◌, drop, map, take}
use Rattle.hs_compare.proofs.Prelude.{operation_of, HasScript, AreLeft}
use Rattle.hs_compare.proofs.script.script_of.Given as goal

abbrev pub invariant-loop-number : goal.invariant-loop-number
invariant-loop-number l = record {
  client : l.walk.client ≡ l.initial.walk.client;
  script : HasScript l.names (map operation_of (take l.number l.operations)) l.walk l.script;
  names : AreLeft l.names (drop l.taken l.names) l.number;
}
