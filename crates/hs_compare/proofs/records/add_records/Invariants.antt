use Rattle.std.proofs.Common.{◌≡◌, map, take}
use Rattle.hs_compare.proofs.Prelude.{operation_of}
use Rattle.hs_compare.specs.Points.{HasJoined}
use Rattle.hs_compare.proofs.records.add_records.Given as goal

abbrev pub invariant-loop-number : goal.invariant-loop-number
invariant-loop-number l = record {
  client : l.walk.client ≡ l.initial.walk.client;
  joined : HasJoined (map operation_of (take l.number l.operations)) l.fn.all.items l.walk l.all.items;
}
