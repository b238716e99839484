use Rattle.std.proofs.Common.{◌≡◌, take}
use Rattle.hs_compare.proofs.Prelude.{flat_map, rings_after, part_of}
use Rattle.hs_compare.proofs.walk.go_round.Given as goal

abbrev pub invariant-loop-script : goal.invariant-loop-script
invariant-loop-script l = l.ring ≡ rings_after l.fn.ring (flat_map (part_of l.from l.count) (take l.script-index l.scripts))
