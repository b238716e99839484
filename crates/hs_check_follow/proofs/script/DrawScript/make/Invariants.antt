use Rattle.std.proofs.Common.{◌≡◌, take}
use Rattle.hs_check_follow.proofs.script.DrawScript.make.Given as goal

abbrev pub invariant-loop-draw : goal.invariant-loop-draw
invariant-loop-draw l = l.left.items ≡ take l.draw-index l.draws
