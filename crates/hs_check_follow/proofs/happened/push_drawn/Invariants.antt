use Rattle.std.proofs.Common.{◌≡◌, ◌++◌, map, take}
use Rattle.hs_check_follow.proofs.Prelude.{timed_draw}
use Rattle.hs_check_follow.proofs.happened.push_drawn.Given as goal

abbrev pub invariant-loop-draw : goal.invariant-loop-draw
invariant-loop-draw l = l.events.items ≡ l.fn.events.items ++ map timed_draw (take l.draw-index l.draws)
