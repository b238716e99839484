use Rattle.std.proofs.Common.{arith}
use Rattle.hs_c.proofs.Pieces.{cost_within}
use Rattle.hs_c.proofs.pages.page_len.Goals as goal

pub overflow_add-len : goal.overflow_add-len
overflow_add-len c = omega (arith, cost_within c.args.points.now c.loop-point.point-index c.point-item.result c.loop-point-test.true c.point-item.is)

pub overflow_add-len-in-loop-point : goal.overflow_add-len-in-loop-point
overflow_add-len-in-loop-point c = omega (arith, cost_within c.args.points.now c.loop-point.point-index c.point-item.result c.loop-point-test.true c.point-item.is)
