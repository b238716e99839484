use Rattle.std.proofs.Common.{◌≡◌, Some, None, slice_get, sym, ap, ◌∙◌, arith}
use Rattle.hs_sched.proofs.VisitLemmas.{underway_more, over_emptied, over_spent}
use Rattle.hs_sched.proofs.scheduler.visit.Goals as goal

pub loop-cost-preserved : goal.loop-cost-preserved
loop-cost-preserved g c =
    let u = c.loop-cost.invariant in
    let first : slice_get (g.Q.Queues.costs c.loop-cost.queues c.args.trigger.0) 0 ≡ Some c.from-cost.result = sym c.next_cost.ensures ∙ c.in-Some.is ∙ ap Some (sym c.from-cost.ensures) in
    underway_more g.Q.Queues.costs g.Q.Queues.sends c.args.trigger.0 c.args.budget c.loop-cost.left c.from-cost.result c.args.queues.now c.loop-cost.queues c.send_next.new.self u first (omega arith) c.send_next.ensures.taken c.send_next.ensures.others c.send_next.ensures.step

pub returns-then-cost-left : goal.returns-then-cost-left
returns-then-cost-left g c =
    let u = c.loop-cost.invariant in
    let first : slice_get (g.Q.Queues.costs c.loop-cost.queues c.args.trigger.0) 0 ≡ Some c.from-cost.result = sym c.next_cost.ensures ∙ c.in-Some.is ∙ ap Some (sym c.from-cost.ensures) in
    let o = over_spent g.Q.Queues.costs g.Q.Queues.sends c.args.trigger.0 c.args.budget c.loop-cost.left c.from-cost.result c.args.queues.now c.loop-cost.queues u first (omega arith) in
    record { value = o.value; left = o.left; others = o.others; order = o.order }

pub returns : goal.returns
returns g c =
    let u = c.loop-cost.invariant in
    let none : slice_get (g.Q.Queues.costs c.loop-cost.queues c.args.trigger.0) 0 ≡ None = sym c.next_cost.ensures ∙ c.in_default.is in
    let o = over_emptied g.Q.Queues.costs g.Q.Queues.sends c.args.trigger.0 c.args.budget c.loop-cost.left c.args.queues.now c.loop-cost.queues u none in
    record { value = o.value; left = o.left; others = o.others; order = o.order }
