use Rattle.std.proofs.Common.{arith}
use Rattle.hs_run_actors.proofs.Prelude.{plain_working_agent}
use Rattle.hs_run_actors.proofs.Loops.{no_crumbs, crumb_came, crumbs_work, crumb_more, crumbs_out, crumbs_full}
use Rattle.hs_run_actors.proofs.working.WorkingAgent.take_crumbs.Goals as goal

pub loop-count-init : goal.loop-count-init
loop-count-init g c = λ W work can. no_crumbs W work c.args.client (g.E.IntakeEnds.sees c.args.ends.now) (plain_working_agent c.args.self.now) can

pub crumb-requires : goal.crumb-requires
crumb-requires g c =
    let (W, work, can) = c.requires in
    let so_far = c.loop-count.invariant W work can in
    let count = so_far.stands.lines_are.crumbs.count in
    let low = can.low in
    omega (arith, count, low)

pub take-requires : goal.take-requires
take-requires g c =
    let (W, work, can) = c.requires in
    let so_far = c.loop-count.invariant W work can in
    let lines = g.E.IntakeEnds.sees c.loop-count.ends in
    (W, crumbs_work W work c.args.client (g.E.IntakeEnds.sees c.args.ends.now) c.loop-count.count lines (plain_working_agent c.loop-count.self) so_far, so_far.stands.works, (crumb_came W work.node work.pool c.args.client can.low lines.crumbs c.in-Some.crumb so_far.stands.lines_are.crumbs c.in-Some.ensures.fact))

pub loop-count-preserved : goal.loop-count-preserved
loop-count-preserved g c = λ W work can.
    let so_far = c.loop-count.invariant W work can in
    let old = g.E.IntakeEnds.sees c.args.ends.now in
    let lines = g.E.IntakeEnds.sees c.loop-count.ends in
    let next = g.E.IntakeEnds.sees c.crumb.new.self in
    let desk = plain_working_agent c.loop-count.self in
    let work' = crumbs_work W work c.args.client old c.loop-count.count lines desk so_far in
    crumb_more W work c.args.client old c.loop-count.count lines next desk so_far c.crumb.ensures.only (c.in-Some.crumb) (plain_working_agent c.take.new.self) c.in-Some.ensures.hands
    (c.in_ok-take.ensures.works W work' so_far.stands.works (crumb_came W work.node work.pool c.args.client can.low lines.crumbs c.in-Some.crumb so_far.stands.lines_are.crumbs c.in-Some.ensures.fact)) c.take.ensures.asks

pub returns-in_default : goal.returns-in_default
returns-in_default g c = λ W work can.
    let so_far = c.loop-count.invariant W work can in
    let lines = g.E.IntakeEnds.sees c.loop-count.ends in
    crumbs_out W work c.args.client (g.E.IntakeEnds.sees c.args.ends.now) c.loop-count.count lines (g.E.IntakeEnds.sees c.crumb.new.self) (plain_working_agent c.loop-count.self) so_far c.crumb.ensures.only (let low = c.loop-count-test.true in omega (arith, low)) c.in_default.ensures.hands

pub returns : goal.returns
returns g c = λ W work can.
    crumbs_full W work c.args.client (g.E.IntakeEnds.sees c.args.ends.now) c.loop-count.count (g.E.IntakeEnds.sees c.loop-count.ends) (plain_working_agent c.loop-count.self) (c.loop-count.invariant W work can)
    (let high = c.loop-count-test.false in let low = c.loop-count.auto.count-end in omega (arith, high, low))
