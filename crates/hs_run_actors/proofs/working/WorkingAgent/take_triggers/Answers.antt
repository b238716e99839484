use Rattle.std.proofs.Common.{◌≡◌, ◌+◌, ◌<◌, ◌^◌, ◌++◌, true, map, arith}
use Rattle.hs_run_actors.proofs.Prelude.{is_declared, plain_working_agent, triggered, trigger_event}
use Rattle.hs_run_actors.proofs.Loops.{no_triggers, trigger_came, triggers_taken, triggers_work, trigger_more, triggers_out, triggers_full}
use Rattle.hs_run_actors.proofs.working.WorkingAgent.take_triggers.Goals as goal

pub loop-count-init : goal.loop-count-init
loop-count-init g c = λ W work can. no_triggers W work c.args.client (g.E.IntakeEnds.sees c.args.ends.now) (plain_working_agent c.args.self.now) can

pub trigger-requires : goal.trigger-requires
trigger-requires g c =
    let (W, work, can) = c.requires in
    let so_far = c.loop-count.invariant W work can in
    let count = so_far.stands.lines_are.triggers.count in
    let low = can.low in
    omega (arith, count, low)

pub take-requires : goal.take-requires
take-requires g c =
    let (W, work, can) = c.requires in
    let so_far = c.loop-count.invariant W work can in
    let lines = g.E.IntakeEnds.sees c.loop-count.ends in
    let (low, declared) = trigger_came W work.node work.pool c.args.client can.low lines.triggers c.in-Some.trigger so_far.stands.lines_are.triggers c.in-Some.ensures.fact in
    let room = can.few in
    let number = so_far.number in
    let taken = triggers_taken W work c.args.client (g.E.IntakeEnds.sees c.args.ends.now) so_far.items in
    let below = c.loop-count-test.true in
    let few : triggered (work.events ++ map (trigger_event c.args.client) so_far.items) + 1 < 2 ^ 32 = omega (arith, room, number, taken, below) in
    let may : (c.args.client < W.settings.clients) × (is_declared W.settings.triggers c.in-Some.trigger.trigger ≡ true) × (triggered (work.events ++ map (trigger_event c.args.client) so_far.items) + 1 < 2 ^ 32) = (low, declared, few) in
    (W, triggers_work W work c.args.client (g.E.IntakeEnds.sees c.args.ends.now) c.loop-count.count lines (plain_working_agent c.loop-count.self) so_far, so_far.stands.works, may)

pub loop-count-preserved : goal.loop-count-preserved
loop-count-preserved g c = λ W work can.
    let so_far = c.loop-count.invariant W work can in
    let old = g.E.IntakeEnds.sees c.args.ends.now in
    let lines = g.E.IntakeEnds.sees c.loop-count.ends in
    let next = g.E.IntakeEnds.sees c.trigger.new.self in
    let desk = plain_working_agent c.loop-count.self in
    let (low, declared) = trigger_came W work.node work.pool c.args.client can.low lines.triggers c.in-Some.trigger so_far.stands.lines_are.triggers c.in-Some.ensures.fact in
    let room = can.few in
    let number = so_far.number in
    let taken = triggers_taken W work c.args.client (g.E.IntakeEnds.sees c.args.ends.now) so_far.items in
    let below = c.loop-count-test.true in
    let few : triggered (work.events ++ map (trigger_event c.args.client) so_far.items) + 1 < 2 ^ 32 = omega (arith, room, number, taken, below) in
    let may : (c.args.client < W.settings.clients) × (is_declared W.settings.triggers c.in-Some.trigger.trigger ≡ true) × (triggered (work.events ++ map (trigger_event c.args.client) so_far.items) + 1 < 2 ^ 32) = (low, declared, few) in
    let work' = triggers_work W work c.args.client old c.loop-count.count lines desk so_far in
    trigger_more W work c.args.client old c.loop-count.count lines next desk so_far c.trigger.ensures.only (c.in-Some.trigger) (plain_working_agent c.take.new.self) c.in-Some.ensures.hands
    (c.in_ok-take.ensures.works W work' so_far.stands.works may) c.take.ensures.asks

pub returns-in_default : goal.returns-in_default
returns-in_default g c = λ W work can.
    let so_far = c.loop-count.invariant W work can in
    let lines = g.E.IntakeEnds.sees c.loop-count.ends in
    triggers_out W work c.args.client (g.E.IntakeEnds.sees c.args.ends.now) c.loop-count.count lines (g.E.IntakeEnds.sees c.trigger.new.self) (plain_working_agent c.loop-count.self) so_far c.trigger.ensures.only (let low = c.loop-count-test.true in omega (arith, low)) c.in_default.ensures.hands

pub returns : goal.returns
returns g c = λ W work can.
    triggers_full W work c.args.client (g.E.IntakeEnds.sees c.args.ends.now) c.loop-count.count (g.E.IntakeEnds.sees c.loop-count.ends) (plain_working_agent c.loop-count.self) (c.loop-count.invariant W work can)
    (let high = c.loop-count-test.false in let low = c.loop-count.auto.count-end in omega (arith, high, low))
