use Rattle.std.proofs.Common.{rules, [], map}
use Rattle.hs_run_actors.proofs.Prelude.{plain_working_agent, with_events, chunk_event, crumb_event}
use Rattle.hs_run_actors.proofs.Helping.{can_take_crumbs, can_take_triggers, helped}
use Rattle.hs_run_actors.proofs.working.WorkingAgent.take_of.Goals as goal

pub take_crumbs-requires : goal.take_crumbs-requires
take_crumbs-requires g c =
    let (W, work, can) = c.requires in
    let t = c.in_ok-take_chunks.ensures W work can in (
      search rules,
      (
        W,
        with_events (map (chunk_event c.args.client) t.items) t.items work,
        can_take_crumbs W work c.args.client (g.E.IntakeEnds.sees c.args.ends.now) (plain_working_agent c.args.self.now) (plain_working_agent c.take_chunks.new.self) (g.E.IntakeEnds.sees c.take_chunks.new.ends) can t,
      ),
    )

pub take_triggers-requires : goal.take_triggers-requires
take_triggers-requires g c =
    let (W, work, can) = c.requires in
    let t = c.in_ok-take_chunks.ensures W work can in
    let work1 = with_events (map (chunk_event c.args.client) t.items) t.items work in
    let can1 = can_take_crumbs W work c.args.client (g.E.IntakeEnds.sees c.args.ends.now) (plain_working_agent c.args.self.now) (plain_working_agent c.take_chunks.new.self) (g.E.IntakeEnds.sees c.take_chunks.new.ends) can t in
    let u = c.in_ok-take_crumbs.ensures W work1 can1 in (
      search rules,
      (
        W,
        with_events (map (crumb_event c.args.client) u.items) [] work1,
        can_take_triggers W work1 c.args.client (g.E.IntakeEnds.sees c.take_chunks.new.ends) (plain_working_agent c.take_chunks.new.self) (plain_working_agent c.take_crumbs.new.self) (g.E.IntakeEnds.sees c.take_crumbs.new.ends) can1 u,
      ),
    )

pub returns : goal.returns
returns g c = λ W work can.
    let a = g.E.IntakeEnds.sees c.args.ends.now in
    let b = g.E.IntakeEnds.sees c.take_chunks.new.ends in
    let d = g.E.IntakeEnds.sees c.take_crumbs.new.ends in
    let t = c.in_ok-take_chunks.ensures W work can in
    let work1 = with_events (map (chunk_event c.args.client) t.items) t.items work in
    let can1 = can_take_crumbs W work c.args.client a (plain_working_agent c.args.self.now) (plain_working_agent c.take_chunks.new.self) b can t in
    let u = c.in_ok-take_crumbs.ensures W work1 can1 in
    let can2 = can_take_triggers W work1 c.args.client b (plain_working_agent c.take_chunks.new.self) (plain_working_agent c.take_crumbs.new.self) d can1 u in
    let v = c.in_ok-take_triggers.ensures W (with_events (map (crumb_event c.args.client) u.items) [] work1) can2 in
    helped W work c.args.client a b d (g.E.IntakeEnds.sees c.take_triggers.new.ends) (plain_working_agent c.take_chunks.new.self) (plain_working_agent c.take_crumbs.new.self) (plain_working_agent c.take_triggers.new.self) t u v
