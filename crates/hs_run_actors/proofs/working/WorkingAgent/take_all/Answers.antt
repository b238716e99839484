use Rattle.std.proofs.Common.{rules, ◌≡◌, arith, subst}
use Rattle.hs_run_actors.proofs.Prelude.{plain_working_agent, TakesFirst}
use Rattle.hs_run_actors.proofs.Helping.{first_none, first_work, can_help, help_more}
use Rattle.hs_run_actors.proofs.working.WorkingAgent.take_all.Goals as goal

pub loop-client-init : goal.loop-client-init
loop-client-init g c = λ W work can. first_none W work (g.E.IntakeEnds.sees c.args.ends.now) (plain_working_agent c.args.self.now) can.stands

pub take_of-requires : goal.take_of-requires
take_of-requires g c =
    let (W, work, can) = c.requires in
    let old = g.E.IntakeEnds.sees c.args.ends.now in
    let first = c.loop-client.invariant W work can in
    let lines = g.E.IntakeEnds.sees c.loop-client.ends in
    let desk = plain_working_agent c.loop-client.self in (
      search rules,
      (W, first_work W work old c.loop-client.client lines desk first, can_help W work old c.loop-client.client lines desk first (plain_working_agent c.args.self.now) c.args.clients can c.loop-client-test.true),
    )

pub loop-client-preserved : goal.loop-client-preserved
loop-client-preserved g c = λ W work can.
    let old = g.E.IntakeEnds.sees c.args.ends.now in
    let first = c.loop-client.invariant W work can in
    let lines = g.E.IntakeEnds.sees c.loop-client.ends in
    let desk = plain_working_agent c.loop-client.self in
    help_more W work old c.loop-client.client lines desk first (g.E.IntakeEnds.sees c.take_of.new.ends) (plain_working_agent c.take_of.new.self)
    (c.in_ok-take_of.ensures W (first_work W work old c.loop-client.client lines desk first) (can_help W work old c.loop-client.client lines desk first (plain_working_agent c.args.self.now) c.args.clients can c.loop-client-test.true))

pub returns : goal.returns
returns g c = λ W work can.
    let high = c.loop-client-test.false in
    let low = c.loop-client.auto.client-end in
    let all : c.loop-client.client ≡ c.args.clients = omega (arith, high, low) in
    subst (λ k. TakesFirst W work k (g.E.IntakeEnds.sees c.args.ends.now) (g.E.IntakeEnds.sees c.loop-client.ends) (plain_working_agent c.loop-client.self)) all (c.loop-client.invariant W work can)
