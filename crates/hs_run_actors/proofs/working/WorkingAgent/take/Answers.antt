use Rattle.std.proofs.Common.{Some, None, sym, ◌∙◌, append-nil}
use Rattle.hs_run_actors.proofs.Prelude.{run_at}
use Rattle.hs_run_actors.proofs.Taking.{takable, took}
use Rattle.hs_run_actors.proofs.working.WorkingAgent.take.Goals as goal

pub step-requires : goal.step-requires
step-requires c =
    let (W, work, works, may) = c.requires in
    takable W work c.args.self.now.agent c.args.self.now.said.items c.args.input works may c.events_add_few.ensures

pub returns-in-None-clause-works : goal.returns-in-None-clause-works
returns-in-None-clause-works c = λ W work works may.
    let run = run_at W work works.is.buffers None in
    took W work c.args.self.now.agent c.args.self.now.said.items c.args.input works may c.events_go_on.ensures c.steps_say_what_they_tell.ensures c.step.new.self None c.args.self.now.said.items
    (c.in_ok-step.ensures.after run works.is.follows) (sym c.in-None.is ∙ c.in_ok-step.ensures.told run works.is.follows) (sym (append-nil c.args.self.now.said.items))

pub returns-in_ok-push_back-in-Some-clause-works : goal.returns-in_ok-push_back-in-Some-clause-works
returns-in_ok-push_back-in-Some-clause-works c = λ W work works may.
    let run = run_at W work works.is.buffers None in
    took W work c.args.self.now.agent c.args.self.now.said.items c.args.input works may c.events_go_on.ensures c.steps_say_what_they_tell.ensures c.step.new.self (Some c.in-Some.told) c.push_back.new.self.items
    (c.in_ok-step.ensures.after run works.is.follows) (sym c.in-Some.is ∙ c.in_ok-step.ensures.told run works.is.follows) c.in_ok-push_back-in-Some.ensures.items
