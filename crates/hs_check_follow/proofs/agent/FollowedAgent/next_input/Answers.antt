use Rattle.std.proofs.Common.{◌+◌, refl}
use Rattle.hs_records.specs.declared.journal.Step.TheVariants as steps
use Rattle.hs_check_follow.proofs.Lists.{indexed}
use Rattle.hs_check_follow.proofs.Readying.{readied_at, not_ready_at, crumb_readied, no_crumb_readied, trigger_readied, no_trigger_readied, ask_readied}
use Rattle.hs_check_follow.proofs.agent.FollowedAgent.next_input.Goals as goal

pub returns-in-Some : goal.returns-in-Some
returns-in-Some c = λ W J heard run asks s.
    readied_at W J heard run c.args.self.now s c.args.step (steps.Crumb c.in-Crumb.client) c.in-Crumb.is (crumb_readied W J heard run c.args.self.now s c.in-Crumb.client c.in-Some.crumb c.next_crumb.new.clients c.in-Some.ensures)

pub returns-in-None : goal.returns-in-None
returns-in-None c = λ W J heard run asks s.
    not_ready_at W J heard run c.args.self.now s c.args.step (steps.Crumb c.in-Crumb.client) c.in-Crumb.is (no_crumb_readied W J heard run c.args.self.now s c.in-Crumb.client c.next_crumb.new.clients c.in-None.ensures)

pub returns-in-Some-next_trigger : goal.returns-in-Some-next_trigger
returns-in-Some-next_trigger c = λ W J heard run asks s.
    readied_at W J heard run c.args.self.now s c.args.step (steps.Trigger c.in-Trigger.client) c.in-Trigger.is (trigger_readied W J heard run c.args.self.now s c.in-Trigger.client c.in-Some-next_trigger.trigger c.next_trigger.new.clients c.in-Some-next_trigger.ensures)

pub returns-in-None-next_trigger : goal.returns-in-None-next_trigger
returns-in-None-next_trigger c = λ W J heard run asks s.
    not_ready_at W J heard run c.args.self.now s c.args.step (steps.Trigger c.in-Trigger.client) c.in-Trigger.is (no_trigger_readied W J heard run c.args.self.now s c.in-Trigger.client c.next_trigger.new.clients c.in-None-next_trigger.ensures)

pub returns-else-self-asks : goal.returns-else-self-asks
returns-else-self-asks c = λ W J heard run asks s.
    readied_at W J heard run c.args.self.now s c.args.step steps.Ask c.in-Ask.is
    (ask_readied W J heard run c.args.self.now s c.args.asks.now c.index-asks-self.result (c.args.self.now.asked + 1) asks
    (indexed c.args.asks.now c.args.self.now.asked c.index-asks-self.result c.if-self-asks.false c.index-asks-self.is) refl)
