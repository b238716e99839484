use Rattle.std.proofs.Common.{◌+◌}
use Rattle.hs_check_follow.proofs.Prelude.{AtTrigger, HasItems, triggers_at}
use Rattle.hs_check_follow.proofs.Queues.{begins, goes_on, ends, one_item}
use Rattle.hs_check_follow.proofs.Taking.{triggers_fewer}
use Rattle.hs_check_follow.proofs.gathering.take_triggers.Goals as goal

pub loop-trigger-init : goal.loop-trigger-init
loop-trigger-init c = λ w was.
    begins (AtTrigger w c.args.number) (λ items. HasItems items c.args.queue.now.items c.args.numbers.now.items) (triggers_at w) c.args.number c.args.player.now
    (c.items_are_sent_in_order.ensures.triggers w.settings.autos w.ops) was

pub loop-trigger-preserved : goal.loop-trigger-preserved
loop-trigger-preserved c = λ w was.
    let m = c.loop-trigger.invariant w was in
    let took = c.in-Some.ensures w.settings w.client w.ops w.drawn (c.args.number + 1) w.others.0 w.others.1 m.count m.at in
    goes_on (AtTrigger w c.args.number) (λ items. HasItems items c.loop-trigger.queue.items c.loop-trigger.numbers.items) (λ items. HasItems items c.push_back.new.self.items c.append.new.self.items)
    (triggers_at w) c.args.number c.loop-trigger.player c.next_trigger.new.self took.0.item
    (c.items_are_sent_in_order.ensures.triggers w.settings.autos w.ops) m took.0.within took.1
    (λ front own has. one_item front took.0.item c.in-Some.trigger c.args.number c.loop-trigger.queue.items c.push_back.new.self.items c.loop-trigger.numbers.items c.append.new.self.items took.0.is
    c.in_ok-push_back.ensures.items c.in_ok-append.ensures.ok own has)

pub loop-trigger-smaller : goal.loop-trigger-smaller
loop-trigger-smaller c =
    let w = c.requires.0 in
    let m = c.loop-trigger.invariant w c.requires.1 in
    let took = c.in-Some.ensures w.settings w.client w.ops w.drawn (c.args.number + 1) w.others.0 w.others.1 m.count m.at in
    triggers_fewer w c.args.number m.count c.loop-trigger.player c.next_trigger.new.self m.at took.1

pub returns : goal.returns
returns c = λ w was.
    let m = c.loop-trigger.invariant w was in
    let none = c.in_default.ensures w.settings w.client w.ops w.drawn (c.args.number + 1) w.others.0 w.others.1 m.count m.at in
    ends (AtTrigger w c.args.number) (λ items. HasItems items c.loop-trigger.queue.items c.loop-trigger.numbers.items) (triggers_at w) c.args.number c.loop-trigger.player c.next_trigger.new.self m none.0 none.1
