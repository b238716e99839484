use Rattle.std.proofs.Common.{◌+◌}
use Rattle.hs_check_follow.proofs.Prelude.{AtCrumb, HasItems, crumbs_at}
use Rattle.hs_check_follow.proofs.Queues.{begins, goes_on, ends, one_item}
use Rattle.hs_check_follow.proofs.Taking.{crumbs_fewer}
use Rattle.hs_check_follow.proofs.gathering.take_crumbs.Goals as goal

pub loop-crumb-init : goal.loop-crumb-init
loop-crumb-init c = λ w was.
    begins (AtCrumb w c.args.number) (λ items. HasItems items c.args.queue.now.items c.args.numbers.now.items) (crumbs_at w) c.args.number c.args.player.now
    (c.items_are_sent_in_order.ensures.crumbs w.ops) was

pub loop-crumb-preserved : goal.loop-crumb-preserved
loop-crumb-preserved c = λ w was.
    let m = c.loop-crumb.invariant w was in
    let took = c.in-Some.ensures w.settings w.client w.ops w.drawn (c.args.number + 1) w.others.0 m.count w.others.1 m.at in
    goes_on (AtCrumb w c.args.number) (λ items. HasItems items c.loop-crumb.queue.items c.loop-crumb.numbers.items) (λ items. HasItems items c.push_back.new.self.items c.append.new.self.items)
    (crumbs_at w) c.args.number c.loop-crumb.player c.next_crumb.new.self took.0.item
    (c.items_are_sent_in_order.ensures.crumbs w.ops) m took.0.within took.1
    (λ front own has. one_item front took.0.item c.in-Some.crumb c.args.number c.loop-crumb.queue.items c.push_back.new.self.items c.loop-crumb.numbers.items c.append.new.self.items took.0.is
    c.in_ok-push_back.ensures.items c.in_ok-append.ensures.ok own has)

pub loop-crumb-smaller : goal.loop-crumb-smaller
loop-crumb-smaller c =
    let w = c.requires.0 in
    let m = c.loop-crumb.invariant w c.requires.1 in
    let took = c.in-Some.ensures w.settings w.client w.ops w.drawn (c.args.number + 1) w.others.0 m.count w.others.1 m.at in
    crumbs_fewer w c.args.number m.count c.loop-crumb.player c.next_crumb.new.self m.at took.1

pub returns : goal.returns
returns c = λ w was.
    let m = c.loop-crumb.invariant w was in
    let none = c.in_default.ensures w.settings w.client w.ops w.drawn (c.args.number + 1) w.others.0 m.count w.others.1 m.at in
    ends (AtCrumb w c.args.number) (λ items. HasItems items c.loop-crumb.queue.items c.loop-crumb.numbers.items) (crumbs_at w) c.args.number c.loop-crumb.player c.next_crumb.new.self m none.0 none.1
