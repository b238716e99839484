use Rattle.std.proofs.Common.{◌<◌, ◌≤◌, ◌+◌, get_or, length, List, sym, subst, arith}
use Rattle.hs_run.proofs.Prelude.{lent_is, lent_from, few_nodes, moved_by, asked_by, ActingNode, Moving}
use Rattle.hs_run.proofs.Moments.{node_count}
use Rattle.hs_run.proofs.Moved.{moving_none, moving_more, are_fetched, moved_to}
use Rattle.hs_run.proofs.meeting.move_all.Goals as goal

pub loop-number-init : goal.loop-number-init
loop-number-init c = λ W m here. moving_none W m c.args.nodes.now.items c.args.coordinator.now here

pub bounds-as_mut_slice-number : goal.bounds-as_mut_slice-number
bounds-as_mut_slice-number c =
    let (W, m, here) = c.requires in
    let low = c.loop-number-test.true in
    let len = c.len-count.ensures in
    let many = (c.loop-number.invariant W m here).moved.many in
    let same = c.as_mut_slice.ensures.value in
    subst (λ (l : List ActingNode). c.loop-number.number < length l) (sym same) (omega (arith, low, len, many))

pub exchange-requires-clause-nodes : goal.exchange-requires-clause-nodes
exchange-requires-clause-nodes c =
    let (W, m, here) = c.requires in
    let low = c.loop-number-test.true in
    let len = c.len-count.ensures in
    let count = node_count W m c.args.nodes.now.items c.args.coordinator.now here in
    let few = few_nodes W here.stands.valid in
    omega (arith, low, len, count, few)

pub exchange-requires-clause-told : goal.exchange-requires-clause-told
exchange-requires-clause-told c =
    let (W, m, here) = c.requires in
    let low = c.loop-number-test.true in
    let len = c.len-count.ensures in
    let count = node_count W m c.args.nodes.now.items c.args.coordinator.now here in
    let told = (c.loop-number.invariant W m here).coordinates.count in
    omega (arith, low, len, count, told)

pub loop-number-preserved : goal.loop-number-preserved
loop-number-preserved c = λ W m here.
    let n = c.loop-number.number in
    let items = c.loop-number.nodes.items in
    let now = c.as_mut_slice.result.now in
    let low = c.loop-number-test.true in
    let len = c.len-count.ensures in
    let h = c.loop-number.invariant W m here in
    let many = h.moved.many in
    let x = get_or now n c.index-as_mut_slice-number.result in
    let y : ActingNode = record { site = c.exchange.new.self; failed = x.failed } in
    let there = lent_from items now n c.index-as_mut_slice-number.result c.as_mut_slice.ensures.value (omega (arith, low, len, many)) in
    subst (λ (l : List ActingNode). Moving W m (n + 1) c.args.nodes.now.items l c.exchange.new.coordinator) (sym (lent_is items now n y c.as_mut_slice.ensures.value))
    (moving_more W m n c.args.nodes.now.items items c.loop-number.coordinator c.exchange.new.coordinator x y h there c.in_ok-exchange.ensures)

pub returns : goal.returns
returns c = λ W m here.
    let before = c.args.nodes.now.items in
    let now = c.loop-number.nodes.items in
    let n = c.loop-number.number in
    let len = c.len-count.ensures in
    let past = c.loop-number-test.false in
    let high : length before ≤ n = omega (arith, len, past) in
    let h = c.loop-number.invariant W m here in
    moved_to W m n before now c.args.coordinator.now c.loop-number.coordinator here high h c.forget_asks.new.self c.forget_asks.ensures.only
    (c.forget_asks.ensures.stands W m.heard (moved_by h.works) (asked_by m.works) (asked_by h.works) h.coordinates (are_fetched W m n before now c.args.coordinator.now c.loop-number.coordinator here high h))
