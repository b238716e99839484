use Rattle.std.proofs.Common.{◌<◌, ◌+◌, get_or, length, List, sym, subst, arith}
use Rattle.hs_run.proofs.Prelude.{lent_is, lent_from, PlainClosedAgent, Passing}
use Rattle.hs_run.proofs.Passed.{passing_none, passing_more, can_pass, passing_so}
use Rattle.hs_run.proofs.closing.agents_pass.Goals as goal

pub loop-number-init : goal.loop-number-init
loop-number-init c = λ W sents heard works stand. passing_none W sents heard works c.args.nodes.now.items c.args.coordinator.now stand

pub bounds-as_mut_slice-number : goal.bounds-as_mut_slice-number
bounds-as_mut_slice-number c =
    let r = c.requires in
    let low = c.loop-number-test.true in
    let len = c.len-count.ensures in
    let many = (c.loop-number.invariant r.workload r.sents r.heard r.works r.stand).many in
    let same = c.as_mut_slice.ensures.value in
    subst (λ (l : List PlainClosedAgent). c.loop-number.number < length l) (sym same) (omega (arith, low, len, many))

pub pass-requires : goal.pass-requires
pass-requires c =
    let r = c.requires in
    let n = c.loop-number.number in
    let items = c.loop-number.nodes.items in
    let now = c.as_mut_slice.result.now in
    let low = c.loop-number-test.true in
    let len = c.len-count.ensures in
    let h = c.loop-number.invariant r.workload r.sents r.heard r.works r.stand in
    let many = h.many in
    let there = lent_from items now n c.index-as_mut_slice-number.result c.as_mut_slice.ensures.value (omega (arith, low, len, many)) in
    record {
      workload = r.workload;
      sents = r.sents;
      heard = r.heard;
      works = h.works;
      can = can_pass r.workload r.sents r.heard r.works n c.args.nodes.now.items items c.args.coordinator.now c.loop-number.coordinator r.stand h (get_or now n c.index-as_mut_slice-number.result) there (omega (arith, low, len));
    }

pub loop-number-preserved : goal.loop-number-preserved
loop-number-preserved c = λ W sents heard works stand.
    let n = c.loop-number.number in
    let items = c.loop-number.nodes.items in
    let now = c.as_mut_slice.result.now in
    let low = c.loop-number-test.true in
    let len = c.len-count.ensures in
    let h = c.loop-number.invariant W sents heard works stand in
    let many = h.many in
    let x = get_or now n c.index-as_mut_slice-number.result in
    let y : PlainClosedAgent = c.pass.new.node in
    let there = lent_from items now n c.index-as_mut_slice-number.result c.as_mut_slice.ensures.value (omega (arith, low, len, many)) in
    let can = can_pass W sents heard works n c.args.nodes.now.items items c.args.coordinator.now c.loop-number.coordinator stand h x there (omega (arith, low, len)) in
    let passed = c.in_ok-pass.ensures W sents heard h.works can in
    subst (λ (l : List PlainClosedAgent). Passing W sents heard works (n + 1) c.args.nodes.now.items l c.pass.new.coordinator) (sym (lent_is items now n y c.as_mut_slice.ensures.value))
    (passing_more W sents heard works n c.args.nodes.now.items items c.args.coordinator.now c.loop-number.coordinator stand h x there (omega (arith, low, len)) y c.pass.new.coordinator passed)

pub returns : goal.returns
returns c = λ W sents heard works stand.
    let len = c.len-count.ensures in
    let high = c.loop-number-test.false in
    passing_so W sents heard works c.loop-number.number c.args.nodes.now.items c.loop-number.nodes.items c.loop-number.coordinator (omega (arith, len, high)) (c.loop-number.invariant W sents heard works stand)
