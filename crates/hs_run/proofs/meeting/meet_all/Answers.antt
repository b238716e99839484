use Rattle.std.proofs.Common.{◌+◌, get_or, sym, subst, ◌∙◌, arith}
use Rattle.hs_run.proofs.Prelude.{lent_is, lent_from, ActingNode, FirstChanged, HasMet}
use Rattle.hs_run.proofs.Changed.{first_none, first_more, first_all}
use Rattle.hs_run.proofs.meeting.meet_all.Goals as goal

pub loop-number-init : goal.loop-number-init
loop-number-init c = first_none HasMet c.args.nodes.now.items

pub meet-requires : goal.meet-requires
meet-requires c =
    let n = c.loop-number.number in
    let items = c.loop-number.nodes.items in
    let now = c.as_mut_slice.result.now in
    let low = c.loop-number-test.true in
    let len = c.len-count.ensures in
    let many = c.loop-number.invariant.many in
    let there = lent_from items now n c.index-as_mut_slice-number.result c.as_mut_slice.ensures.value (omega (arith, low, len, many)) in
    c.requires.each n (get_or now n c.index-as_mut_slice-number.result) (sym (c.loop-number.invariant.others n (omega arith)) ∙ there)

pub loop-number-preserved : goal.loop-number-preserved
loop-number-preserved c =
    let n = c.loop-number.number in
    let items = c.loop-number.nodes.items in
    let now = c.as_mut_slice.result.now in
    let low = c.loop-number-test.true in
    let len = c.len-count.ensures in
    let many = c.loop-number.invariant.many in
    let x = get_or now n c.index-as_mut_slice-number.result in
    let y : ActingNode = record { site = c.meet.new.self; failed = x.failed } in
    let there = lent_from items now n c.index-as_mut_slice-number.result c.as_mut_slice.ensures.value (omega (arith, low, len, many)) in
    subst (FirstChanged HasMet (n + 1) c.args.nodes.now.items) (sym (lent_is items now n y c.as_mut_slice.ensures.value))
    (first_more HasMet n c.args.nodes.now.items items x y c.loop-number.invariant there c.meet.ensures)

pub returns : goal.returns
returns c =
    let len = c.len-count.ensures in
    let high = c.loop-number-test.false in
    first_all HasMet c.loop-number.number c.args.nodes.now.items c.loop-number.nodes.items (omega (arith, len, high)) c.loop-number.invariant
