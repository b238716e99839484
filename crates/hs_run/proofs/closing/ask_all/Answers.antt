use Rattle.std.proofs.Common.{◌<◌, ◌+◌, get_or, length, List, refl, sym, ap, subst, arith}
use Rattle.hs_run.proofs.Prelude.{lent_is, lent_from, asked_all, moved_by, asked_by, FirstChanged, IsAsked, PlainClosedAgent, PlainCoordinatorActor}
use Rattle.hs_run.proofs.Asking.{asked_so}
use Rattle.hs_run.proofs.Changed.{first_none, first_more, first_all}
use Rattle.hs_run.proofs.closing.ask_all.Goals as goal

pub loop-number-init : goal.loop-number-init
loop-number-init c = first_none (IsAsked c.args.coordinator.now.asks) c.args.nodes.now.items

pub bounds-as_mut_slice-number : goal.bounds-as_mut_slice-number
bounds-as_mut_slice-number c =
    let low = c.loop-number-test.true in
    let len = c.len-count.ensures in
    let many = c.loop-number.invariant.many in
    let same = c.as_mut_slice.ensures.value in
    subst (λ (l : List PlainClosedAgent). c.loop-number.number < length l) (sym same) (omega (arith, low, len, many))

pub ask-requires : goal.ask-requires
ask-requires c =
    let low = c.loop-number-test.true in
    let len = c.len-count.ensures in
    let few = c.requires.asking.few in
    omega (arith, low, len, few)

pub loop-number-preserved : goal.loop-number-preserved
loop-number-preserved c =
    let n = c.loop-number.number in
    let items = c.loop-number.nodes.items in
    let now = c.as_mut_slice.result.now in
    let low = c.loop-number-test.true in
    let len = c.len-count.ensures in
    let h = c.loop-number.invariant in
    let many = h.many in
    let x = get_or now n c.index-as_mut_slice-number.result in
    let y : PlainClosedAgent = c.ask.new.self in
    let there = lent_from items now n c.index-as_mut_slice-number.result c.as_mut_slice.ensures.value (omega (arith, low, len, many)) in
    let asks = c.args.coordinator.now.asks in
    let only = c.in_ok-ask.ensures.only in
    subst (FirstChanged (IsAsked asks) (n + 1) c.args.nodes.now.items) (sym (lent_is items now n y c.as_mut_slice.ensures.value))
    (first_more (IsAsked asks) n c.args.nodes.now.items items x y h there
    (record { only = record { giver = ap (λ (s : PlainClosedAgent). s.giver) only; said = ap (λ (s : PlainClosedAgent). s.said) only }; shut = c.in_ok-ask.ensures.shut }))

pub returns : goal.returns
returns c = λ W sents heard works first.
    let before = c.args.nodes.now.items in
    let len = c.len-count.ensures in
    let high = c.loop-number-test.false in
    let asks = c.args.coordinator.now.asks in
    let asked = first_all (IsAsked asks) c.loop-number.number before c.loop-number.nodes.items (omega (arith, len, high)) c.loop-number.invariant in
    let coordinates = c.forget_asks.ensures.stands W heard (moved_by first.works) (asked_by first.works) (asked_by (asked_all asks first.works)) first.coordinates (λ n low. refl) in
    (asked_so W sents heard works before c.loop-number.nodes.items c.args.coordinator.now c.forget_asks.new.self first asked coordinates, ap (λ (x : PlainCoordinatorActor). x.asks) c.forget_asks.ensures.only)
