use Rattle.std.proofs.Common.{◌≡◌, ℕ, ◌+◌, suc, ap, length, subst, arith}
use Rattle.hs_run.proofs.Prelude.{PlainNodeActors, HaveMet}
use Rattle.hs_run.proofs.Meetings.{none_met, one_more, all_met}
use Rattle.hs_run.proofs.node_actors.NodeActors.meet.Goals as goal

pub loop-number-init : goal.loop-number-init
loop-number-init c = λ W node work stands. none_met W node work c.args.self.now stands

pub meet_one-requires-clause-number : goal.meet_one-requires-clause-number
meet_one-requires-clause-number c =
    let r = c.requires in
    let met = c.loop-number.invariant r.workload r.node r.work r.stands in
    let was = r.stands.count in
    let now = met.stands.count in
    let len = c.len-count.ensures in
    let view = ap (λ (s : PlainNodeActors). length s.callers) c.self.view_is in
    let low = c.loop-number-test.true in
    omega (arith, was, now, len, view, low)

pub meet_one-requires-clause-stands : goal.meet_one-requires-clause-stands
meet_one-requires-clause-stands c =
    let r = c.requires in
    record { workload = r.workload; valid = r.valid; node = r.node; work = r.work; stands = (c.loop-number.invariant r.workload r.node r.work r.stands).stands }

pub loop-number-preserved : goal.loop-number-preserved
loop-number-preserved c = λ W node work stands.
    let met = c.loop-number.invariant W node work stands in
    let next : suc c.loop-number.number ≡ c.loop-number.number + 1 = omega arith in
    subst (λ (k : ℕ). HaveMet W node work k c.args.self.now c.meet_one.new.self) next
    (one_more W node work c.loop-number.number c.args.self.now c.loop-number.self c.meet_one.new.self met (c.meet_one.ensures W node work met.stands))

pub returns : goal.returns
returns c = λ W node work stands.
    let len = c.len-count.ensures in
    let view = ap (λ (s : PlainNodeActors). length s.callers) c.self.view_is in
    let high = c.loop-number-test.false in
    all_met W node work c.loop-number.number c.args.self.now c.loop-number.self (omega (arith, len, view, high)) (c.loop-number.invariant W node work stands)
