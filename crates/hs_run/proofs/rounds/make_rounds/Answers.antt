use Rattle.std.proofs.Common.{◌<◌, ◌-◌, ◌+◌, subst, arith, rules}
use Rattle.hs_run.proofs.Prelude.{serving, MAX_OPERATIONS, workload_of, TellsLeft}
use Rattle.hs_run.proofs.Moments.{met_to}
use Rattle.hs_run.proofs.Rounded.{begin_made, whole_of, stand_of, left_low, made_more, all_rounds}
use Rattle.hs_run.proofs.rounds.make_rounds.Goals as goal

pub rounds-init : goal.rounds-init
rounds-init g c = begin_made c.no_rounds_come.ensures (workload_of c.args.workload.now) c.args.nodes.now.items c.args.coordinator.now c.requires

pub has_left-requires : goal.has_left-requires
has_left-requires g c =
    let W = workload_of c.args.workload.now in
    let h = c.rounds.invariant in
    whole_of W h.moment c.rounds.nodes.items c.rounds.coordinator h.here

pub act-requires : goal.act-requires
act-requires g c = let h = c.rounds.invariant in (first_of (search rules, grind serving), (first_of (search rules, grind serving), record { moment = h.moment; here = h.here; few = h.few }))

pub meet_all-requires : goal.meet_all-requires
meet_all-requires g c =
    let W = workload_of c.args.workload.now in
    let h = c.rounds.invariant in
    let a = c.in_ok-act.ensures h.moment h.here h.few in
    stand_of W a.next c.act.new.nodes.items c.act.new.coordinator a.here

pub move_all-requires : goal.move_all-requires
move_all-requires g c =
    let W = workload_of c.args.workload.now in
    let h = c.rounds.invariant in
    let a = c.in_ok-act.ensures h.moment h.here h.few in
    let b = met_to W a.next c.act.new.nodes.items c.meet_all.new.nodes.items c.act.new.coordinator a.here c.meet_all.ensures in
    (W, b.next, b.here)

pub overflow_add-made : goal.overflow_add-made
overflow_add-made g c =
    let W = workload_of c.args.workload.now in
    let low = left_low W c.rounds.made c.rounds.nodes.items c.rounds.coordinator c.rounds.invariant (subst (TellsLeft W c.rounds.nodes.items) c.rounds-test.true c.has_left.ensures) in
    omega (arith, low)

pub rounds-smaller : goal.rounds-smaller
rounds-smaller g c =
    let W = workload_of c.args.workload.now in
    let low = left_low W c.rounds.made c.rounds.nodes.items c.rounds.coordinator c.rounds.invariant (subst (TellsLeft W c.rounds.nodes.items) c.rounds-test.true c.has_left.ensures) in
    let less : MAX_OPERATIONS - (c.rounds.made + 1) < MAX_OPERATIONS - c.rounds.made = omega (arith, low) in
    less

pub rounds-preserved : goal.rounds-preserved
rounds-preserved g c =
    let W = workload_of c.args.workload.now in
    let h = c.rounds.invariant in
    let a = c.in_ok-act.ensures h.moment h.here h.few in
    let b = met_to W a.next c.act.new.nodes.items c.meet_all.new.nodes.items c.act.new.coordinator a.here c.meet_all.ensures in
    let d = c.in_ok-move_all.ensures W b.next b.here in
    made_more c.rounds_go_on.ensures c.callers_have_sent.ensures W c.rounds.made c.rounds.nodes.items c.act.new.nodes.items c.meet_all.new.nodes.items c.move_all.new.nodes.items c.rounds.coordinator c.act.new.coordinator
    c.move_all.new.coordinator h a b d

pub returns : goal.returns
returns g c =
    let W = workload_of c.args.workload.now in
    all_rounds W c.rounds.made c.rounds.nodes.items c.rounds.coordinator c.rounds.invariant (subst (TellsLeft W c.rounds.nodes.items) c.rounds-test.false c.has_left.ensures)
