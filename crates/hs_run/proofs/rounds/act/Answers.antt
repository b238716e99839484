use Rattle.std.proofs.Common.{◌≡◌, List, sym, subst}
use Rattle.hs_run.proofs.Prelude.{lent_whole, lent_whole_is, workload_of, ActingNode, ActedTo, AllHaveActed, NoneFailed}
use Rattle.hs_run.specs.Nodes.{AllMayAct}
use Rattle.hs_run.proofs.Moments.{node_stands, node_low, coordinates, acted_to}
use Rattle.hs_run.proofs.rounds.act.Goals as goal

pub act_and_hear-requires-clause-hear : goal.act_and_hear-requires-clause-hear
act_and_hear-requires-clause-hear g c κs within =
    let r = c.requires in
    let W = workload_of c.args.workload.now in
    record { workload = W; heard = r.moment.heard; works = r.moment.works; is = coordinates W r.moment c.args.nodes.now.items c.args.coordinator.now r.here }

pub act_and_hear-requires-clause-act : goal.act_and_hear-requires-clause-act
act_and_hear-requires-clause-act g c κs within =
    let r = c.requires in
    let W = workload_of c.args.workload.now in
    subst (AllMayAct c.args.workload.now) (sym c.as_mut_slice.ensures.value)
    (record {
      each = λ n node at.
          let low = node_low W r.moment c.args.nodes.now.items c.args.coordinator.now r.here n node at in
          record { valid = r.here.stands.valid; low = low; work = r.moment.works n; stands = node_stands W r.moment c.args.nodes.now.items c.args.coordinator.now r.here n node at; few = r.few n low };
    })

pub returns : goal.returns
returns g c = λ m here few.
    let w = c.args.workload.now in
    let items = c.args.nodes.now.items in
    let new = c.act_and_hear.new.nodes in
    let acted : AllHaveActed w items new = subst (λ (l : List ActingNode). AllHaveActed w l new) c.as_mut_slice.ensures.value c.in_ok-act_and_hear.ensures.acted in
    let kept : lent_whole items new ≡ new = lent_whole_is items new acted.count in
    let none : NoneFailed new = subst NoneFailed kept (c.has_failed.ensures.none c.if-has_failed.false) in
    subst (λ (l : List ActingNode). ActedTo (workload_of w) m l c.act_and_hear.new.coordinator) (sym kept)
    (acted_to w m items new c.args.coordinator.now c.act_and_hear.new.coordinator here few acted c.in_ok-act_and_hear.ensures.heard none)
