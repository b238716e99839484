use Rattle.std.proofs.Common.{get_or, ap, length, sym, subst, arith}
use Rattle.hs_run.proofs.Prelude.{lent_is, lent_from, client_of, PlainNodeActors, NodeActorsStand, operations_at, place_of, site_of, MeetsOne}
use Rattle.hs_base.proofs.Lent.{lent}
use Rattle.hs_run.proofs.FewTaken.{few_clients}
use Rattle.hs_run.proofs.node_actors.NodeActors.meet_one.Goals as goal

pub overflow_cast-number : goal.overflow_cast-number
overflow_cast-number c =
    let s = c.requires.stands in
    let few = few_clients s.workload s.valid in
    let count = s.stands.count in
    let low = c.requires.number in
    omega (arith, few, count, low)

pub meet-requires : goal.meet-requires
meet-requires c =
    let s = c.requires.stands in
    let items = c.self.inside.callers.items in
    let now = c.as_mut_slice.result.now in
    let view = ap (λ (s : PlainNodeActors). length s.callers) c.self.view_is in
    let low = c.requires.number in
    let there = lent_from items now c.args.number c.index-as_mut_slice-number.result c.as_mut_slice.ensures.value (omega (arith, view, low)) in
    let here : NodeActorsStand s.workload s.node s.work (site_of c.self.inside) = subst (λ (x : PlainNodeActors). NodeActorsStand s.workload s.node s.work x) (sym c.self.view_is) s.stands in
    here.mates c.args.number (get_or now c.args.number c.index-as_mut_slice-number.result) there

pub returns : goal.returns
returns c = λ W node work stands.
    let items = c.self.inside.callers.items in
    let now = c.as_mut_slice.result.now in
    let view = ap (λ (s : PlainNodeActors). length s.callers) c.self.view_is in
    let low = c.requires.number in
    let before = get_or now c.args.number c.index-as_mut_slice-number.result in
    let there = lent_from items now c.args.number c.index-as_mut_slice-number.result c.as_mut_slice.ensures.value (omega (arith, view, low)) in
    let here : NodeActorsStand W node work (site_of c.self.inside) = subst (λ (x : PlainNodeActors). NodeActorsStand W node work x) (sym c.self.view_is) stands in
    let after : PlainNodeActors = record { callers = lent items now c.args.number c.meet.new.caller; agent = c.meet.new.self } in
    subst (λ (x : PlainNodeActors). MeetsOne W node work c.args.number x after) c.self.view_is
    (record {
      before = before;
      after = c.meet.new.caller;
      stood = there;
      callers = lent_is items now c.args.number c.meet.new.caller c.as_mut_slice.ensures.value;
      met = c.meet.ensures.met;
      done = c.meet.ensures.done;
      at = c.meet.ensures.at W.settings (client_of node c.args.number) (operations_at W (place_of W.settings.clients node c.args.number)) (here.callers c.args.number before there);
      manned = c.meet.ensures.manned W work here.agent;
      desk = c.meet.ensures.only;
    })
