use Rattle.std.proofs.Common.{◌≡◌, sym, subst, List}
use Rattle.hs_run.proofs.Prelude.{on_ok_weaker, lent_whole, lent_whole_is, settings_of, PlainClientActor, PlainNodeActors, NodeActorsStand, AllMayGo, AllHaveGone, site_of, HasActed}
use Rattle.hs_run.proofs.Acted.{may_go, has_acted}
use Rattle.hs_run.proofs.node_actors.NodeActors.act.Goals as goal

pub pass_and_go-requires-clause-go : goal.pass_and_go-requires-clause-go
pass_and_go-requires-clause-go g c κs within =
    let r = c.requires in
    let here : NodeActorsStand r.workload r.node r.work (site_of c.self.inside) = subst (λ (x : PlainNodeActors). NodeActorsStand r.workload r.node r.work x) (sym c.self.view_is) r.stands in
    subst (λ (l : List PlainClientActor). AllMayGo (settings_of c.args.settings.now) c.args.operations.now l) (sym c.as_mut_slice.ensures.value)
    (may_go r.workload r.node r.work c.args.settings.now c.args.operations.now (site_of c.self.inside) here r.clients)

pub returns : goal.returns
returns g c =
    let items = c.self.inside.callers.items in
    let new = c.pass_and_go.new.callers in
    let gone : AllHaveGone (settings_of c.args.settings.now) c.args.operations.now items new =
    subst (λ (l : List PlainClientActor). AllHaveGone (settings_of c.args.settings.now) c.args.operations.now l new) c.as_mut_slice.ensures.value c.pass_and_go.ensures.gone in
    let kept : lent_whole items new ≡ new = lent_whole_is items new gone.count in
    let Acted : PlainNodeActors → List PlainClientActor → Type 0 = λ old callers. HasActed c.args.settings.now c.args.operations.now old (record { callers = callers; agent = c.pass_and_go.new.agent }) in
    on_ok_weaker c.pass_and_go.result
    (λ passed.
    subst (λ (old : PlainNodeActors). Acted old (lent_whole items new)) c.self.view_is
    (subst (Acted (site_of c.self.inside)) (sym kept)
    (has_acted c.args.settings.now c.args.operations.now (site_of c.self.inside) (record { callers = new; agent = c.pass_and_go.new.agent }) passed gone)))
    c.pass_and_go.ensures.passed
