use Rattle.std.proofs.Common.{◌≡◌, ◌+◌, ◌≤◌, List, map, length, min, refl, sym, ap, ◌∙◌, subst, arith}
use Rattle.hs_run_actors.proofs.Prelude.{length-map, AutoRule, settings_of, done_behind, operation_of, PlainClientActor, MayDo, ClientActorIsAt, Goes}
use Rattle.hs_records.proofs.Sizes.{operations_few}
use Rattle.hs_run_actors.proofs.Operations.{stands}
use Rattle.hs_run_actors.proofs.Going.{may_do}
use Rattle.hs_run_actors.proofs.Coming.{HasCome, come_none, come_more, went}
use Rattle.hs_run_actors.proofs.client_actor.ClientActor.perform_next.Goals as goal

pub loop-place-init : goal.loop-place-init
loop-place-init g c = (refl, come_none (settings_of c.args.settings.now) (map operation_of c.args.operations.now) c.self.inside.done c.self.inside.client)

pub overflow_cast-place : goal.overflow_cast-place
overflow_cast-place g c =
    let operations = c.args.operations.now in
    let fewer = operations_few c.args.settings.now.size (map operation_of operations) in
    omega (arith, c.loop-place-test.true, c.min-end.ensures, fewer, length-map operations operation_of, c.requires.1.playable.few)

pub perform-requires : goal.perform-requires
perform-requires g c =
    let settings = settings_of c.args.settings.now in
    let ops = map operation_of c.args.operations.now in
    let start = subst (λ (caller : PlainClientActor). ClientActorIsAt settings c.requires.0 ops caller) (sym c.self.view_is) c.requires.1 in
    let op = operation_of c.index-operations-place.result in
    let client = c.loop-place.self-inside.client in
    let stands_there = stands operation_of c.args.operations.now c.loop-place.place c.index-operations-place.result (omega (arith, c.loop-place-test.true, c.min-end.ensures)) c.index-operations-place.is in
    subst (λ (rules : List AutoRule). MayDo rules op client) (sym c.as_slice-rules.ensures)
    (may_do settings c.requires.0 ops c.loop-place.place op client (c.loop-place.invariant.1.at c.requires.0 start) stands_there)

pub loop-place-preserved : goal.loop-place-preserved
loop-place-preserved g c =
    let settings = settings_of c.args.settings.now in
    let operations = c.args.operations.now in
    let place = c.loop-place.place in
    let stands_there = stands operation_of operations place c.index-operations-place.result (omega (arith, c.loop-place-test.true, c.min-end.ensures)) c.index-operations-place.is in (
      c.loop-place.invariant.0,
      come_more (record { chunks = c.ends_go_on.ensures.chunks; crumbs = c.ends_go_on.ensures.crumbs; triggers = c.ends_go_on.ensures.triggers; drawer = c.ends_go_on.ensures.drawer })
          settings (map operation_of operations) c.self.inside.done place (operation_of c.index-operations-place.result) c.self.inside.client c.loop-place.self-inside.client c.perform.new.client
          c.loop-place.invariant.1 stands_there c.perform.ensures.done c.perform.ensures.uses,
    )

pub returns : goal.returns
returns g c =
    let settings = settings_of c.args.settings.now in
    let operations = c.args.operations.now in
    let ops = map operation_of operations in
    let done = c.self.inside.done in
    let end = c.min-end.result in
    let start = subst (λ (caller : PlainClientActor). ClientActorIsAt settings c.requires.0 ops caller) (sym c.self.view_is) c.requires.1 in
    let long : length ops ≡ length operations = length-map operations operation_of in
    let low : done ≤ end = omega (arith, start.within, long, c.min-end.ensures) in
    let last : c.loop-place.place ≡ end = omega (arith, c.loop-place.auto.place-end low, c.loop-place-test.false) in
    let come = subst (λ place. HasCome settings ops done place c.self.inside.client c.loop-place.self-inside.client) last c.loop-place.invariant.1 in
    let end_is : end ≡ done_behind c.args.settings.now.stride done ops = c.min-end.ensures ∙ ap (min (done + c.args.settings.now.stride)) (sym long) in
    let flushed = c.flush.ensures in
    let new : PlainClientActor = record { done = end; client = c.flush.new.self } in
    subst (λ (old : PlainClientActor). Goes settings ops old new) c.self.view_is
    (went (record { chunks = c.ends_go_on.ensures.chunks; crumbs = c.ends_go_on.ensures.crumbs; triggers = c.ends_go_on.ensures.triggers; drawer = c.ends_go_on.ensures.drawer })
    settings ops done end c.self.inside.client c.loop-place.self-inside.client c.flush.new.self come end_is flushed.chunks flushed.crumbs flushed.triggers flushed.only flushed.does)
