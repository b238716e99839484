use Rattle.std.proofs.Common.{◌≡◌, ◌+◌, ◌-◌, ◌≤◌, List, [], ◌∷◌, ◌++◌, length, map, take, drop, min, refl, sym, ap, ◌∙◌, subst, arith, take_all}
use Rattle.hs_replay_client.proofs.Prelude.{length-map, Operation, done_behind, Op, operation_of, working_in, replay_client_in, PlainReplayClient, ReplayClientIsAt, WentOn}
use Rattle.std.proofs.lemmas.List.{map_more}
use Rattle.hs_replay_client.proofs.Going.{HasGone, gone_none, gone_more}
use Rattle.hs_replay_client.proofs.Lists.{next_at, part_behind}
use Rattle.hs_replay_client.proofs.Ready.{IsReady, ready}
use Rattle.hs_replay_client.proofs.Standing.{Laws}
use Rattle.hs_replay_client.proofs.Went.{went}
use Rattle.hs_replay_client.proofs.client.ReplayClient.play_from.Goals as goal

pub loop-operation-init : goal.loop-operation-init
loop-operation-init g c = (refl, gone_none g.W.Well.way (working_in c.self.inside.doing) c.args.well.now)

is_ready : (g : _) (c : goal.After-step-arg-in-loop-operation-1 g) → IsReady g.W.Well.way c.args.rules.now (operation_of c.operation-item.result) (working_in c.loop-operation.self-inside.doing) c.loop-operation.well
is_ready g c =
    let w = c.requires in
    let ops = map operation_of c.args.operations.now in
    let n = c.self.inside.done in
    let here = subst (λ (p : PlainReplayClient). ReplayClientIsAt w.settings w.client ops w.drawn w.done w.k w.l w.m p) (sym c.self.view_is) w.at in
    let at = subst (λ d. ReplayClientIsAt w.settings w.client ops w.drawn d w.k w.l w.m (replay_client_in c.self.inside)) (sym here.done_is) here in
    let next = next_at operation_of c.args.operations.now n (c.min-end.result - n) c.loop-operation.operation-index c.operation-item.result c.loop-operation-test.true c.operation-item.is in
    ready g.W.Well.way w.settings w.client ops (map operation_of (take c.loop-operation.operation-index (take (c.min-end.result - n) (drop n c.args.operations.now)))) next.0 (operation_of c.operation-item.result) w.drawn n w.k w.l w.m
    (replay_client_in c.self.inside) (working_in c.loop-operation.self-inside.doing) c.args.rules.now c.args.well.now c.loop-operation.well at w.rules_are w.ready c.loop-operation.invariant.1 next.1

pub step-requires-clause-sound : goal.step-requires-clause-sound
step-requires-clause-sound g c = (is_ready g c).sound

pub step-requires-clause-may : goal.step-requires-clause-may
step-requires-clause-may g c = (is_ready g c).may

pub step-requires-clause-ready : goal.step-requires-clause-ready
step-requires-clause-ready g c = (is_ready g c).ready

pub loop-operation-preserved : goal.loop-operation-preserved
loop-operation-preserved g c =
    let way = g.W.Well.way in
    let part = take (c.min-end.result - c.self.inside.done) (drop c.self.inside.done c.args.operations.now) in
    let i = c.loop-operation.operation-index in
    let op = c.operation-item.result in
    let more : map operation_of (take (i + 1) part) ≡ map operation_of (take i part) ++ operation_of op ∷ [] =
    map_more operation_of part i op c.loop-operation-test.true ∙ ap (λ (o : Op). map operation_of (take i part) ++ operation_of o ∷ []) (sym c.operation-item.is) in (
      c.loop-operation.invariant.0,
      subst (λ (l : List Operation). HasGone way l (working_in c.self.inside.doing) (working_in c.step.new.self) c.args.well.now c.step.new.well) (sym more)
          (gone_more way (map operation_of (take i part)) (operation_of op) (working_in c.self.inside.doing) (working_in c.loop-operation.self-inside.doing) (working_in c.step.new.self) c.args.well.now c.loop-operation.well c.step.new.well
          c.loop-operation.invariant.1 c.in_ok-step.ensures.done c.in_ok-step.ensures.spends),
    )

pub returns : goal.returns
returns g c = λ settings client drawn done k l m at.
    let way = g.W.Well.way in
    let ops = map operation_of c.args.operations.now in
    let n = c.self.inside.done in
    let end = c.min-end.result in
    let part = take (end - n) (drop n c.args.operations.now) in
    let laws : Laws =
    record {
      books = c.any_steps_make_the_book.ensures;
      timely = c.timed_pages_are_timely.ensures;
      handed = c.cores_hand_out_so_far.ensures;
      crumbs = c.the_first_crumbs_are_sent.ensures;
      triggers = c.the_first_triggers_are_sent.ensures;
    } in
    let old = replay_client_in c.self.inside in
    let here = subst (λ (p : PlainReplayClient). ReplayClientIsAt settings client ops drawn done k l m p) (sym c.self.view_is) at in
    let same : n ≡ done = here.done_is in
    let long : length ops ≡ length c.args.operations.now = length-map c.args.operations.now operation_of in
    let end_is : end ≡ done_behind c.args.stride done ops = c.min-end.ensures ∙ ap (λ d. min (d + c.args.stride) (length c.args.operations.now)) same ∙ ap (min (done + c.args.stride)) (sym long) in
    let there = subst (λ d. ReplayClientIsAt settings client ops drawn d k l m old) (sym same) here in
    let all : take c.loop-operation.operation-index part ≡ part = take_all c.loop-operation.operation-index part (omega (arith, c.loop-operation-test.false)) in
    let gone = subst (λ (l' : List Op). HasGone way (map operation_of l') old.works (working_in c.loop-operation.self-inside.doing) c.args.well.now c.loop-operation.well) all c.loop-operation.invariant.1 in
    let low : n ≤ end = omega (arith, c.min-end.ensures, there.within, long) in
    let high : end ≤ length ops = omega (arith, c.min-end.ensures, long) in
    let sum : n + (end - n) ≡ end = omega (arith, low) in
    let parts : take n ops ++ map operation_of part ≡ take end ops = part_behind operation_of c.args.operations.now n (end - n) ∙ ap (λ k'. take k' ops) sum in
    let is = went way laws settings client ops (map operation_of part) drawn n end k l m old (working_in c.loop-operation.self-inside.doing) c.args.well.now c.loop-operation.well there gone high parts in
    let now : PlainReplayClient = record { done = end; works = working_in c.loop-operation.self-inside.doing } in
    subst (λ d. WentOn way settings client ops drawn d k l m c.args.well.now now c.loop-operation.well) end_is is
