use Rattle.std.proofs.Common.{ap, arith}
use Rattle.hs_run.proofs.Prelude.{PlainCoordinatorActor, with_events}
use Rattle.hs_run.proofs.Passed.{passed_one}
use Rattle.hs_run.proofs.closing.pass.Goals as goal

pub pass-requires : goal.pass-requires
pass-requires c =
    let r = c.requires in
    (r.workload, r.works c.args.number, r.sents c.args.number, r.can.stands.is, r.can.few c.args.number (r.works c.args.number) c.args.node.now r.can.low r.can.stands)

pub tell-requires : goal.tell-requires
tell-requires c =
    let low = c.requires.can.low in
    let count = c.requires.can.coordinates.count in
    omega (arith, low, count)

pub returns : goal.returns
returns c = λ W sents heard works can.
    let n = c.args.number in
    let passed = c.in_ok-pass.ensures W (works n) (sents n) can.stands.is (can.few n (works n) c.args.node.now can.low can.stands) in
    let told = c.in_ok-tell.ensures in
    let both = told.shut W (with_events passed.0 passed.1 (works n)) (sents n) passed.2.stands in
    passed_one W n sents heard works c.args.node.now c.args.coordinator.now c.pass.new.self c.tell.new.self c.tell.new.coordinator can passed told.only (ap (λ (x : PlainCoordinatorActor). x.asks) told.coordinator) both.0 both.1
