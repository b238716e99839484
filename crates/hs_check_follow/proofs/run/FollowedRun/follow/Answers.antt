use Rattle.std.proofs.Common.{subst}
use Rattle.hs_check_follow.proofs.Prelude.{journal_of, workload_of, SteppedAnyIf}
use Rattle.hs_check_follow.proofs.Steps.{rests_there}
use Rattle.hs_check_follow.proofs.run.FollowedRun.follow.Goals as goal

pub steps-init : goal.steps-init
steps-init c = λ run at. (run, at)

pub step_any-requires : goal.step_any-requires
step_any-requires c = let W = workload_of c.args.workload.now in let (run, at) = c.requires in let now = c.steps.invariant run at in (now.0, now.1)

pub steps-smaller : goal.steps-smaller
steps-smaller c =
    let W = workload_of c.args.workload.now in
    let (run, at) = c.requires in
    let now = c.steps.invariant run at in
    (subst (SteppedAnyIf W (journal_of c.args.journal.now) now.0 c.steps.self c.step_any.new.self) c.if-branch.true (c.in_ok-step_any.ensures now.0 now.1)).falls

pub steps-preserved : goal.steps-preserved
steps-preserved c = λ run at.
    let W = workload_of c.args.workload.now in
    let now = c.steps.invariant run at in
    let s = subst (SteppedAnyIf W (journal_of c.args.journal.now) now.0 c.steps.self c.step_any.new.self) c.if-branch.true (c.in_ok-step_any.ensures now.0 now.1) in
    (s.next, s.at)

pub returns : goal.returns
returns c = λ run at.
    let W = workload_of c.args.workload.now in
    let now = c.steps.invariant run at in
    rests_there c.orders_agree.ensures W (journal_of c.args.journal.now) now.0 c.step_any.new.self
    (subst (SteppedAnyIf W (journal_of c.args.journal.now) now.0 c.steps.self c.step_any.new.self) c.if-branch.false (c.in_ok-step_any.ensures now.0 now.1))
