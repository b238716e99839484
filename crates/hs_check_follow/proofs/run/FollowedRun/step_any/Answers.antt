use Rattle.std.proofs.Common.{◌≡◌, List, length, refl, sym, subst, arith}
use Rattle.hs_check_follow.proofs.Prelude.{journal_of, workload_of, NodeSteppedIf, MayHearAt, HearsOn, FollowedNode}
use Rattle.hs_check_follow.proofs.Steps.{Tried, tried_none, tried_more, stepped_behind, heard_done, may_hear}
use Rattle.hs_check_follow.proofs.run.FollowedRun.step_any.Goals as goal

pub loop-node-init : goal.loop-node-init
loop-node-init c = λ run at. tried_none (workload_of c.args.workload.now) (journal_of c.args.journal.now) run c.args.self.now at

pub step_node-requires-clause-node : goal.step_node-requires-clause-node
step_node-requires-clause-node c =
    let W = workload_of c.args.workload.now in
    let (run, at) = c.requires in
    let count = (c.loop-node.invariant run at).count in
    let low = c.loop-node-test.true in
    let end = c.len-node-end.ensures in
    omega (arith, count, low, end)

pub step_node-requires-clause-knows : goal.step_node-requires-clause-knows
step_node-requires-clause-knows c = let W = workload_of c.args.workload.now in let (run, at) = c.requires in (run, (c.loop-node.invariant run at).at)

pub loop-node-preserved : goal.loop-node-preserved
loop-node-preserved c = λ run at.
    let W = workload_of c.args.workload.now in
    let J = journal_of c.args.journal.now in
    let tried = c.loop-node.invariant run at in
    tried_more W J run c.loop-node.node c.args.self.now c.loop-node.self c.step_node.new.self tried
    (subst (NodeSteppedIf W J run c.loop-node.node c.loop-node.self c.step_node.new.self) c.if-branch.false (c.in_ok-step_node.ensures run tried.at))

pub returns-then-branch : goal.returns-then-branch
returns-then-branch c = λ run at.
    let W = workload_of c.args.workload.now in
    let J = journal_of c.args.journal.now in
    let tried = c.loop-node.invariant run at in
    stepped_behind W J run c.args.self.now c.loop-node.self c.step_node.new.self tried.stays
    (subst (NodeSteppedIf W J run c.loop-node.node c.loop-node.self c.step_node.new.self) c.if-branch.true (c.in_ok-step_node.ensures run tried.at))

pub hear-requires : goal.hear-requires
hear-requires c =
    let W = workload_of c.args.workload.now in
    let (run, at) = c.requires in
    let J = journal_of c.args.journal.now in
    let tried = c.loop-node.invariant run at in
    let may = may_hear c.runs_fit.ensures c.runs_are_of_the_journal.ensures W J run c.loop-node.self.nodes.items c.loop-node.self.hearing tried.at c.as_slice-told.result.now c.as_slice-told.ensures in
    (W, J, run, subst (λ (nodes : List FollowedNode). MayHearAt W J run c.as_slice-told.result.now nodes c.loop-node.self.hearing) (sym c.as_slice.ensures) may)

pub returns : goal.returns
returns c = λ run at.
    let W = workload_of c.args.workload.now in
    let J = journal_of c.args.journal.now in
    let tried = c.loop-node.invariant run at in
    let past = c.loop-node-test.false in
    let most = c.loop-node.auto.node-end in
    let end = c.len-node-end.ensures in
    let all : c.loop-node.node ≡ length c.args.self.now.nodes.items = omega (arith, past, most, end) in
    heard_done c.runs_fit.ensures c.runs_are_of_the_journal.ensures W J run c.args.self.now c.loop-node.self
    (subst (λ k. Tried W J run k c.args.self.now c.loop-node.self) all tried) c.as_slice-told.result.now c.as_slice-told.ensures c.hear.new.self c.in_ok-heard.heard
    (subst (λ (nodes : List FollowedNode). HearsOn c.as_slice-told.result.now nodes c.loop-node.self.hearing c.hear.new.self c.in_ok-heard.heard) c.as_slice.ensures c.in_ok-heard.ensures) _ refl refl
