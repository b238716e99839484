use Rattle.std.proofs.Common.{◌≡◌, sym, ◌∙◌}
use Rattle.hs_check_follow.proofs.Prelude.{journal_of, node_has_stamps, workload_of}
use Rattle.hs_check_follow.proofs.Ranges.{all_more, all_fails, all_done}
use Rattle.hs_check_follow.proofs.stamps.has_stamps.Goals as goal

pub returns-then-not-branch : goal.returns-then-not-branch
returns-then-not-branch c =
    let at = sym c.in_ok-node_has_stamps.ensures ∙ c.if-not-branch.true in
    all_fails (node_has_stamps (workload_of c.args.workload.now) (journal_of c.args.journal.now)) _ c.loop-node.node c.args.workload.now.settings.nodes c.loop-node-test.true at c.loop-node.invariant

pub loop-node-preserved : goal.loop-node-preserved
loop-node-preserved c =
    let at = sym c.in_ok-node_has_stamps.ensures ∙ c.if-not-branch.false in
    all_more (node_has_stamps (workload_of c.args.workload.now) (journal_of c.args.journal.now)) _ c.loop-node.node c.args.workload.now.settings.nodes c.loop-node-test.true at c.loop-node.invariant

pub returns : goal.returns
returns c =
    all_done (node_has_stamps (workload_of c.args.workload.now) (journal_of c.args.journal.now)) _ c.loop-node.node c.args.workload.now.settings.nodes c.loop-node-test.false c.loop-node.invariant
