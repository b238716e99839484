use Rattle.std.proofs.Common.{◌≡◌, ℕ, Bool, List, refl, sym, ap, ◌∙◌}
use Rattle.hs_check_follow.proofs.Prelude.{list_all, Step, PlainJournal, journal_of, log_at, is_whole_pass, passes_of, queues_of, PlainWorkload, workload_of}
use Rattle.hs_check_follow.proofs.Ranges.{all_more, all_fails, all_done}
use Rattle.hs_check_follow.proofs.passes.has_passes.Goals as goal

abbrev test : PlainWorkload → PlainJournal → ℕ → Bool
test W J node = list_all (is_whole_pass (queues_of W)) (passes_of (log_at J node))

pub returns-then-not-are_whole : goal.returns-then-not-are_whole
returns-then-not-are_whole c =
    let W = workload_of c.args.workload.now in
    let at = ap (λ (l : List Step). list_all (is_whole_pass (queues_of W)) (passes_of l)) (sym c.log_of.ensures) ∙ sym (c.are_whole.ensures W refl) ∙ c.if-not-are_whole.true in
    all_fails (test W (journal_of c.args.journal.now)) _ c.loop-node.node c.args.workload.now.settings.nodes c.loop-node-test.true at c.loop-node.invariant

pub loop-node-preserved : goal.loop-node-preserved
loop-node-preserved c =
    let W = workload_of c.args.workload.now in
    let at = ap (λ (l : List Step). list_all (is_whole_pass (queues_of W)) (passes_of l)) (sym c.log_of.ensures) ∙ sym (c.are_whole.ensures W refl) ∙ c.if-not-are_whole.false in
    all_more (test W (journal_of c.args.journal.now)) _ c.loop-node.node c.args.workload.now.settings.nodes c.loop-node-test.true at c.loop-node.invariant

pub returns : goal.returns
returns c = all_done (test (workload_of c.args.workload.now) (journal_of c.args.journal.now)) _ c.loop-node.node c.args.workload.now.settings.nodes c.loop-node-test.false c.loop-node.invariant
