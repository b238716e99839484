use Rattle.std.proofs.Common.{◌≡◌, ℕ, ◌+◌, ◌<◌, ◌≤◌, Bool, List, length, drop, get_or, sym, ap, ◌∙◌, arith}
use Rattle.hs_check_follow.proofs.Prelude.{list_all, drop_all, journal_of, followed, gives_answer, workload_of, FoundNode}
use Rattle.hs_records.specs.declared.setting.Setting.TheVariants as settings
use Rattle.hs_check_follow.proofs.Answering.{answers_told}
use Rattle.hs_check_follow.proofs.Bared.{clients_counted}
use Rattle.hs_check_follow.proofs.Knowing.{known_at, found_counted, nodes_counted}
use Rattle.hs_check_follow.proofs.Ranges.{step_more, step_fails}
use Rattle.hs_check_follow.proofs.answers.has_answers.Goals as goal

pub overflow_cast-node : goal.overflow_cast-node
overflow_cast-node c =
    let same = found_counted (workload_of c.args.workload.now) (journal_of c.args.journal.now) c.args.found.now c.following_plays_out.ensures c.runs_are_of_the_journal.ensures c.requires.followed c.requires.found in
    let nodes = c.requires.valid.head settings.Nodes in
    omega (arith, same, nodes.1, ap length c.as_slice-nodes.ensures)

pub node_answers-requires : goal.node_answers-requires
node_answers-requires c =
    let W = workload_of c.args.workload.now in
    let J = journal_of c.args.journal.now in
    let i = c.loop-node.node in
    let f = c.index-nodes-node.result in
    let k = known_at W J c.args.found.now c.following_plays_out.ensures c.runs_are_of_the_journal.ensures c.requires.followed c.requires.found i f (omega (arith, ap length c.as_slice-nodes.ensures))
    (c.index-nodes-node.is ∙ ap (λ (l : List FoundNode). get_or l i f) c.as_slice-nodes.ensures) in
    let clients = c.requires.valid.head settings.Clients in
    omega (arith, clients_counted W J i f k, clients.1)

pub returns-then-not-branch : goal.returns-then-not-branch
returns-then-not-branch c =
    let W = workload_of c.args.workload.now in
    let J = journal_of c.args.journal.now in
    let i = c.loop-node.node in
    let f = c.index-nodes-node.result in
    let k = known_at W J c.args.found.now c.following_plays_out.ensures c.runs_are_of_the_journal.ensures c.requires.followed c.requires.found i f (omega (arith, ap length c.as_slice-nodes.ensures))
    (c.index-nodes-node.is ∙ ap (λ (l : List FoundNode). get_or l i f) c.as_slice-nodes.ensures) in
    let same = found_counted W J c.args.found.now c.following_plays_out.ensures c.runs_are_of_the_journal.ensures c.requires.followed c.requires.found in
    let (sorted, moved, rises, answer) = c.in_ok-node_answers.ensures in
    let at = answers_told W J c.gives_are_noted.ensures c.following_plays_out.ensures i f k c.requires.stamps (omega (arith, same, ap length c.as_slice-nodes.ensures)) sorted c.in_ok-node_answers.field-0 moved rises answer in
    step_fails gives_answer _ (followed W J).nodes i k.run k.here (sym at ∙ c.if-not-branch.true) c.loop-node.invariant

pub loop-node-preserved : goal.loop-node-preserved
loop-node-preserved c =
    let W = workload_of c.args.workload.now in
    let J = journal_of c.args.journal.now in
    let i = c.loop-node.node in
    let f = c.index-nodes-node.result in
    let k = known_at W J c.args.found.now c.following_plays_out.ensures c.runs_are_of_the_journal.ensures c.requires.followed c.requires.found i f (omega (arith, ap length c.as_slice-nodes.ensures))
    (c.index-nodes-node.is ∙ ap (λ (l : List FoundNode). get_or l i f) c.as_slice-nodes.ensures) in
    let same = found_counted W J c.args.found.now c.following_plays_out.ensures c.runs_are_of_the_journal.ensures c.requires.followed c.requires.found in
    let (sorted, moved, rises, answer) = c.in_ok-node_answers.ensures in
    let at = answers_told W J c.gives_are_noted.ensures c.following_plays_out.ensures i f k c.requires.stamps (omega (arith, same, ap length c.as_slice-nodes.ensures)) sorted c.in_ok-node_answers.field-0 moved rises answer in
    step_more gives_answer _ (followed W J).nodes i k.run k.here (sym at ∙ c.if-not-branch.false) c.loop-node.invariant

pub returns : goal.returns
returns c =
    let W = workload_of c.args.workload.now in
    let J = journal_of c.args.journal.now in
    let many = nodes_counted W J c.args.found.now c.following_plays_out.ensures c.runs_are_of_the_journal.ensures c.requires.followed c.requires.found in
    let same = found_counted W J c.args.found.now c.following_plays_out.ensures c.runs_are_of_the_journal.ensures c.requires.followed c.requires.found in
    sym (ap (list_all gives_answer) (drop_all c.loop-node.node (followed W J).nodes (omega (arith, many, same, ap length c.as_slice-nodes.ensures)))) ∙ c.loop-node.invariant
