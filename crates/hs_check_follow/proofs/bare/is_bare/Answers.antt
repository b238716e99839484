use Rattle.std.proofs.Common.{◌≡◌, ℕ, ◌+◌, ◌<◌, ◌≤◌, Bool, List, length, drop, get_or, sym, ap, ◌∙◌, eqb, arith}
use Rattle.hs_check_follow.proofs.Prelude.{count_by, list_all, drop_all, NodeId, NodeSet, has_node, journal_of, is_left_bare, followed, workload_of, FoundNode}
use Rattle.hs_records.specs.declared.setting.Setting.TheVariants as settings
use Rattle.hs_check_follow.proofs.Bared.{bare_is, clients_counted}
use Rattle.hs_check_follow.proofs.Knowing.{known_at, found_counted, nodes_counted}
use Rattle.hs_check_follow.proofs.Ranges.{step_more, step_fails}
use Rattle.hs_check_follow.proofs.bare.is_bare.Goals as goal

pub count_asks-asks-requires : goal.count_asks-asks-requires
count_asks-asks-requires c = let nodes = c.requires.valid.head settings.Nodes in omega (arith, nodes.1)

pub bounds-as_slice-at : goal.bounds-as_slice-at
bounds-as_slice-at c =
    let many = found_counted (workload_of c.args.workload.now) (journal_of c.args.journal.now) c.args.found.now c.following_plays_out.ensures c.runs_are_of_the_journal.ensures c.requires.followed c.requires.found in
    omega (arith, many, ap length c.as_slice-in-loop-node-2.ensures)

pub is_left_bare-requires : goal.is_left_bare-requires
is_left_bare-requires c =
    let W = workload_of c.args.workload.now in
    let J = journal_of c.args.journal.now in
    let i = c.loop-node.node in
    let f = c.index-as_slice-at.result in
    let many = found_counted W J c.args.found.now c.following_plays_out.ensures c.runs_are_of_the_journal.ensures c.requires.followed c.requires.found in
    let k = known_at W J c.args.found.now c.following_plays_out.ensures c.runs_are_of_the_journal.ensures c.requires.followed c.requires.found i f (omega (arith, many))
    (c.index-as_slice-at.is ∙ ap (λ (l : List FoundNode). get_or l i f) c.as_slice-in-loop-node-2.ensures) in
    let clients = c.requires.valid.head settings.Clients in
    omega (arith, clients_counted W J i f k, clients.1)

pub returns-then-not-is_left_bare : goal.returns-then-not-is_left_bare
returns-then-not-is_left_bare c =
    let W = workload_of c.args.workload.now in
    let J = journal_of c.args.journal.now in
    let i = c.loop-node.node in
    let f = c.index-as_slice-at.result in
    let many = found_counted W J c.args.found.now c.following_plays_out.ensures c.runs_are_of_the_journal.ensures c.requires.followed c.requires.found in
    let k = known_at W J c.args.found.now c.following_plays_out.ensures c.runs_are_of_the_journal.ensures c.requires.followed c.requires.found i f (omega (arith, many))
    (c.index-as_slice-at.is ∙ ap (λ (l : List FoundNode). get_or l i f) c.as_slice-in-loop-node-2.ensures) in
    let at = bare_is W J c.args.found.now c.following_plays_out.ensures c.runs_are_of_the_journal.ensures c.requires.followed c.requires.found i f k c.log_of.result.now c.count_asks-asks.result c.count_told-heard.result c.is_left_bare.result
    c.loop-node-test.true c.log_of.ensures (c.count_asks-asks.ensures ∙ ap (count_by (λ (to : NodeSet). has_node to i)) c.as_slice.ensures)
    (c.count_told-heard.ensures ∙ ap (count_by (λ (other : NodeId). eqb other.0 i)) c.as_slice-in-loop-node.ensures) c.is_left_bare.ensures in
    step_fails (is_left_bare (followed W J)) _ (followed W J).nodes i k.run k.here (sym at ∙ c.if-not-is_left_bare.true) c.loop-node.invariant

pub loop-node-preserved : goal.loop-node-preserved
loop-node-preserved c =
    let W = workload_of c.args.workload.now in
    let J = journal_of c.args.journal.now in
    let i = c.loop-node.node in
    let f = c.index-as_slice-at.result in
    let many = found_counted W J c.args.found.now c.following_plays_out.ensures c.runs_are_of_the_journal.ensures c.requires.followed c.requires.found in
    let k = known_at W J c.args.found.now c.following_plays_out.ensures c.runs_are_of_the_journal.ensures c.requires.followed c.requires.found i f (omega (arith, many))
    (c.index-as_slice-at.is ∙ ap (λ (l : List FoundNode). get_or l i f) c.as_slice-in-loop-node-2.ensures) in
    let at = bare_is W J c.args.found.now c.following_plays_out.ensures c.runs_are_of_the_journal.ensures c.requires.followed c.requires.found i f k c.log_of.result.now c.count_asks-asks.result c.count_told-heard.result c.is_left_bare.result
    c.loop-node-test.true c.log_of.ensures (c.count_asks-asks.ensures ∙ ap (count_by (λ (to : NodeSet). has_node to i)) c.as_slice.ensures)
    (c.count_told-heard.ensures ∙ ap (count_by (λ (other : NodeId). eqb other.0 i)) c.as_slice-in-loop-node.ensures) c.is_left_bare.ensures in
    step_more (is_left_bare (followed W J)) _ (followed W J).nodes i k.run k.here (sym at ∙ c.if-not-is_left_bare.false) c.loop-node.invariant

pub returns : goal.returns
returns c =
    let W = workload_of c.args.workload.now in
    let J = journal_of c.args.journal.now in
    let many = nodes_counted W J c.args.found.now c.following_plays_out.ensures c.runs_are_of_the_journal.ensures c.requires.followed c.requires.found in
    sym (ap (list_all (is_left_bare (followed W J))) (drop_all c.loop-node.node (followed W J).nodes (omega (arith, many)))) ∙ c.loop-node.invariant
