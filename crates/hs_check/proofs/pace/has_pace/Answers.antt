use Rattle.std.proofs.Common.{List, length, get_or, sym, ap, ◌∙◌, arith}
use Rattle.hs_check.proofs.Prelude.{◌&&◌, list_all, drop_all, journal_of, followed, asks_in_pace, workload_of, FoundNode, clients_counted, known_at, found_counted, nodes_counted, lists_are, step_more, step_fails}
use Rattle.hs_records.specs.declared.setting.Setting.TheVariants as settings
use Rattle.hs_check.proofs.Paced.{keeps_pace, parts_are}
use Rattle.hs_check.proofs.pace.has_pace.Goals as goal

pub overflow_cast-node : goal.overflow_cast-node
overflow_cast-node c =
    let many = found_counted (workload_of c.args.workload.now) (journal_of c.args.journal.now) c.args.found.now c.following_plays_out.ensures c.runs_are_of_the_journal.ensures c.requires.followed c.requires.found in
    let nodes = c.requires.valid.head settings.Nodes in
    omega (arith, many, nodes.1, ap length c.as_slice-nodes.ensures)

pub keeps_pace-requires-clause-node : goal.keeps_pace-requires-clause-node
keeps_pace-requires-clause-node c =
    let many = found_counted (workload_of c.args.workload.now) (journal_of c.args.journal.now) c.args.found.now c.following_plays_out.ensures c.runs_are_of_the_journal.ensures c.requires.followed c.requires.found in
    omega (arith, many, ap length c.as_slice-nodes.ensures)

pub keeps_pace-requires-clause-few : goal.keeps_pace-requires-clause-few
keeps_pace-requires-clause-few c =
    let W = workload_of c.args.workload.now in
    let J = journal_of c.args.journal.now in
    let i = c.loop-node.node in
    let f = c.index-nodes-node.result in
    let k = known_at W J c.args.found.now c.following_plays_out.ensures c.runs_are_of_the_journal.ensures c.requires.followed c.requires.found i f (omega (arith, ap length c.as_slice-nodes.ensures))
    (c.index-nodes-node.is ∙ ap (λ (l : List FoundNode). get_or l i f) c.as_slice-nodes.ensures) in
    let clients = c.requires.valid.head settings.Clients in
    omega (arith, clients_counted W J i f k, clients.1)

pub returns-then-not-branch : goal.returns-then-not-branch
returns-then-not-branch c =
    let W = workload_of c.args.workload.now in
    let J = journal_of c.args.journal.now in
    let R = followed W J in
    let i = c.loop-node.node in
    let f = c.index-nodes-node.result in
    let k = known_at W J c.args.found.now c.following_plays_out.ensures c.runs_are_of_the_journal.ensures c.requires.followed c.requires.found i f (omega (arith, ap length c.as_slice-nodes.ensures))
    (c.index-nodes-node.is ∙ ap (λ (l : List FoundNode). get_or l i f) c.as_slice-nodes.ensures) in
    let at = c.in_ok-keeps_pace.ensures k.run (sym (lists_are W J i f k)) k.log k.is in
    ap (λ b. b && list_all (asks_in_pace W.settings R) R.nodes) (step_fails (keeps_pace W.settings) _ R.nodes i k.run k.here (sym at ∙ c.if-not-branch.true) c.loop-node.invariant)
    ∙ parts_are W.settings R R.nodes

pub loop-node-preserved : goal.loop-node-preserved
loop-node-preserved c =
    let W = workload_of c.args.workload.now in
    let J = journal_of c.args.journal.now in
    let i = c.loop-node.node in
    let f = c.index-nodes-node.result in
    let k = known_at W J c.args.found.now c.following_plays_out.ensures c.runs_are_of_the_journal.ensures c.requires.followed c.requires.found i f (omega (arith, ap length c.as_slice-nodes.ensures))
    (c.index-nodes-node.is ∙ ap (λ (l : List FoundNode). get_or l i f) c.as_slice-nodes.ensures) in
    let at = c.in_ok-keeps_pace.ensures k.run (sym (lists_are W J i f k)) k.log k.is in
    step_more (keeps_pace W.settings) _ (followed W J).nodes i k.run k.here (sym at ∙ c.if-not-branch.false) c.loop-node.invariant

pub returns : goal.returns
returns c =
    let W = workload_of c.args.workload.now in
    let J = journal_of c.args.journal.now in
    let R = followed W J in
    let many = nodes_counted W J c.args.found.now c.following_plays_out.ensures c.runs_are_of_the_journal.ensures c.requires.followed c.requires.found in
    let same = found_counted W J c.args.found.now c.following_plays_out.ensures c.runs_are_of_the_journal.ensures c.requires.followed c.requires.found in
    let whole = sym (ap (list_all (keeps_pace W.settings)) (drop_all c.loop-node.node R.nodes (omega (arith, many, same, ap length c.as_slice-nodes.ensures)))) ∙ c.loop-node.invariant in
    c.in_ok-asks.ensures ∙ ap (λ b. b && list_all (asks_in_pace W.settings R) R.nodes) whole ∙ parts_are W.settings R R.nodes
