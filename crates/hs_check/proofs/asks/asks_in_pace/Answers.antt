use Rattle.std.proofs.Common.{◌≡◌, ℕ, ◌<◌, ◌∷◌, List, length, get_or, sym, ap, ◌∙◌, arith}
use Rattle.hs_check.proofs.Prelude.{list_all, drop_all, NodeId, NodeSet, journal_of, followed, asks_in_pace, workload_of, found_counted, nodes_counted, step_more, step_fails, heard_for, most_passes, asks_behind_each, all_ask_enough, behind_each, is_of}
use Rattle.hs_records.specs.declared.setting.Setting.TheVariants as settings
use Rattle.hs_check.specs.declared.kinds.Kind.TheVariants as kinds
use Rattle.hs_check.proofs.Asked.{node_asks}
use Rattle.hs_check.proofs.asks.asks_in_pace.Goals as goal

pub heard_by_passes-requires : goal.heard_by_passes-requires
heard_by_passes-requires c =
    let many = found_counted (workload_of c.args.workload.now) (journal_of c.args.journal.now) c.args.found.now c.following_plays_out.ensures c.runs_are_of_the_journal.ensures c.requires.followed c.requires.found in
    let nodes = c.requires.valid.head settings.Nodes in
    omega (arith, many, nodes.1, ap length c.as_slice-nodes.ensures)

pub overflow_cast-id : goal.overflow_cast-id
overflow_cast-id c =
    let many = found_counted (workload_of c.args.workload.now) (journal_of c.args.journal.now) c.args.found.now c.following_plays_out.ensures c.runs_are_of_the_journal.ensures c.requires.followed c.requires.found in
    let nodes = c.requires.valid.head settings.Nodes in
    omega (arith, many, nodes.1, ap length c.as_slice-nodes.ensures)

pub takes_asks-requires : goal.takes_asks-requires
takes_asks-requires c =
    let many = found_counted (workload_of c.args.workload.now) (journal_of c.args.journal.now) c.args.found.now c.following_plays_out.ensures c.runs_are_of_the_journal.ensures c.requires.followed c.requires.found in
    let nodes = c.requires.valid.head settings.Nodes in
    omega (arith, many, nodes.1, ap length c.as_slice-nodes.ensures)

pub returns-then-not-branch : goal.returns-then-not-branch
returns-then-not-branch c =
    let W = workload_of c.args.workload.now in
    let J = journal_of c.args.journal.now in
    let founds = c.args.found.now.nodes.items in
    let i = c.loop-node.node in
    let log = c.log_of-log.result.now in
    let counted = c.in_ok-heard.ensures.count ∙ ap most_passes c.as_slice-nodes.ensures in
    let hears : (pass : ℕ) → pass < most_passes founds → get_or c.in_ok-heard.heard.items pass 0 ≡ heard_for J.told pass 0 founds =
    λ pass low. c.in_ok-heard.ensures.each pass (omega (arith, low, ap most_passes c.as_slice-nodes.ensures)) ∙ ap (λ (l : List NodeId). heard_for l pass 0 c.as_slice-nodes.result.now) c.as_slice.ensures
    ∙ ap (heard_for J.told pass 0) c.as_slice-nodes.ensures in
    let answer = c.in_ok-takes_asks.ensures ∙ ap (λ (l : List NodeSet). all_ask_enough (0 ∷ behind_each (is_of kinds.Asks) 0 log) (0 ∷ asks_behind_each i 0 l) c.as_slice-in-loop-node-2.result.now) c.as_slice-in-loop-node.ensures
    ∙ ap (all_ask_enough (0 ∷ behind_each (is_of kinds.Asks) 0 log) (0 ∷ asks_behind_each i 0 c.args.found.now.asked.items)) c.as_slice-in-loop-node-2.ensures.value in
    let at = node_asks W J c.args.found.now c.following_plays_out.ensures c.runs_are_of_the_journal.ensures c.requires.followed c.requires.found i log c.in_ok-heard.heard.items _
    (omega (arith, ap length c.as_slice-nodes.ensures)) c.log_of-log.ensures counted hears answer in
    step_fails (asks_in_pace W.settings (followed W J)) _ (followed W J).nodes i at.run at.here (sym at.is ∙ c.if-not-branch.true) c.loop-node.invariant

pub loop-node-preserved : goal.loop-node-preserved
loop-node-preserved c =
    let W = workload_of c.args.workload.now in
    let J = journal_of c.args.journal.now in
    let founds = c.args.found.now.nodes.items in
    let i = c.loop-node.node in
    let log = c.log_of-log.result.now in
    let counted = c.in_ok-heard.ensures.count ∙ ap most_passes c.as_slice-nodes.ensures in
    let hears : (pass : ℕ) → pass < most_passes founds → get_or c.in_ok-heard.heard.items pass 0 ≡ heard_for J.told pass 0 founds =
    λ pass low. c.in_ok-heard.ensures.each pass (omega (arith, low, ap most_passes c.as_slice-nodes.ensures)) ∙ ap (λ (l : List NodeId). heard_for l pass 0 c.as_slice-nodes.result.now) c.as_slice.ensures
    ∙ ap (heard_for J.told pass 0) c.as_slice-nodes.ensures in
    let answer = c.in_ok-takes_asks.ensures ∙ ap (λ (l : List NodeSet). all_ask_enough (0 ∷ behind_each (is_of kinds.Asks) 0 log) (0 ∷ asks_behind_each i 0 l) c.as_slice-in-loop-node-2.result.now) c.as_slice-in-loop-node.ensures
    ∙ ap (all_ask_enough (0 ∷ behind_each (is_of kinds.Asks) 0 log) (0 ∷ asks_behind_each i 0 c.args.found.now.asked.items)) c.as_slice-in-loop-node-2.ensures.value in
    let at = node_asks W J c.args.found.now c.following_plays_out.ensures c.runs_are_of_the_journal.ensures c.requires.followed c.requires.found i log c.in_ok-heard.heard.items _
    (omega (arith, ap length c.as_slice-nodes.ensures)) c.log_of-log.ensures counted hears answer in
    step_more (asks_in_pace W.settings (followed W J)) _ (followed W J).nodes i at.run at.here (sym at.is ∙ c.if-not-branch.false) c.loop-node.invariant

pub returns : goal.returns
returns c =
    let W = workload_of c.args.workload.now in
    let J = journal_of c.args.journal.now in
    let many = nodes_counted W J c.args.found.now c.following_plays_out.ensures c.runs_are_of_the_journal.ensures c.requires.followed c.requires.found in
    let same = found_counted W J c.args.found.now c.following_plays_out.ensures c.runs_are_of_the_journal.ensures c.requires.followed c.requires.found in
    sym (ap (list_all (asks_in_pace W.settings (followed W J))) (drop_all c.loop-node.node (followed W J).nodes (omega (arith, many, same, ap length c.as_slice-nodes.ensures)))) ∙ c.loop-node.invariant
