use Rattle.std.proofs.Common.{◌≡◌, ℕ, ◌+◌, ◌<◌, ◌≤◌, Bool, List, length, drop, get_or, sym, ap, ◌∙◌, arith}
use Rattle.hs_check_follow.proofs.Prelude.{list_all, drop_all, Step, journal_of, followed, offers_end, passes_of, settings_of, workload_of, FoundNode, ends_through}
use Rattle.hs_check_follow.proofs.Knowing.{KnownAt, known_at, found_as_many, found_counted, nodes_counted}
use Rattle.hs_check_follow.proofs.Offered.{offers_are, hands_counted}
use Rattle.hs_check_follow.proofs.Ranges.{step_more, step_fails}
use Rattle.hs_check_follow.proofs.offers.has_offers.Goals as goal

pub offers_end-requires : goal.offers_end-requires
offers_end-requires c =
    let W = workload_of c.args.workload.now in
    let J = journal_of c.args.journal.now in
    let i = c.loop-node.node in
    let f = c.index-nodes-node.result in
    let k = known_at W J c.args.found.now c.following_plays_out.ensures c.runs_are_of_the_journal.ensures c.requires.followed c.requires.found i f (omega (arith, ap length c.as_slice-nodes.ensures))
    (c.index-nodes-node.is ∙ ap (λ (l : List FoundNode). get_or l i f) c.as_slice-nodes.ensures) in
    ap length (c.as_slice.ensures ∙ sym (ap (λ (n : FoundNode). n.hands.items) c.index-nodes-node.is)) ∙ hands_counted W.settings k.run c.log_of.result.now f.hands.items (k.log ∙ sym c.log_of.ensures) k.is.hands

pub returns-then-not-offers_end : goal.returns-then-not-offers_end
returns-then-not-offers_end c =
    let W = workload_of c.args.workload.now in
    let J = journal_of c.args.journal.now in
    let i = c.loop-node.node in
    let f = c.index-nodes-node.result in
    let k = known_at W J c.args.found.now c.following_plays_out.ensures c.runs_are_of_the_journal.ensures c.requires.followed c.requires.found i f (omega (arith, ap length c.as_slice-nodes.ensures))
    (c.index-nodes-node.is ∙ ap (λ (l : List FoundNode). get_or l i f) c.as_slice-nodes.ensures) in
    let at = c.offers_end.ensures ∙ ap (ends_through c.log_of.result.now) (c.as_slice.ensures ∙ sym (ap (λ (n : FoundNode). n.hands.items) c.index-nodes-node.is)) ∙ offers_are W.settings k.run c.log_of.result.now f.hands.items (k.log ∙ sym c.log_of.ensures) k.is.hands in
    step_fails (offers_end W.settings) _ (followed W J).nodes i k.run k.here (sym at ∙ c.if-not-offers_end.true) c.loop-node.invariant

pub loop-node-preserved : goal.loop-node-preserved
loop-node-preserved c =
    let W = workload_of c.args.workload.now in
    let J = journal_of c.args.journal.now in
    let i = c.loop-node.node in
    let f = c.index-nodes-node.result in
    let k = known_at W J c.args.found.now c.following_plays_out.ensures c.runs_are_of_the_journal.ensures c.requires.followed c.requires.found i f (omega (arith, ap length c.as_slice-nodes.ensures))
    (c.index-nodes-node.is ∙ ap (λ (l : List FoundNode). get_or l i f) c.as_slice-nodes.ensures) in
    let at = c.offers_end.ensures ∙ ap (ends_through c.log_of.result.now) (c.as_slice.ensures ∙ sym (ap (λ (n : FoundNode). n.hands.items) c.index-nodes-node.is)) ∙ offers_are W.settings k.run c.log_of.result.now f.hands.items (k.log ∙ sym c.log_of.ensures) k.is.hands in
    step_more (offers_end W.settings) _ (followed W J).nodes i k.run k.here (sym at ∙ c.if-not-offers_end.false) c.loop-node.invariant

pub returns : goal.returns
returns c =
    let W = workload_of c.args.workload.now in
    let J = journal_of c.args.journal.now in
    let many = nodes_counted W J c.args.found.now c.following_plays_out.ensures c.runs_are_of_the_journal.ensures c.requires.followed c.requires.found in
    let same = found_counted W J c.args.found.now c.following_plays_out.ensures c.runs_are_of_the_journal.ensures c.requires.followed c.requires.found in
    sym (ap (list_all (offers_end W.settings)) (drop_all c.loop-node.node (followed W J).nodes (omega (arith, many, same, ap length c.as_slice-nodes.ensures)))) ∙ c.loop-node.invariant
