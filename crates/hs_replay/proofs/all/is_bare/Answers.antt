use Rattle.std.proofs.Common.{List, get_or, arith, sym, ap, ◌∙◌, Some}
use Rattle.hs_replay.proofs.Prelude.{slice_get-get_or, node_at, PlainReplayNode}
use Rattle.hs_replay.proofs.Scheduled.{node_done, bare_not, bare_all, same_or_less, still_at, node_low}
use Rattle.hs_replay.proofs.all.is_bare.Goals as goal

pub returns-then-not-is_bare : goal.returns-then-not-is_bare
returns-then-not-is_bare c = λ W m at done.
    let count = at.nodes_are.count in
    let low = c.loop-node-test.true in
    let items = c.args.nodes.now.items in
    let node = c.index-as_slice-node.result in
    let there = slice_get-get_or items c.loop-node.node node (omega (arith, low)) ∙ ap Some (sym (c.index-as_slice-node.is ∙ ap (λ (l : List PlainReplayNode). get_or l c.loop-node.node node) c.as_slice.ensures)) in
    let stands = at.nodes_are.each c.loop-node.node node there in
    let is = c.is_bare.ensures W m c.loop-node.node (still_at W m items at c.loop-node.node node there) (node_done W at.valid m done c.loop-node.node (omega (arith, low, count))) stands.run stands.at in
    sym (bare_not W m c.loop-node.node stands.run stands.at (sym is ∙ c.if-not-is_bare.true))

pub loop-node-preserved : goal.loop-node-preserved
loop-node-preserved c = λ W m at done n run low found.
    let count = at.nodes_are.count in
    let below = c.loop-node-test.true in
    let items = c.args.nodes.now.items in
    let node = c.index-as_slice-node.result in
    let there = slice_get-get_or items c.loop-node.node node (omega (arith, below)) ∙ ap Some (sym (c.index-as_slice-node.is ∙ ap (λ (l : List PlainReplayNode). get_or l c.loop-node.node node) c.as_slice.ensures)) in
    let still = still_at W m items at c.loop-node.node node there in
    let through = node_done W at.valid m done c.loop-node.node (omega (arith, below, count)) in
    same_or_less n c.loop-node.node low
    (λ less. c.loop-node.invariant W m at done n run less found)
    (λ same. sym (c.is_bare.ensures W m c.loop-node.node still through run (ap (node_at W m.journal) (sym same) ∙ found)) ∙ c.if-not-is_bare.false)

pub returns : goal.returns
returns c = λ W m at done.
    let count = at.nodes_are.count in
    let high = c.loop-node-test.false in
    sym (bare_all W m (λ n run found. let low = node_low c.machines_are_whole.ensures W at.valid m at.reached n run found in c.loop-node.invariant W m at done n run (omega (arith, count, high, low)) found))
