use Rattle.std.proofs.Common.{◌≡◌, ℕ, length, get_or, subst, arith}
use Rattle.hs_run.proofs.Prelude.{lent_from, workload_of, CountedNodes}
use Rattle.hs_run.proofs.TallyCounting.{none_of_nodes, may_next, one_of_nodes}
use Rattle.hs_run.proofs.tallying.count_clients.Goals as goal

pub loop-number-init : goal.loop-number-init
loop-number-init c = none_of_nodes (workload_of c.args.workload.now) c.args.nodes.now.items c.args.counts.now.items

pub count_node-requires : goal.count_node-requires
count_node-requires c =
    let n = c.loop-number.number in
    let items = c.args.nodes.now.items in
    let now = c.as_slice.result.now in
    let low = c.loop-number-test.true in
    let len = c.len-number-end.ensures in
    let there = lent_from items now n c.index-as_slice-number.result c.as_slice.ensures (omega (arith, low, len)) in
    may_next (workload_of c.args.workload.now) items c.args.counts.now.items n (get_or now n c.index-as_slice-number.result) c.loop-number.counts.items c.requires there c.loop-number.invariant

pub loop-number-preserved : goal.loop-number-preserved
loop-number-preserved c =
    let n = c.loop-number.number in
    let items = c.args.nodes.now.items in
    let now = c.as_slice.result.now in
    let low = c.loop-number-test.true in
    let len = c.len-number-end.ensures in
    let there = lent_from items now n c.index-as_slice-number.result c.as_slice.ensures (omega (arith, low, len)) in
    one_of_nodes (workload_of c.args.workload.now) items c.args.counts.now.items n (get_or now n c.index-as_slice-number.result) c.loop-number.counts.items c.count_node.new.counts.items c.requires there c.loop-number.invariant
    c.count_node.ensures

pub returns : goal.returns
returns c =
    let W = workload_of c.args.workload.now in
    let high = c.loop-number-test.false in
    let len = c.len-number-end.ensures in
    let same : c.loop-number.number ≡ length c.args.nodes.now.items = omega (arith, high, len) in
    subst (λ (n : ℕ). CountedNodes W n c.args.nodes.now.items c.args.counts.now.items c.loop-number.counts.items) same c.loop-number.invariant
