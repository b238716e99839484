use Rattle.std.proofs.Common.{◌≡◌, ℕ, length, Some, sym, ap, subst, ◌∙◌, arith, slice_get}
use Rattle.hs_run.proofs.Prelude.{indexed, get_there, PlainNodeActors, place_of, workload_of, product_few, few_nodes, last_low, CountedFirst}
use Rattle.hs_run.proofs.FewTaken.{few_clients}
use Rattle.hs_run.proofs.TallyCounting.{none_first, one_first}
use Rattle.hs_run.proofs.tallying.count_node.Goals as goal

pub overflow_mul-first : goal.overflow_mul-first
overflow_mul-first c =
    let W = workload_of c.args.workload.now in
    let nodes = few_nodes W c.requires.valid in
    let low = c.requires.low in
    let few = product_few c.args.node W.settings.clients (omega (arith, nodes, low)) (few_clients W c.requires.valid) in
    omega (arith, few)

pub overflow_add-first : goal.overflow_add-first
overflow_add-first c =
    let W = workload_of c.args.workload.now in
    let nodes = few_nodes W c.requires.valid in
    let clients = few_clients W c.requires.valid in
    let node = c.requires.low in
    let few = product_few c.args.node W.settings.clients (omega (arith, nodes, node)) clients in
    let low = c.loop-number-test.true in
    let len = c.len-number-end.ensures in
    let view = ap (λ (s : PlainNodeActors). length s.callers) c.site.view_is in
    let callers = c.requires.many in
    omega (arith, few, clients, low, len, view, callers)

pub loop-number-init : goal.loop-number-init
loop-number-init c = none_first (workload_of c.args.workload.now) c.args.node c.args.site.now.callers c.args.counts.now.items

pub count_client-requires-clause-counted : goal.count_client-requires-clause-counted
count_client-requires-clause-counted c =
    let W = workload_of c.args.workload.now in
    let r = c.requires in
    let last = last_low W r.valid c.args.node r.low in
    let low = c.loop-number-test.true in
    let len = c.len-number-end.ensures in
    let view = ap (λ (s : PlainNodeActors). length s.callers) c.site.view_is in
    let callers = r.many in
    let many = c.loop-number.invariant.many in
    let were = r.counts_are in
    omega (arith, last, low, len, view, callers, many, were)

pub count_client-requires-clause-there : goal.count_client-requires-clause-there
count_client-requires-clause-there c =
    let W = workload_of c.args.workload.now in
    let r = c.requires in
    let last = last_low W r.valid c.args.node r.low in
    let low = c.loop-number-test.true in
    let len = c.len-number-end.ensures in
    let view = ap (λ (s : PlainNodeActors). length s.callers) c.site.view_is in
    let callers = r.many in
    omega (arith, last, low, len, view, callers)

pub count_client-requires-clause-may : goal.count_client-requires-clause-may
count_client-requires-clause-may c = λ count stood.
    let n = c.loop-number.number in
    let items = c.site.inside.callers.items in
    let now = c.as_slice.result.now in
    let low = c.loop-number-test.true in
    let len = c.len-number-end.ensures in
    let caller = c.index-as_slice-number.result in
    let there = indexed items now n caller c.as_slice.ensures (omega (arith, low, len)) c.index-as_slice-number.is in
    let found : slice_get c.args.site.now.callers n ≡ Some caller = sym (ap (λ (s : PlainNodeActors). slice_get s.callers n) c.site.view_is) ∙ there in
    c.requires.each n caller count found (sym (c.loop-number.invariant.behind (place_of (workload_of c.args.workload.now).settings.clients c.args.node n) (omega arith)) ∙ stood)

pub loop-number-preserved : goal.loop-number-preserved
loop-number-preserved c =
    let W = workload_of c.args.workload.now in
    let r = c.requires in
    let n = c.loop-number.number in
    let items = c.site.inside.callers.items in
    let now = c.as_slice.result.now in
    let mid = c.loop-number.counts.items in
    let low = c.loop-number-test.true in
    let len = c.len-number-end.ensures in
    let view = ap (λ (s : PlainNodeActors). length s.callers) c.site.view_is in
    let callers = r.many in
    let many = c.loop-number.invariant.many in
    let were = r.counts_are in
    let last = last_low W r.valid c.args.node r.low in
    let caller = c.index-as_slice-number.result in
    let there = indexed items now n caller c.as_slice.ensures (omega (arith, low, len)) c.index-as_slice-number.is in
    let found : slice_get c.args.site.now.callers n ≡ Some caller = sym (ap (λ (s : PlainNodeActors). slice_get s.callers n) c.site.view_is) ∙ there in
    let (count, stood) = get_there mid (place_of W.settings.clients c.args.node n) (omega (arith, last, low, len, view, callers, many, were)) in
    one_first W c.args.node c.args.site.now.callers c.args.counts.now.items n mid c.count_client.new.counts.items count caller c.loop-number.invariant found stood c.count_client.ensures

pub returns : goal.returns
returns c =
    let W = workload_of c.args.workload.now in
    let high = c.loop-number-test.false in
    let len = c.len-number-end.ensures in
    let view = ap (λ (s : PlainNodeActors). length s.callers) c.site.view_is in
    let callers = c.requires.many in
    let same : c.loop-number.number ≡ W.settings.clients = omega (arith, high, len, view, callers) in
    subst (λ (n : ℕ). CountedFirst W c.args.node n c.args.site.now.callers c.args.counts.now.items c.loop-number.counts.items) same c.loop-number.invariant
