use Rattle.std.proofs.Common.{◌+◌, get_or, sym, ap, subst, ◌∙◌, arith}
use Rattle.hs_run.proofs.Prelude.{same_Some, lent_from, get_there, log_count, ActingNode, FirstChanged, LogCounted}
use Rattle.hs_run.proofs.Changed.{first_none, first_more, first_all}
use Rattle.hs_run.proofs.tallying.count_logs.Goals as goal

pub loop-number-init : goal.loop-number-init
loop-number-init c = first_none (LogCounted c.args.nodes.now.items) c.args.counts.now.items

pub count_log-requires-clause-counted : goal.count_log-requires-clause-counted
count_log-requires-clause-counted c =
    let low = c.loop-number-test.true in
    let len = c.len-number-end.ensures in
    let many = c.loop-number.invariant.many in
    let as_many = c.requires.many in
    omega (arith, low, len, many, as_many)

pub count_log-requires-clause-may : goal.count_log-requires-clause-may
count_log-requires-clause-may c = λ count at.
    let n = c.loop-number.number in
    let now = c.as_slice.result.now in
    let low = c.loop-number-test.true in
    let len = c.len-number-end.ensures in
    let there = lent_from c.args.nodes.now.items now n c.index-as_slice-number.result c.as_slice.ensures (omega (arith, low, len)) in
    c.requires.each n (get_or now n c.index-as_slice-number.result) count there (sym (c.loop-number.invariant.others n (omega arith)) ∙ at)

pub loop-number-preserved : goal.loop-number-preserved
loop-number-preserved c =
    let n = c.loop-number.number in
    let nodes = c.args.nodes.now.items in
    let old = c.args.counts.now.items in
    let mid = c.loop-number.counts.items in
    let now = c.as_slice.result.now in
    let low = c.loop-number-test.true in
    let len = c.len-number-end.ensures in
    let many = c.loop-number.invariant.many in
    let as_many = c.requires.many in
    let node = get_or now n c.index-as_slice-number.result in
    let there = lent_from nodes now n c.index-as_slice-number.result c.as_slice.ensures (omega (arith, low, len)) in
    let (x, stood) = get_there mid n (omega (arith, low, len, many, as_many)) in
    let y = log_count node.site.agent.agent.log in
    subst (FirstChanged (LogCounted nodes) (n + 1) old) (sym c.count_log.ensures)
    (first_more (LogCounted nodes) n old mid x y c.loop-number.invariant stood (λ at there'. ap (λ (z : ActingNode). log_count z.site.agent.agent.log) (same_Some node at (sym there ∙ there'))))

pub returns : goal.returns
returns c =
    let high = c.loop-number-test.false in
    let len = c.len-number-end.ensures in
    let as_many = c.requires.many in
    first_all (LogCounted c.args.nodes.now.items) c.loop-number.number c.args.counts.now.items c.loop-number.counts.items (omega (arith, high, len, as_many)) c.loop-number.invariant
