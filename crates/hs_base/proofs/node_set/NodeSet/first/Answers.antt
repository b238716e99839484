use Rattle.std.proofs.Common.{◌<◌, ◌^◌, arith, sym, ◌∙◌}
use Rattle.hs_base.proofs.NodeSetLemmas.{nodes-first, nodes-none}
use Rattle.hs_base.proofs.node_set.NodeSet.first.Goals as goal

pub returns-then-contains-clause-some : goal.returns-then-contains-clause-some
returns-then-contains-clause-some c =
    let fits : c.args.self.0 < 2 ^ 128 = omega arith in
    nodes-first c.args.self (record { 0 = c.loop-number.number }) fits c.loop-number-test.true (sym c.contains.ensures ∙ c.if-contains.true) c.loop-number.invariant

pub returns-clause-none : goal.returns-clause-none
returns-clause-none c = nodes-none c.args.self (λ k below. c.loop-number.invariant k (omega arith))
