use Rattle.std.proofs.Common.{◌≡◌, ◌+◌, ℕ, [], refl, subst, arith}
use Rattle.hs_check_follow.specs.Beginning.{AreNoCounts}
use Rattle.hs_check_follow.proofs.Beginning.{first_none, first_more, first_all}
use Rattle.hs_check_follow.proofs.making.no_counts.Goals as goal

abbrev is_none : (n count : ℕ) → Type 0
is_none n count = count ≡ 0

pub loop-node-init : goal.loop-node-init
loop-node-init c = first_all is_none 0 [] c.new-counts.result.items c.new-counts.ensures.items (first_none is_none)

pub loop-node-preserved : goal.loop-node-preserved
loop-node-preserved c =
    first_all is_none (c.loop-node.node + 1) _ c.append.new.self.items c.in_ok-append.ensures.ok (first_more is_none c.loop-node.node c.loop-node.counts.items 0 c.loop-node.invariant refl)

pub returns : goal.returns
returns c =
    let past = c.loop-node-test.false in
    let most = c.loop-node.auto.node-end in
    let all : c.loop-node.node ≡ c.args.nodes = omega (arith, past, most) in
    subst (λ k. AreNoCounts k c.loop-node.counts.items) all c.loop-node.invariant
