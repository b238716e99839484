use Rattle.std.proofs.Common.{◌≡◌, ◌+◌, ℕ, [], subst, arith}
use Rattle.hs_check_follow.proofs.Prelude.{Listing, Ask}
use Rattle.hs_check_follow.specs.Beginning.{AreNoAsks}
use Rattle.hs_check_follow.proofs.Beginning.{first_none, first_more, first_all}
use Rattle.hs_check_follow.proofs.making.no_asks.Goals as goal

abbrev is_empty : ℕ → Listing Ask → Type 0
is_empty n list = list.items ≡ []

pub loop-node-init : goal.loop-node-init
loop-node-init c = first_all is_empty 0 [] c.new-asks.result.items c.new-asks.ensures.items (first_none is_empty)

pub loop-node-preserved : goal.loop-node-preserved
loop-node-preserved c =
    first_all is_empty (c.loop-node.node + 1) _ c.append.new.self.items c.in_ok-append.ensures.ok (first_more is_empty c.loop-node.node c.loop-node.asks.items c.new.result c.loop-node.invariant c.new.ensures.items)

pub returns : goal.returns
returns c =
    let past = c.loop-node-test.false in
    let most = c.loop-node.auto.node-end in
    let all : c.loop-node.node ≡ c.args.nodes = omega (arith, past, most) in
    subst (λ k. AreNoAsks k c.loop-node.asks.items) all c.loop-node.invariant
