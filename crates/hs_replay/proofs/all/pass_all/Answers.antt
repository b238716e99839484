use Rattle.std.proofs.Common.{arith}
use Rattle.hs_replay.proofs.Prelude.{agents_take, agents_give, Takes}
use Rattle.hs_law_run.specs.Reaching.{Gives}
use Rattle.hs_replay.proofs.Others.{between_start, between_more, between_end}
use Rattle.hs_replay.proofs.all.pass_all.Goals as goal

pub loop-node-init : goal.loop-node-init
loop-node-init c = λ W m at. between_start W m (agents_give W (agents_take W m)) c.args.nodes.now.items at

pub pass_at-requires-clause-node : goal.pass_at-requires-clause-node
pass_at-requires-clause-node c =
    let (W, m, at) = c.requires in
    let was = at.nodes_are.count in
    let now = (c.loop-node.invariant W m at).count in
    omega (arith, was, now)

pub pass_at-requires-clause-between : goal.pass_at-requires-clause-between
pass_at-requires-clause-between c = let (W, m, at) = c.requires in (W, m, c.loop-node.invariant W m at)

pub loop-node-preserved : goal.loop-node-preserved
loop-node-preserved c = λ W m at.
    let b = c.loop-node.invariant W m at in
    between_more W m (agents_give W (agents_take W m)) c.loop-node.node c.loop-node.nodes.items c.pass_at.new.nodes.items b (c.in_ok-pass_at.ensures W m b)

pub returns : goal.returns
returns c = λ W m at.
    let b = c.loop-node.invariant W m at in
    let was = at.nodes_are.count in
    let now = b.count in
    between_end W m (agents_give W (agents_take W m)) (Gives (agents_take W m) (Takes m at.reached)) c.loop-node.node c.loop-node.nodes.items (omega (arith, was, now)) b
