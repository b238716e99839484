use Rattle.std.proofs.Common.{◌++◌, arith}
use Rattle.hs_run_actors.proofs.Prelude.{coordinator_actor_of}
use Rattle.hs_run_actors.proofs.Hearing.{none_first, first_more, first_all}
use Rattle.hs_run_actors.proofs.coordinator.hear_all.Goals as goal

pub loop-node-init : goal.loop-node-init
loop-node-init g c = λ W heard moved asked is. none_first W heard moved asked (coordinator_actor_of c.args.coordinator.now c.args.told.now.items c.args.asks.now.items) is

pub hear_node-requires-clause-node : goal.hear_node-requires-clause-node
hear_node-requires-clause-node g c =
    let (W, heard, moved, asked, is) = c.requires in
    let first = c.loop-node.invariant W heard moved asked is in
    let was = is.count in
    let now = first.stands.count in
    omega (arith, was, now)

pub hear_node-requires-clause-stands : goal.hear_node-requires-clause-stands
hear_node-requires-clause-stands g c =
    let (W, heard, moved, asked, is) = c.requires in
    let first = c.loop-node.invariant W heard moved asked is in
    λ _ _. (W, heard ++ first.more, moved, asked, first.stands)

pub loop-node-preserved : goal.loop-node-preserved
loop-node-preserved g c = λ W heard moved asked is.
    let first = c.loop-node.invariant W heard moved asked is in
    first_more W heard moved asked c.loop-node.node (coordinator_actor_of c.loop-node.coordinator c.loop-node.told.items c.loop-node.asks.items) first
    (coordinator_actor_of c.hear_node.new.coordinator c.hear_node.new.told.items c.hear_node.new.asks.items) (c.in_ok-hear_node.ensures W (heard ++ first.more) moved asked first.stands)

pub returns : goal.returns
returns g c = λ W heard moved asked is.
    let first = c.loop-node.invariant W heard moved asked is in
    let was = is.count in
    first_all W heard moved asked c.loop-node.node (coordinator_actor_of c.loop-node.coordinator c.loop-node.told.items c.loop-node.asks.items) first (omega (arith, was))
