use Rattle.std.proofs.Common.{arith, ap, length}
use Rattle.std.proofs.Common.{length-set}
use Rattle.hs_replay.proofs.Heard.{few_nodes, tells_below, heard_one, heard_none}
use Rattle.hs_replay.proofs.coordinator.hear.Goals as goal

pub returns-in_default : goal.returns-in_default
returns-in_default c = λ W m heard all. heard_none c.step_by_step.ensures W m heard c.args.node c.args.nodes.now.items c.args.coordinator.now all c.next_told.new.nodes.items c.in_default.ensures

pub overflow_cast-node : goal.overflow_cast-node
overflow_cast-node c =
    let (W, m, heard, all) = c.requires.all in
    let few = few_nodes W m heard c.args.nodes.now.items c.args.coordinator.now all in
    let low = c.requires.node in
    omega (arith, few, low)

pub step-requires-clause-node : goal.step-requires-clause-node
step-requires-clause-node c =
    let (W, m, heard, all) = c.requires.all in
    let count = all.nodes_are.count in
    let nodes = all.coordinator_is.nodes in
    let low = c.requires.node in
    omega (arith, count, nodes, low)

pub step-requires-clause-crumbs : goal.step-requires-clause-crumbs
step-requires-clause-crumbs c =
    let (W, m, heard, all) = c.requires.all in
    tells_below c.machines_tell_within.ensures W m heard c.args.node c.args.nodes.now.items c.next_told.new.nodes.items c.args.coordinator.now c.in-Some.told all c.in-Some.ensures

pub ask_all-requires : goal.ask_all-requires
ask_all-requires c =
    let (W, m, heard, all) = c.requires.all in
    let few = few_nodes W m heard c.args.nodes.now.items c.args.coordinator.now all in
    let same = ap length c.next_told.ensures.set in
    let long = length-set c.args.nodes.now.items c.args.node c.next_told.ensures.now in
    omega (arith, few, same, long)

pub returns : goal.returns
returns c = λ W m heard all.
    heard_one c.step_by_step.ensures W m heard c.args.node c.args.nodes.now.items c.args.coordinator.now all c.in-Some.told c.next_told.new.nodes.items c.in-Some.ensures c.in_ok-asks.asks
    (c.in_ok-asks.ensures.asks heard all.coordinator_is.taken) c.ask_all.new.nodes.items c.in_ok-ask_all.ensures c.step.new.self (c.in_ok-asks.ensures.taken heard all.coordinator_is.taken) c.in_ok-asks.ensures.nodes
