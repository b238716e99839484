use Rattle.std.proofs.Common.{arith}
use Rattle.hs_replay.proofs.Prelude.{workload_of}
use Rattle.hs_records.proofs.Sizes.{few_nodes}
use Rattle.hs_replay.proofs.Started.{coordinator_made}
use Rattle.hs_replay.proofs.start.make_coordinator.Goals as goal

pub make-requires : goal.make-requires
make-requires c =
    let few = few_nodes (workload_of c.args.workload.now) c.requires.valid in
    omega (arith, few)

pub returns : goal.returns
returns c = coordinator_made c.machines_start_so.ensures (workload_of c.args.workload.now) c.args.nodes.now.items c.requires c.make.result c.make.ensures.taken c.make.ensures.nodes
