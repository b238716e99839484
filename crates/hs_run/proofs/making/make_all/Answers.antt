use Rattle.hs_run.proofs.Prelude.{workload_of}
use Rattle.hs_run.proofs.Begun.{can_begin}
use Rattle.hs_run.proofs.making.make_all.Goals as goal

pub returns : goal.returns
returns c = can_begin (workload_of c.args.workload.now) c.requires c.in_ok-nodes.nodes.items c.in_ok-coordinator.coordinator c.in_ok-nodes.ensures c.in_ok-coordinator.ensures
