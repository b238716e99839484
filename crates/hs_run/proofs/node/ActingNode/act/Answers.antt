use Rattle.std.proofs.Common.{◌+◌, ◌-◌, ◌*◌, arith}
use Rattle.hs_run.proofs.Prelude.{workload_of}
use Rattle.hs_run.proofs.Clients.{clients_are}
use Rattle.hs_run.proofs.node.ActingNode.act.Goals as goal

pub returns : goal.returns
returns g c = λ _ work stands few.
    let w = c.args.workload.now in
    let first = c.args.number * w.settings.clients in
    c.in_default.ensures.by (workload_of w) c.args.number work stands few
    (clients_are w c.requires.valid c.args.number c.requires.low c.as_slice.result.now c.as_slice.ensures (first + w.settings.clients - first) (omega arith))
