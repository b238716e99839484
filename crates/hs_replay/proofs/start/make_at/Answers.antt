use Rattle.std.proofs.Common.{◌+◌, ◌-◌, ◌*◌, arith}
use Rattle.hs_replay.proofs.Prelude.{workload_of}
use Rattle.hs_records.proofs.Sizes.{few_nodes}
use Rattle.hs_replay.proofs.Others.{first_few, clients_are}
use Rattle.hs_replay.proofs.start.make_at.Goals as goal

pub overflow_mul-first : goal.overflow_mul-first
overflow_mul-first c =
    let few = first_few (workload_of c.args.workload.now) c.requires.valid c.args.node c.requires.low in
    omega (arith, few)

pub overflow_cast-number : goal.overflow_cast-number
overflow_cast-number c =
    let few = few_nodes (workload_of c.args.workload.now) c.requires.valid in
    let low = c.requires.low in
    omega (arith, few, low)

pub make-requires : goal.make-requires
make-requires c =
    let W = workload_of c.args.workload.now in
    let first = c.args.node * c.args.workload.now.settings.clients in (
      W,
      record {
        valid = c.requires.valid;
        low = c.requires.low;
        are = clients_are c.args.workload.now c.requires.valid c.args.node c.requires.low c.as_slice.result.now c.as_slice.ensures (first + c.args.workload.now.settings.clients - first) (omega arith);
      },
    )

pub returns : goal.returns
returns c =
    let W = workload_of c.args.workload.now in
    let first = c.args.node * c.args.workload.now.settings.clients in
    c.make.ensures W
    (record {
      valid = c.requires.valid;
      low = c.requires.low;
      are = clients_are c.args.workload.now c.requires.valid c.args.node c.requires.low c.as_slice.result.now c.as_slice.ensures (first + c.args.workload.now.settings.clients - first) (omega arith);
    })
