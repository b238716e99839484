use Rattle.hs_replay.proofs.Prelude.{lockstep, workload_of}
use Rattle.hs_replay.proofs.Values.{on_ok_value}
use Rattle.hs_replay.proofs.replaying.replay.Goals as goal

pub gather-requires : goal.gather-requires
gather-requires c = let W = workload_of c.args.workload.now in (W, lockstep W, c.in_ok-books.ensures)

pub returns : goal.returns
returns c =
    let W = workload_of c.args.workload.now in
    on_ok_value c.gather.result _ _ c.gather.ensures (λ outcome is. is W (lockstep W) c.in_ok-books.ensures)
