use Rattle.hs_run.proofs.Prelude.{IfOk-weaker, workload_of}
use Rattle.hs_run.proofs.running.run.Goals as goal

pub gather-requires : goal.gather-requires
gather-requires g c =
    let (J, books) = c.in_ok-books.ensures in
    (workload_of c.args.workload.now, J, books)

pub returns : goal.returns
returns g c =
    let (J, books) = c.in_ok-books.ensures in
    IfOk-weaker c.gather.result _ _ (λ outcome is. (J, books.lawful, is (workload_of c.args.workload.now) J books)) c.gather.ensures
