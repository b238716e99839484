use Rattle.std.specs.Fmt.{digits}
use Rattle.hs_workload.proofs.refusing.refuse_too_long.Goals as goal

pub returns : goal.returns
unfolding digits
returns g c = c.finish.ensures
