use Rattle.std.proofs.Common.{refl}
use Rattle.hs_workload.proofs.Faultless.{reads_once}
use Rattle.hs_workload.proofs.laws.one_workload_a_text.Goals as goal

pub returns-clause-once : goal.returns-clause-once
returns-clause-once c = reads_once

pub returns-clause-some : goal.returns-clause-some
returns-clause-some c = λ W v. record { valid = v; spelled = refl }
