use Rattle.std.proofs.Common.{refl}
use Rattle.hs_check_follow.proofs.parting.part_agent.Goals as goal

pub returns-clause-found : goal.returns-clause-found
returns-clause-found c = (c.in_ok-clients.ensures.found, refl, refl, refl, refl, refl)
