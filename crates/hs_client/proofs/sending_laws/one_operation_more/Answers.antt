use Rattle.hs_client.proofs.OneMore.{numbered_last, crumbs_last, triggers_last}
use Rattle.hs_client.proofs.sending_laws.one_operation_more.Goals as goal

pub returns-clause-numbered : goal.returns-clause-numbered
returns-clause-numbered c = numbered_last

pub returns-clause-crumbs : goal.returns-clause-crumbs
returns-clause-crumbs c = crumbs_last

pub returns-clause-triggers : goal.returns-clause-triggers
returns-clause-triggers c = triggers_last
