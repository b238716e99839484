use Rattle.hs_live.proofs.Cuts.{draws_trans}
use Rattle.hs_live.proofs.Senders.{goes_trans}
use Rattle.hs_live.proofs.laws.ends_go_on.Goals as goal

pub returns-clause-chunks : goal.returns-clause-chunks
returns-clause-chunks c = goes_trans

pub returns-clause-crumbs : goal.returns-clause-crumbs
returns-clause-crumbs c = goes_trans

pub returns-clause-triggers : goal.returns-clause-triggers
returns-clause-triggers c = goes_trans

pub returns-clause-drawer : goal.returns-clause-drawer
returns-clause-drawer c = draws_trans
