use Rattle.hs_client.proofs.Within.{first_crumbs}
use Rattle.hs_client.proofs.sending_laws.the_first_crumbs_are_sent.Goals as goal

pub returns : goal.returns
returns c = first_crumbs
