use Rattle.hs_client.proofs.Fitting.{pages_fit}
use Rattle.hs_client.proofs.sending_laws.pages_fit.Goals as goal

pub returns : goal.returns
returns c = pages_fit
