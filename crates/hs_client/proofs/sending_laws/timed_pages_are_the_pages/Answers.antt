use Rattle.hs_client.proofs.Timed.{timed_pages_are_the_pages}
use Rattle.hs_client.proofs.sending_laws.timed_pages_are_the_pages.Goals as goal

pub returns : goal.returns
returns c = timed_pages_are_the_pages
