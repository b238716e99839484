use Rattle.hs_client.proofs.Timely.{timed_pages_are_timely}
use Rattle.hs_client.proofs.sending_laws.timed_pages_are_timely.Goals as goal

pub returns : goal.returns
returns c = timed_pages_are_timely c.pages_carry_the_records.ensures
