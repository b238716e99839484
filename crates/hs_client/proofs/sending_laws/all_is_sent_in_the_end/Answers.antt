use Rattle.hs_client.proofs.Within.{all_chunks, all_crumbs, all_triggers}
use Rattle.hs_client.proofs.sending_laws.all_is_sent_in_the_end.Goals as goal

pub returns : goal.returns
returns c = record { chunks = all_chunks c.timed_pages_are_timely.ensures; crumbs = all_crumbs; triggers = all_triggers }
