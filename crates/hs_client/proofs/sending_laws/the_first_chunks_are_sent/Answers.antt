use Rattle.hs_client.proofs.Within.{first_chunks}
use Rattle.hs_client.proofs.sending_laws.the_first_chunks_are_sent.Goals as goal

pub returns : goal.returns
returns c = first_chunks c.pages_carry_the_records.ensures
