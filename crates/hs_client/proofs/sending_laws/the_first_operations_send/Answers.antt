use Rattle.hs_client.proofs.FirstOperations.{first_operations_send}
use Rattle.hs_client.proofs.sending_laws.the_first_operations_send.Goals as goal

pub returns : goal.returns
returns c = first_operations_send c.pages_carry_the_records.ensures
