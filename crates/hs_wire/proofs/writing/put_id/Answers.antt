use Rattle.hs_wire.proofs.Prelude.{id_bytes}
use Rattle.hs_wire.proofs.Putting.{puts_then}
use Rattle.hs_wire.proofs.writing.put_id.Goals as goal

pub returns-clause-puts : goal.returns-clause-puts
unfolding id_bytes
returns-clause-puts c = puts_then c.put_u16-at.ensures.puts c.put_u32.ensures.puts
