use Rattle.hs_wire.proofs.Prelude.{group_bytes}
use Rattle.hs_wire.proofs.Putting.{puts_then}
use Rattle.hs_wire.proofs.writing.put_group.Goals as goal

pub returns-clause-puts : goal.returns-clause-puts
unfolding group_bytes
returns-clause-puts c = puts_then (puts_then c.put_id-at.ensures.puts c.put_u8-at.ensures.puts) c.put_u128.ensures.puts
