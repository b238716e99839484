use Rattle.hs_wire.proofs.Prelude.{reported_bytes, group_bytes, id_bytes}
use Rattle.hs_wire.proofs.Putting.{puts_then}
use Rattle.hs_wire.proofs.writing.put_reported.Goals as goal

pub returns-clause-puts : goal.returns-clause-puts
unfolding reported_bytes group_bytes id_bytes
returns-clause-puts c = puts_then (puts_then (puts_then (puts_then c.put_group-at.ensures.puts c.put_u16-at.ensures.puts) c.put_u64-at.ensures.puts) c.put_u16-at-2.ensures.puts) c.put.ensures.puts
