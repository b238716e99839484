use Rattle.hs_wire.proofs.Prelude.{head_bytes}
use Rattle.hs_wire.proofs.Putting.{puts_then}
use Rattle.hs_wire.proofs.writing.put_head.Goals as goal

pub returns-clause-puts : goal.returns-clause-puts
unfolding head_bytes
returns-clause-puts c = puts_then (puts_then c.put_u64-at.ensures.puts c.put_u64-at-2.ensures.puts) c.put_u16.ensures.puts
