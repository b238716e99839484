use Rattle.hs_wire.proofs.Prelude.{losses_bytes}
use Rattle.hs_wire.proofs.Putting.{puts_then}
use Rattle.hs_wire.proofs.writing.put_losses.Goals as goal

pub returns-clause-puts : goal.returns-clause-puts
unfolding losses_bytes
returns-clause-puts c = puts_then (puts_then (puts_then (puts_then (puts_then (puts_then (puts_then (puts_then c.put_u64-at.ensures.puts c.put_u64-at-2.ensures.puts) c.put_u64-at-3.ensures.puts) c.put_u64-at-4.ensures.puts) c.put_u64-at-5.ensures.puts) c.put_u64-at-6.ensures.puts) c.put_u64-at-7.ensures.puts) c.put_u64-at-8.ensures.puts) c.put_u64.ensures.puts
