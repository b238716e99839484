use Rattle.hs_wire.proofs.Prelude.{hello_bytes}
use Rattle.hs_wire.proofs.Putting.{puts_then}
use Rattle.hs_wire.proofs.writing.put_hello.Goals as goal

pub returns-clause-puts : goal.returns-clause-puts
unfolding hello_bytes
returns-clause-puts c = puts_then c.put-at.ensures.puts (puts_then c.put_u8-at.ensures.puts c.put.ensures.puts)
