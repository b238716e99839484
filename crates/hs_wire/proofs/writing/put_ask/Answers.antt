use Rattle.hs_wire.proofs.Prelude.{ask_bytes}
use Rattle.hs_wire.proofs.Putting.{puts_then}
use Rattle.hs_wire.proofs.writing.put_ask.Goals as goal

pub returns-clause-puts : goal.returns-clause-puts
unfolding ask_bytes
returns-clause-puts c = puts_then c.put_group-at.ensures.puts c.put_laterals.ensures.puts
