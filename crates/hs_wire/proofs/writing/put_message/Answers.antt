use Rattle.std.proofs.Common.{ℕ, [], ◌∷◌, ap}
use Rattle.hs_wire.proofs.Prelude.{head_bytes}
use Rattle.hs_wire.proofs.Putting.{puts_then, puts_as}
use Rattle.hs_wire.proofs.writing.put_message.Goals as goal

pub returns-clause-puts : goal.returns-clause-puts
unfolding head_bytes
returns-clause-puts c = puts_then (puts_then (puts_then c.put_u8-at.ensures.puts (puts_as c.put_u8-at-2.ensures.puts (ap (λ (n : ℕ). n ∷ []) c.kind_byte.ensures))) c.put_head-at.ensures.puts) c.put_body.ensures.puts
