use Rattle.std.proofs.Common.{ℕ, [], ◌∷◌, ap}
use Rattle.hs_wire.proofs.Prelude.{standing_bytes, id_bytes, losses_bytes}
use Rattle.hs_wire.proofs.Putting.{puts_then, puts_as}
use Rattle.hs_wire.proofs.writing.put_standing.Goals as goal

pub returns-clause-puts : goal.returns-clause-puts
unfolding standing_bytes id_bytes losses_bytes
returns-clause-puts c = puts_then (puts_then (puts_then (puts_then (puts_then (puts_then (puts_then c.put_u128-at.ensures.puts c.put_id-at.ensures.puts) (puts_as c.put_u8-at.ensures.puts (ap (λ (n : ℕ). n ∷ []) c.byte_of_wholeness.ensures))) c.put_u32-at.ensures.puts) c.put_u64-at.ensures.puts) c.put_u64-at-2.ensures.puts) c.put_u128-at-2.ensures.puts) c.put_losses.ensures.puts
