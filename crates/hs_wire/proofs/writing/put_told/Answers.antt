use Rattle.std.proofs.Common.{ℕ, [], ◌∷◌, ap}
use Rattle.hs_wire.proofs.Prelude.{told_bytes, group_bytes, id_bytes}
use Rattle.hs_wire.proofs.Putting.{puts_then, puts_as}
use Rattle.hs_wire.proofs.writing.put_told.Goals as goal

pub returns-clause-puts : goal.returns-clause-puts
unfolding told_bytes group_bytes id_bytes
returns-clause-puts c = puts_then (puts_then (puts_then c.put_group-at.ensures.puts (puts_as c.put_u8-at.ensures.puts (ap (λ (n : ℕ). n ∷ []) c.byte_of_why.ensures))) c.put_u128-at.ensures.puts) c.put_laterals.ensures.puts
