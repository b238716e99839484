-- What is known of a port between calls.
use Rattle.std.specs.Prelude.{◌≡◌, ℕ, length}
use Rattle.hs_words.specs.declared.token.Held.{Held}
use Rattle.hs_ring.specs.Parts.{Leased}
use Rattle.hs_live.specs.Live.{Port}

-- The chunk is one of the port's pool.
abbrev pub IsOfPool : {g : _} → Port → Held Leased g → Type 0
IsOfPool port held = (held.lease.pool ≡ port.giver.pool) × (held.chunk.size ≡ port.giver.size)

-- The port has the same pool and as many clients.
pub record KeepsPort (old new : Port) : Type 0 where
  pub pool : new.giver.pool ≡ old.giver.pool
  pub size : new.giver.size ≡ old.giver.size
  pub clients : length new.chunks ≡ length old.chunks
