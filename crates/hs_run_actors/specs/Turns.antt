-- The turns of a node's giver beside its agent's offers: what a chunk that came is to them, and what the turns of a pass are.
use Rattle.std.specs.Prelude.{◌≡◌, ℕ, ◌≤◌, Bool, true, false, List, ◌++◌}
use Rattle.std.specs.List.{AllByRecursion}
use Rattle.hs_law_journal.specs.Turns.{Lent}
use Rattle.hs_agent.specs.Points.{sheet_in}
use Rattle.hs_ring.specs.Parts.{Leased, Giving}
use Rattle.hs_words.specs.Buffers.{Buffer}
use Rattle.hs_words.specs.Ends.{GiverTurn, answered, unread, met}
use Rattle.hs_words.specs.declared.token.Given.{Given}
use Rattle.hs_words.specs.declared.token.Given.TheVariants as given

-- a chunk as it came, in a buffer
abbrev pub lent_of : Buffer Leased → Lent
lent_of buffer = record { sheet = sheet_in buffer; buffer = buffer.chunk.number; draw = buffer.lease.draw }

-- ---- a giver

-- whether the pool read an offer
abbrev pub was_read : {L : Type 0} {g : _} → Given L g → Bool
was_read (given.Given stamp) = true
was_read (given.Missed held stamp) = true
was_read (given.Unread held) = false

-- an answer to an offer
abbrev pub IsOffer : GiverTurn → Type 0
IsOffer (answered a) = Unit {0}
IsOffer unread = Unit {0}
IsOffer (met stamps) = ⊥

-- The giver is that of the same pool, took turns more, all of them answers to offers, with these stamps. None of them is below the
-- floor, which only rises.
pub record GiverGoesOn (old new : Giving) (stamps : List ℕ) : Type 0 where
  pub pool : new.pool ≡ old.pool
  pub buffers : new.buffers ≡ old.buffers
  pub size : new.size ≡ old.size
  pub drawers : new.drawers ≡ old.drawers
  pub floor : old.floor ≤ new.floor
  pub above : AllByRecursion (λ (stamp : ℕ). old.floor ≤ stamp) stamps
  pub added : List GiverTurn
  pub offers : AllByRecursion IsOffer added
  pub turns : new.turns ≡ added ++ old.turns
