-- Where each buffer of a ring is, as its table shows it: its chunk lies in the slot of an entry, or a seat has it. That seat is
-- a drawer's that drew it, a lease, or the giver's. A lease is a seat of its own.
use Rattle.std.proofs.Common.{zero, refl, sym, ◌∙◌, subst, le_refl}
use Rattle.std.specs.Prelude.{◌≡◌, ℕ, suc, ◌%◌, ◌<◌, ◌≤◌, [], ◌∷◌, length, slice_index, Option, Some, None}
use mathlib.Core.Option.{some, some-injective, some-ne-none}
use lib.ListN.{get_elem?}
use Rattle.atomic_table.specs.Table.{State}
use Rattle.hs_words.specs.Chunks.{Contents, clear_chunk}
use Rattle.hs_words.specs.Seats.{AtSeat}
use Rattle.hs_ring.specs.Views.{nothing, bare, View, drawing, leasing, giving, drawer_seat_of, giver_seat_of, nobody, Has}
use Rattle.hs_ring.specs.Steps.{packed, drawn_of, published_of}

abbrev pub Table : Type 0
Table = State (Option Contents) View

pub data BufferPlace : Type 0 where
  entry : ℕ → BufferPlace
  seat : ℕ → BufferPlace

-- the buffer is there
abbrev pub IsThere : Table → ℕ → BufferPlace → Type 0
IsThere s buffer (entry e) = (chunk : Contents) × (get_elem? s.homes e ≡ some (some (Some chunk))) × (chunk.number ≡ buffer)
IsThere s buffer (seat j) = AtSeat s.views (Has buffer) j

-- the entry's chunk waits for a draw: it is clear, and its number was published and not drawn
pub record Waits (size : ℕ) (s : Table) (buffer e : ℕ) : Type 0 where
  pub number : ℕ
  pub of_entry : e ≡ number % length s.homes
  pub laid : slice_index s.words (suc e) ≡ suc number
  pub not_drawn : drawn_of (slice_index s.words 0) ≤ number
  pub published : number < published_of (slice_index s.words 0)
  pub clear : get_elem? s.homes e ≡ some (some (Some (clear_chunk size buffer)))

-- The buffer is in one place and in no other. Where that is an entry, it waits there for a draw.
pub record IsInOnePlace (size : ℕ) (s : Table) (buffer : ℕ) : Type 0 where
  pub site : BufferPlace
  pub there : IsThere s buffer site
  pub nowhere_else : (other : BufferPlace) → IsThere s buffer other → other ≡ site
  pub waits : (e : ℕ) → site ≡ entry e → Waits size s buffer e

-- ---- examples

-- A ring of two buffers of 64 bytes, with the seats of the giver and a drawer. The first buffer was drawn, and the third seat is
-- its lease. The second waits under the number 1.
abbrev one_lent : Table
one_lent =
    record {
      words = packed 2 1 ∷ 0 ∷ 2 ∷ 0 ∷ 0 ∷ [];
      homes = some None ∷ some (Some (clear_chunk 64 1)) ∷ some None ∷ some None ∷ [];
      views = giving (giver_seat_of nobody) bare ∷ drawing (drawer_seat_of nobody) nothing ∷ leasing 0 0 ∷ [];
    }

the_second_waits : Waits 64 one_lent 1 1
the_second_waits = record { number = 1; of_entry = refl; laid = refl; not_drawn = le_refl 1; published = le_refl 2; clear = refl }

-- the first is with its lease and nowhere else
only_lent : (other : BufferPlace) → IsThere one_lent 0 other → other ≡ seat 2
only_lent (entry zero) (chunk, full, named) = absurd cc
only_lent (entry (suc zero)) (chunk, full, named) = absurd cc
only_lent (entry (suc (suc zero))) (chunk, full, named) = absurd cc
only_lent (entry (suc (suc (suc zero)))) (chunk, full, named) = absurd cc
only_lent (entry (suc (suc (suc (suc e))))) (chunk, full, named) = absurd (some-ne-none (some (Some chunk)) (sym full))
only_lent (seat zero) (v, seen, has) = absurd (subst (Has 0) (sym (some-injective (giving (giver_seat_of nobody) bare) v seen)) has)
only_lent (seat (suc zero)) (v, seen, has) = absurd (subst (Has 0) (sym (some-injective (drawing (drawer_seat_of nobody) nothing) v seen)) has)
only_lent (seat (suc (suc zero))) is = refl
only_lent (seat (suc (suc (suc j)))) (v, seen, has) = absurd (some-ne-none v (sym seen))

the_first_is_lent : IsInOnePlace 64 one_lent 0
the_first_is_lent = record { site = seat 2; there = (leasing 0 0, refl, refl); nowhere_else = only_lent; waits = λ e same. absurd cc }

-- the lease of a buffer that waits would be a second place
abbrev lent_and_waits : Table
lent_and_waits = record { words = one_lent.words; homes = one_lent.homes; views = leasing 1 0 ∷ [] }

not_in_two_places : IsInOnePlace 64 lent_and_waits 1 → ⊥
not_in_two_places is = let both : seat 0 ≡ entry 1 = is.nowhere_else (seat 0) (leasing 1 0, refl, refl) ∙ sym (is.nowhere_else (entry 1) (clear_chunk 64 1, refl, refl)) in absurd cc

-- a buffer that neither an entry nor a seat has is lost
abbrev empty : Table
empty = record { words = []; homes = some None ∷ []; views = [] }

nowhere : (site : BufferPlace) → IsThere empty 0 site → ⊥
nowhere (entry zero) (chunk, full, named) = absurd cc
nowhere (entry (suc e)) (chunk, full, named) = absurd (some-ne-none (some (Some chunk)) (sym full))
nowhere (seat j) (v, seen, has) = absurd (some-ne-none v (sym seen))

not_lost : IsInOnePlace 64 empty 0 → ⊥
not_lost is = nowhere is.site is.there
