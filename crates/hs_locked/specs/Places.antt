-- Where each buffer of a locked pool is, as its table shows it: it waits in the store, or a seat has it. That seat is a drawer's
-- that drew it, a lease, or the giver's. A lease is a seat of its own. The store is in its slot, or with the seat whose turn it is,
-- which knows it as it was when the turn came.
use Rattle.std.proofs.Common.{refl, sym, ◌∙◌, inl, inr}
use Rattle.std.specs.Prelude.{◌≡◌, ◌⊎◌, ℕ, [], ◌∷◌}
use mathlib.Core.Option.{some, some-ne-none}
use mathlib.Core.Option as maybe
use lib.ListN.{get_elem?}
use Rattle.atomic_table.specs.Table.{State}
use Rattle.hs_pool.specs.Pool.{waiting}
use Rattle.hs_words.specs.Chunks.{clear_chunk}
use Rattle.hs_words.specs.Seats.{AtSeat}
use Rattle.hs_locked.specs.declared.store.Store.{Store}
use Rattle.hs_locked.specs.Views.{nothing, inside, View, nobody, drawing, leasing, drawer_seat_of, Has, HasStore}

abbrev pub Table : Type 0
Table = State Store View

pub data BufferPlace : Type 0 where
  in_line : ℕ → BufferPlace
  seat : ℕ → BufferPlace

-- this is the store of the table
abbrev pub IsStore : Table → Store → Type 0
IsStore s store = (get_elem? s.homes 0 ≡ some (some store)) ⊎ ((j : ℕ) × AtSeat s.views (HasStore store) j)

-- the buffer is there
abbrev pub IsThere : Table → ℕ → BufferPlace → Type 0
IsThere s buffer (in_line i) = (store : Store) × IsStore s store × (get_elem? (waiting store.pool) i ≡ some buffer)
IsThere s buffer (seat j) = AtSeat s.views (Has buffer) j

-- The buffer is in one place and in no other.
pub record IsInOnePlace (s : Table) (buffer : ℕ) : Type 0 where
  pub site : BufferPlace
  pub there : IsThere s buffer site
  pub nowhere_else : (other : BufferPlace) → IsThere s buffer other → other ≡ site

-- ---- examples

-- the first of two buffers waits
abbrev one_waits : Store
one_waits = record { pool = record { buffers = 2; queue = clear_chunk 64 0 ∷ []; events = 1 }; tally = record { gots = 1; empties = 0; gives = 0; misses = 0 } }

-- it does so while a drawer has the store, whose turn it is
abbrev in_turn : Table
in_turn = record { words = 2 ∷ 1 ∷ []; homes = maybe.none ∷ []; views = drawing (drawer_seat_of nobody) nothing (inside one_waits) ∷ leasing 1 0 ∷ [] }

the_first_waits : IsThere in_turn 0 (in_line 0)
the_first_waits = (one_waits, inr (0, (drawing (drawer_seat_of nobody) nothing (inside one_waits), refl, refl)), refl)

the_second_is_lent : IsThere in_turn 1 (seat 1)
the_second_is_lent = (leasing 1 0, refl, refl)

-- the lease of a buffer that waits would be a second place
abbrev lent_and_waits : Table
lent_and_waits = record { words = 1 ∷ 1 ∷ []; homes = some one_waits ∷ []; views = leasing 0 0 ∷ [] }

not_in_two_places : IsInOnePlace lent_and_waits 0 → ⊥
not_in_two_places is = let both : seat 0 ≡ in_line 0 = is.nowhere_else (seat 0) (leasing 0 0, refl, refl) ∙ sym (is.nowhere_else (in_line 0) (one_waits, inl refl, refl)) in absurd cc

-- where neither the slot nor a seat has the store, and no seat has the buffer, it is lost
abbrev empty : Table
empty = record { words = 1 ∷ 1 ∷ []; homes = maybe.none ∷ []; views = [] }

nowhere : (site : BufferPlace) → IsThere empty 0 site → ⊥
nowhere (in_line i) (store, inl is, seen) = let both : some maybe.none ≡ some (some store) = is in absurd cc
nowhere (in_line i) (store, inr (j, (v, at, has)), seen) = absurd (some-ne-none v (sym at))
nowhere (seat j) (v, seen, has) = absurd (some-ne-none v (sym seen))

not_lost : IsInOnePlace empty 0 → ⊥
not_lost is = nowhere is.site is.there
