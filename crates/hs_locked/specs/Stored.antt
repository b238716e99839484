-- What lies under the lock: the pool, and how often each answer was given. Each turn puts one event behind the history of the
-- pool and counts it. No give misses here.
use Rattle.std.specs.Prelude.{◌≡◌, ℕ, ◌+◌, List, [], ◌∷◌, refl}
use Rattle.hs_words.specs.PoolHistory.{PoolEvent, Got, Empty, Given, Missed}
use Rattle.hs_words.specs.declared.token.Tally.{Tally}
use Rattle.hs_pool.specs.Pool.{Extends, HasSize}
use Rattle.hs_locked.specs.declared.store.Store.{Store}

-- the tally with one event more
abbrev pub with_one : PoolEvent → Tally → Tally
with_one (Got buffer) t = record { gots = t.gots + 1; empties = t.empties; gives = t.gives; misses = t.misses }
with_one Empty t = record { gots = t.gots; empties = t.empties + 1; gives = t.gives; misses = t.misses }
with_one (Given buffer) t = record { gots = t.gots; empties = t.empties; gives = t.gives + 1; misses = t.misses }
with_one Missed t = record { gots = t.gots; empties = t.empties; gives = t.gives; misses = t.misses + 1 }

-- the event that a draw is, by what waits
abbrev pub next_draw : List ℕ → PoolEvent
next_draw [] = Empty
next_draw (buffer ∷ others) = Got buffer

-- The new store is the old one after this event, in a pool whose buffers have this size.
pub record GoesOn (size : ℕ) (old : Store) (event : PoolEvent) (new : Store) : Type 0 where
  pub buffers : new.pool.buffers ≡ old.pool.buffers
  pub after : Extends old.pool event new.pool
  pub sized : HasSize size new.pool
  pub tally : new.tally ≡ with_one event old.tally

-- the tally has one count for each event, and no miss
pub record IsCounted (store : Store) : Type 0 where
  pub each : store.tally.gots + store.tally.empties + store.tally.gives ≡ store.pool.events
  pub none_missed : store.tally.misses ≡ 0

-- ---- examples

draw_of_two : next_draw (1 ∷ 0 ∷ []) ≡ Got 1
draw_of_two = refl

draw_of_none : next_draw [] ≡ Empty
draw_of_none = refl

one_given : with_one (Given 3) (record { gots = 2; empties = 1; gives = 0; misses = 0 }) ≡ record { gots = 2; empties = 1; gives = 1; misses = 0 }
one_given = refl
