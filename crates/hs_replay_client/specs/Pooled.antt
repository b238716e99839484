-- The pool of a node as a well: it is ready while its buffers have the size and stamps are left, and each draw takes the next buffer of
-- its queue, with nothing else at the pool.
use Rattle.std.specs.Prelude.{◌≡◌, ℕ, ◌+◌, ◌<◌, ◌^◌, List, [], ◌∷◌, ◌++◌, map}
use Rattle.hs_records.specs.declared.journal.Draw.{Draw}
use Rattle.hs_pool.specs.Pool.{Pool, IsAfter, HasSize}
use Rattle.hs_client.specs.Draws.{draws_behind, event_drawn}
use Rattle.hs_words.specs.PoolHistory.{PoolEvent}
use Rattle.hs_replay_client.specs.Wells.{Way}

-- So many draws more were made behind this history, and nothing else happened at the pool.
pub record DrewBehind (history : List PoolEvent) (count : ℕ) (drawn : List Draw) (pool : Pool) (drawn' : List Draw) (pool' : Pool) : Type 0 where
  pub draws : drawn' ≡ drawn ++ draws_behind pool.buffers history count
  pub after : IsAfter (history ++ map event_drawn (draws_behind pool.buffers history count)) pool'

-- Nothing but draws happened at the pool, and each is noted.
abbrev pub OnlyDraws : List Draw → Pool → List Draw → Pool → Type 0
OnlyDraws drawn pool drawn' pool' = (history : List PoolEvent) → IsAfter history pool → (count : ℕ) × DrewBehind history count drawn pool drawn' pool'

-- A draw of the pool was made, and is noted so.
pub record DrawsOne (pool : Pool) (draw : Draw) (pool' : Pool) : Type 0 where
  pub only : OnlyDraws [] pool (draw ∷ []) pool'
  pub buffers : pool'.buffers ≡ pool.buffers
  pub sized : (size : ℕ) → HasSize size pool → HasSize size pool'

abbrev pub pool_way : Way Pool
pool_way = record { ready = λ pool size count. HasSize size pool × (pool.events + count < 2 ^ 64); draws = DrawsOne }
