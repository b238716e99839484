-- A chunk with its lease, which contracts see together as a buffer. A lease may name the pool that it is from; the empty lease
-- names none.
use Rattle.std.specs.Prelude.{◌≡◌, Option, Some}
use Rattle.std.specs.Option.{option_map}
use Rattle.hs_words.specs.declared.token.Held.{Held}
use Rattle.hs_words.specs.Pools.{PoolName}
use Rattle.hs_words.specs.Chunks.{Contents}

pub record Buffer (L : Type 0) : Type 0 where
  pub chunk : Contents
  pub lease : L

abbrev pub buffer_of : {L : Type 0} {g : _} → Held L g → Buffer L
buffer_of held = record { chunk = held.chunk; lease = held.lease }

-- the same where there may be none
abbrev pub buffer_in : {L : Type 0} {g : _} → Option (Held L g) → Option (Buffer L)
buffer_in held = option_map buffer_of held

-- A lease names this pool, by what such leases say.
abbrev pub NamesPool : {L : Type 0} → (L → Option PoolName) → PoolName → L → Type 0
NamesPool pool name lease = pool lease ≡ Some name
