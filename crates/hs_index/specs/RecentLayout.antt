-- How the indexed traces lie in a cache, whose entry used last stands first. The number beside it is that of their chunks.
use Rattle.std.specs.Prelude.{◌≡◌, ◌<◌, ◌^◌, length, sum_by}
use Rattle.std.specs.Map.{values_of}
use Rattle.hs_index.specs.declared.recent.Recent.TheInside.{Inside}
use Rattle.hs_index.specs.Index.{chunk_count}
use Rattle.hs_index.specs.Touched.{Touched, listed}

abbrev pub touched_in : {L : Type 0} → Inside L → Touched L
touched_in a = record { room = a.cache.cap; traces = listed a.cache.entries }

pub record IsCounted {L : Type 0} (a : Inside L) : Type 0 where
  pub chunks : a.chunks ≡ sum_by chunk_count (values_of a.cache.entries)
  pub few : length a.cache.entries < 2 ^ 32
