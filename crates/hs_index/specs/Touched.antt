-- The indexed traces, as they come of a list of what is indexed under each trace, the one touched last first.
use Rattle.std.specs.Prelude.{◌≡◌, ℕ, List, [], ◌∷◌, ◌++◌, reverse, map}
use Rattle.hs_base.specs.declared.ids.TraceId.{TraceId}
use Rattle.hs_index.specs.Index.{PlainIndexedTrace, Indexed}
use Rattle.hs_words.specs.Buffers.{Buffer}

-- the indexed traces, with how many may stand there at a time
pub record Touched (L : Type 0) : Type 0 where
  pub room : ℕ
  pub traces : List (Indexed L)

abbrev pub indexed : {L : Type 0} → TraceId × PlainIndexedTrace L → Indexed L
indexed entry = record { trace = entry.0; noted = entry.1 }

abbrev pub listed : {L : Type 0} → List (TraceId × PlainIndexedTrace L) → List (Indexed L)
listed entries = reverse (map indexed entries)

-- The chunk stands last.
abbrev pub IsLast : {L : Type 0} → List (Buffer L) → Buffer L → Type 0
IsLast {L} chunks last = (earlier : List (Buffer L)) × (chunks ≡ earlier ++ last ∷ [])
