-- The parts that are out, in the order in which they were given out, and for how many there are places.
use Rattle.std.specs.Prelude.{ℕ, List}
use Rattle.hs_base.specs.declared.ids.TraceId.{TraceId}
use Rattle.hs_traces.specs.Parts.{Pages}

pub record Shelved : Type 0 where
  pub parts : List (TraceId × Pages)
  pub room : ℕ

abbrev pub shelf_of : List (TraceId × Pages) → ℕ → Shelved
shelf_of parts room = record { parts = parts; room = room }
