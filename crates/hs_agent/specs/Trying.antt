-- What becomes of what is kept when a chunk of a claimed trace comes to the pins, which take it and let go in one call.
use Rattle.std.specs.Prelude.{◌≡◌, List, map, fold, Some}
use Rattle.hs_pins.specs.Remembered.{Remembered, arrived}
use Rattle.hs_pins.specs.Receiving.{received, goes_with}
use Rattle.hs_pins.specs.PinsLayout.{Pinning, Remembers}
use Rattle.hs_agent.specs.declared.placed.Tagged.{Tagged}
use Rattle.hs_agent.specs.declared.hand.ChunkNote.{ChunkNote}
use Rattle.hs_agent.specs.Placing.{Placed, place_of}
use Rattle.hs_agent.specs.Leaving.{with_left}
use Rattle.hs_agent.specs.Parting.{Going}
use Rattle.hs_agent.specs.Keeping.{Kept}
use Rattle.hs_agent.specs.LettingGo.{let_go_all, abandoned_going}

-- the notes where each of these chunks left
abbrev pub lefts_noted : {L : Type 0} → List ChunkNote → List (Going L) → List ChunkNote
lefts_noted {L} marks goings = fold (λ (ms : List ChunkNote) (going : Going L). with_left (place_of going.buffer) (Some going.left) ms) marks goings

-- A chunk of a claimed trace came to the pins, which had these in between.
pub record ComesToPins {L : Type 0} (memory : Remembered (Tagged L)) (placed : Placed L) (old new : Kept L) : Type 0 where
  pub between : Pinning (Tagged L)
  pub arrives : Remembers between (arrived memory placed)
  pub remembers : Remembers new.pins (received memory placed)
  pub gone : new ≡ let_go_all (record old { pins = new.pins }) (map abandoned_going (goes_with memory placed))
