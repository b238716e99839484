-- A chunk that leaves, with why it does, as the hand has it.
use Rattle.std.specs.Prelude.{List, map}
use Rattle.hs_words.specs.Buffers.{buffer_of}
use Rattle.hs_agent.specs.declared.hand.Left.{Left}
use Rattle.hs_agent.specs.declared.hand.Parting.{Parting}
use Rattle.hs_agent.specs.declared.hand.SentChunk.{SentChunk}
use Rattle.hs_agent.specs.declared.placed.Tagged.{Tagged}
use Rattle.hs_pins.specs.Remembered.{Pin}
use Rattle.hs_agent.specs.Placing.{Placed, placed_at}

-- a chunk that is let go, and why
pub record Going (L : Type 0) : Type 0 where
  pub buffer : Placed L
  pub left : Left

abbrev pub going_of : {L : Type 0} {g : _} → Parting L g → Going L
going_of parting = record { buffer = placed_at parting.place.0 (buffer_of parting.held); left = parting.left }

abbrev pub going_buffer : {L : Type 0} → Going L → Placed L
going_buffer going = going.buffer

abbrev pub going_left : {L : Type 0} → Going L → Left
going_left going = going.left

-- the chunks of a hand
abbrev pub hand_of : {L : Type 0} {g : _} → List (Parting L g) → List (Placed L)
hand_of partings = map going_buffer (map going_of partings)

-- a chunk that a turn sent, as it was pinned
abbrev pub sent_pin : {L : Type 0} {g : _} → SentChunk L g → Pin (Tagged L)
sent_pin sent = record { group = sent.group; chunk = placed_at sent.place.0 (buffer_of sent.held) }
