-- What becomes of what is kept when a chunk is let go: why it left is noted at its place, and its buffer stands last in the hand.
use Rattle.std.specs.Prelude.{ℕ, List, [], ◌∷◌, ◌++◌, map, fold, Some}
use Rattle.std.specs.Option.{option_map_or}
use Rattle.hs_words.specs.Pages.{page_bytes}
use Rattle.hs_index.specs.Index.{Leaving}
use Rattle.hs_pins.specs.Remembered.{Pin}
use Rattle.hs_agent.specs.declared.placed.Tagged.{Tagged}
use Rattle.hs_agent.specs.Placing.{place_of}
use Rattle.hs_agent.specs.Leaving.{abandoned_for, evicted_of, reported_for, with_left}
use Rattle.hs_agent.specs.Parting.{Going}
use Rattle.hs_agent.specs.Keeping.{Kept}

abbrev pub let_go : {L : Type 0} → Kept L → Going L → Kept L
let_go kept going =
    record kept {
      standings = with_left (place_of going.buffer) (Some going.left) kept.standings;
      hand = kept.hand ++ going.buffer ∷ [];
      lefts = kept.lefts ++ going.left ∷ [];
    }

-- one after another
abbrev pub let_go_all : {L : Type 0} → Kept L → List (Going L) → Kept L
let_go_all kept goings = fold let_go kept goings

abbrev pub evicted_going : {L : Type 0} → Leaving (Tagged L) → Going L
evicted_going leaving = record { buffer = leaving.buffer; left = evicted_of leaving.chunks leaving.traces }

abbrev pub abandoned_going : {L : Type 0} → Pin (Tagged L) → Going L
abandoned_going pin = record { buffer = pin.chunk; left = abandoned_for pin.group }

abbrev pub reported_going : {L : Type 0} → Pin (Tagged L) → Going L
reported_going pin = record { buffer = pin.chunk; left = reported_for pin.group }

-- the bytes of a pinned chunk's page
abbrev pub page_in : {L : Type 0} → Pin (Tagged L) → List ℕ
page_in pin = option_map_or page_bytes pin.chunk.chunk.page []

-- what the turn sent is reported: each page's bytes are kept, and each chunk is let go
abbrev pub reported : {L : Type 0} → Kept L → Kept L
reported kept = let_go_all (record kept { sent = []; pages = kept.pages ++ map page_in kept.sent }) (map reported_going kept.sent)
