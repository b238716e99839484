-- A chunk of a claimed trace comes, and groups give way, in one call.
use Rattle.std.specs.Prelude.{List, [], ◌∷◌, if◌then◌else◌}
use Rattle.std.specs.Option.{option_map_or}
use Rattle.hs_words.specs.Buffers.{Buffer}
use Rattle.hs_pins.specs.Remembered.{Claim, Pin, Remembered, pin_for, is_abandoned, claim_for, comes_back, arrived}
use Rattle.hs_pins.specs.Abandoning.{drops, relieved}

-- after a chunk of a claimed trace came, and as many groups as have to gave way
abbrev pub received : {L : Type 0} → Remembered L → Buffer L → Remembered L
received memory chunk = if comes_back memory chunk then memory else relieved (arrived memory chunk)

-- the chunks that go then: the one that came, where its group was abandoned before, or those of the groups that give way
abbrev pub goes_with : {L : Type 0} → Remembered L → Buffer L → List (Pin L)
goes_with memory chunk =
    option_map_or (λ (claim : Claim). if is_abandoned memory.abandoned claim.group then pin_for claim.group chunk ∷ [] else drops (arrived memory chunk)) (claim_for memory.claims chunk) []
