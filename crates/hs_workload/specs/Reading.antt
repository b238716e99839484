-- What reading a source answers, and why. A fault of the source ends the reading, and too much ends it before a further fault can.
use Rattle.std.specs.Prelude.{◌≡◌, ℕ, List, Option}
use Rattle.hs_base.specs.Outside.{Rose}
use Rattle.hs_workload.specs.Input.{ReadWhole, ReadBeyond, ReadFront}
use Rattle.hs_workload.specs.declared.reading.ReadInput.{ReadInput}
use Rattle.hs_workload.specs.declared.reading.ReadInput.TheVariants.{Whole, TooLong, Fault, NoMemory}

abbrev pub IsReadBy : (old new : Option (List ℕ)) (before after : ℕ) → ReadInput → Type 0
IsReadBy old new before after (Whole text) = ReadWhole old new text.items × (after ≡ before)
IsReadBy old new before after TooLong = ((input : List ℕ) × ReadBeyond old new input) × (after ≡ before)
IsReadBy old new before after Fault = Rose before after × ((input : List ℕ) × ReadFront old new input)
IsReadBy old new before after NoMemory = after ≡ before
