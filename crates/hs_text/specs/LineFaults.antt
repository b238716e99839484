-- What is wrong with a line by itself, before its words are looked at. A byte that does not print comes before
-- spaces that no words stand between.
use Rattle.std.specs.Prelude.{◌≡◌, [], ◌∷◌, List, ℕ, Option, Some, None, if◌then◌else◌, codes, refl}
use Rattle.hs_text.specs.Text.{has_bad_byte, has_bad_spaces}
use Rattle.hs_text.specs.declared.reading.LineFault.{LineFault}
use Rattle.hs_text.specs.declared.reading.LineFault.TheVariants.{Byte, Spaces}

-- what is wrong with a line
abbrev pub line_fault_of : List ℕ → Option LineFault
line_fault_of line = if has_bad_byte line then Some Byte else if has_bad_spaces line then Some Spaces else None

-- worked examples
line_faults : (line_fault_of (9 ∷ 32 ∷ []) ≡ Some Byte) × (line_fault_of (codes "end ") ≡ Some Spaces) × (line_fault_of (codes "ask") ≡ None)
line_faults = (refl, refl, refl)
