-- What a client of a replay draws from: a well. A well is seen by two things: for how many draws of buffers of a size it is
-- ready, and what one draw does to it. What many draws do follows from these.
use Rattle.std.specs.Prelude.{◌≡◌, ℕ, ◌≤◌, List, [], ◌∷◌, None}
use Rattle.hs_records.specs.declared.journal.Draw.{Draw}
use Rattle.hs_records.specs.declared.journal.Draw.TheVariants as draws
use Rattle.hs_words.specs.declared.token.Drawn.{Drawn}
use Rattle.hs_words.specs.declared.token.Drawn.TheVariants as drawn

pub record Way (P : Type 0) : Type 1 where
  -- for so many draws of buffers of this size
  pub ready : P → ℕ → ℕ → Type 0
  -- a draw that is noted so leads from one to the other
  pub draws : P → Draw → P → Type 0

-- ready for so many draws, or fewer
abbrev pub IsReadyFor : {P : Type 0} → Way P → P → ℕ → ℕ → Type 0
IsReadyFor way well size count = (fewer : ℕ) → fewer ≤ count → way.ready well size fewer

-- these draws, one after another, lead from one to the other
abbrev pub DrawsAll : {P : Type 0} → Way P → List Draw → P → P → Type 0
DrawsAll way [] old new = old ≡ new
DrawsAll {P = P} way (draw ∷ more) old new = (middle : P) × way.draws old draw middle × DrawsAll way more middle new

-- what is noted of a draw
abbrev pub note_drawn : {L : Type 0} {g : _} → Drawn L g → Draw
note_drawn (drawn.Got held stamp) = draws.Got held.chunk.number stamp
note_drawn (drawn.Empty stamp) = draws.Empty stamp

-- What was drawn is clear and of this size, if something was.
abbrev pub IsClear : {g : _} → ℕ → Drawn (Unit {0}) g → Type 0
IsClear size (drawn.Got held stamp) = (held.chunk.page ≡ None) × (held.chunk.size ≡ size)
IsClear size (drawn.Empty stamp) = Unit {0}
