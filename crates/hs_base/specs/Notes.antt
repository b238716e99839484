-- What contracts see of notes: what was noted, and whether it is kept, with what room.
use Rattle.std.specs.Prelude.{◌≡◌, ℕ, Bool, true, false, List, Option, MatchOption}
use Rattle.std.specs.Option.{option_map_or}
use Rattle.hs_base.specs.Listing.{Listing}

pub record Noted (T : Type 0) : Type 0 where
  pub items : List T
  pub keeps : Bool
  pub room : ℕ

abbrev pub notes_of : {T : Type 0} → List T → Option (Listing T) → Noted T
notes_of items kept = record { items = items; keeps = option_map_or (λ list. true) kept false; room = option_map_or (λ list. list.room) kept 0 }

-- what is kept is what was noted
abbrev pub AreKept : {T : Type 0} → List T → Option (Listing T) → Type 0
AreKept items kept = MatchOption kept (Unit {0}) (λ list. list.items ≡ items)
