-- What contracts see of a list: its items, and its room, the number of items that it can hold before it
-- has to take memory again.
use Rattle.std.specs.Prelude.{ℕ, List, length}

pub record Listing (T : Type 0) : Type 0 where
  pub items : List T
  pub room : ℕ

-- a list with no room left, as worked examples have it
abbrev pub listing : {T : Type 0} → List T → Listing T
listing items = record { items = items; room = length items }
