-- What becomes of a list whose items were lent to be written: its length and its room stay, and it has the
-- items that were left there.
use Rattle.std.specs.Prelude.{List, ◌++◌, length, take, drop}
use Rattle.std.specs.Borrow.{Lends, Fml, RattleType, MutBor, Array}
use Rattle.hs_base.specs.Listing.{Listing}
use Rattle.hs_base.specs.contracts.list.List.{the_row}

-- The list with these items in place of its own. They are as many: a slice keeps its length.
abbrev pub with_items : {T : Type 0} → Listing T → List T → Listing T
with_items list items = record { items = take (length list.items) (items ++ drop (length items) list.items); room = list.room }

module _ (T : RattleType) (list : MutBor (Listing T.Denot)) where
  abbrev pub LendsItems : MutBor (List T.Denot) → Fml
  LendsItems r = Lends (the_row T) (Array T 0) list r (with_items list.now)
