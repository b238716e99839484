-- Worked examples of an inbox with one place.
use Rattle.std.specs.Prelude.{◌≡◌, ℕ, List, [], ◌∷◌, refl}
use Rattle.std.proofs.Common.{lit≤, lit<}
use Rattle.hs_base.specs.declared.ids.NodeId.{NodeId}
use Rattle.hs_base.specs.declared.settings.TriggerRule.{TriggerRule}
use Rattle.hs_base.specs.declared.told.Ask.{Ask}
use Rattle.hs_inbox.specs.declared.inbox.AskDelivered.TheVariants.{Taken, Full}
use Rattle.hs_inbox.specs.Delivering.{PlainInbox, no_asks, with_ask, IsAskFor, Delivers}

module _ (rules : List TriggerRule) (bytes : List ℕ) (ask : Ask) where
  abbrev one_place : PlainInbox
  one_place = no_asks (record { 0 = 2 }) rules 1

  -- The first ask has the place.
  first_is_taken : IsAskFor (record { 0 = 2 }) rules bytes ask → Delivers one_place bytes Taken (with_ask one_place ask)
  first_is_taken is = (ask, is, lit< tt, refl)

  -- A second one has none.
  second_has_none : IsAskFor (record { 0 = 2 }) rules bytes ask → Delivers (with_ask one_place ask) bytes Full (with_ask one_place ask)
  second_has_none is = (ask, is, lit≤ tt, refl)
