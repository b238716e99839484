-- How an inbox lies in memory, which has a place for each ask that may wait. The id of each that waits is declared.
use Rattle.std.specs.Prelude.{◌≡◌, ◌≤◌, true, List, length}
use Rattle.std.specs.List.{AllByRecursion}
use Rattle.std.specs.VecDeque.{deque_capacity}
use Rattle.hs_base.specs.Rules.{is_declared}
use Rattle.hs_base.specs.declared.settings.TriggerRule.{TriggerRule}
use Rattle.hs_base.specs.declared.told.Ask.{Ask}
use Rattle.hs_inbox.specs.Delivering.{PlainInbox}
use Rattle.hs_inbox.specs.declared.inbox.Inbox.TheInside.{Inside}

abbrev pub inbox_in : Inside → PlainInbox
inbox_in i = record { node = i.node; rules = i.rules.items; asks = i.asks.items; places = i.places }

abbrev pub IsDeclaredAsk : List TriggerRule → Ask → Type 0
IsDeclaredAsk rules ask = is_declared rules ask.group.trigger ≡ true

pub record IsInbox (i : Inside) : Type 0 where
  pub few : length i.asks.items ≤ i.places
  pub capacity : i.places ≤ deque_capacity i.asks
  pub declared : AllByRecursion (IsDeclaredAsk i.rules.items) i.asks.items
