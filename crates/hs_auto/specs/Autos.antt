-- How an autotrigger keeps what contracts see of it.
use Rattle.std.specs.Prelude.{◌≡◌, ◌≤◌, length}
use Rattle.hs_auto.specs.Rooms.{ranked_of, counted_of, looked_at}
use Rattle.hs_auto.specs.Watching.{Watch, reach_of}
use Rattle.hs_base.specs.Rules.{IsAutoRule}
use Rattle.hs_auto.specs.declared.auto.Auto.TheInside.{Inside}

abbrev pub watch_of : Inside → Watch
watch_of a = record { rule = a.rule; values = looked_at a.rule a.ranked.values a.counted.values; traces = a.recent.items }

pub record IsAuto (a : Inside) : Type 0 where
  pub limits : IsAutoRule a.rule
  pub ranked : a.ranked.size ≡ ranked_of a.rule
  pub counted : a.counted.size ≡ counted_of a.rule
  pub recent : a.recent.capacity ≡ reach_of a.rule
  pub few : length a.recent.items ≤ a.recent.capacity
