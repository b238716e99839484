-- What a turn sends: it visits each declared trigger id once, in rising order. What waits for an id is a list of costs, the next
-- one first; a turn sends the front of it and leaves the rest, and the lists of ids that are not declared. Examples stand in
-- TurnExamples.
use Rattle.std.specs.Prelude.{ℕ, ◌<◌, ◌≤◌, List, map, drop, replicate, find, flat_map, All, AllPairs, Option, option_map, ◌==◌}
use Rattle.std.specs.Option.{option_map_or}
use Rattle.hs_base.specs.declared.settings.TriggerRule.{TriggerRule}
use Rattle.hs_base.specs.declared.limits.TheConstants.{MIN_SIZE, MAX_SIZE, MAX_TRIGGER, MAX_WEIGHT}
use Rattle.hs_sched.specs.declared.share.Share.{Share}
use Rattle.hs_sched.specs.Visits.{count_sent, visited}

-- the shares of the declared trigger ids, rising, and the page size
pub record Schedule : Type 0 where
  pub shares : List Share
  pub size : ℕ

-- the limits of a page's size in bytes
abbrev pub IsSize : ℕ → Type 0
IsSize size = (MIN_SIZE ≤ size) × (size ≤ MAX_SIZE)

-- the limits of a trigger id, and of a weight
abbrev pub IsId : ℕ → Type 0
IsId id = (1 ≤ id) × (id ≤ MAX_TRIGGER)

abbrev pub IsWeight : ℕ → Type 0
IsWeight weight = (1 ≤ weight) × (weight ≤ MAX_WEIGHT)

-- what every scheduler keeps
pub record IsSchedule (s : Schedule) : Type 0 where
  pub rising : AllPairs (λ (a b : Share). a.trigger.0 < b.trigger.0) s.shares
  pub ids : All (λ share. IsId share.trigger.0) s.shares
  pub weights : All (λ share. IsWeight share.weight) s.shares
  pub size : IsSize s.size
  pub deficits : All (λ share. share.deficit < s.size) s.shares

-- the shares of these rules before the first turn
abbrev pub shares_of : List TriggerRule → List Share
shares_of rules = map (λ rule. record { trigger = rule.id; weight = rule.weight; deficit = 0 }) rules

-- an id's share, where it is declared
abbrev pub share_of : Schedule → ℕ → Option Share
share_of s id = find (λ share. share.trigger.0 == id) s.shares

-- a declared id's deficit
abbrev pub deficit_of : Schedule → ℕ → ℕ
deficit_of s id = option_map_or (λ share. share.deficit) (share_of s id) 0

-- the schedule after a turn over what waits
abbrev pub after_turn : Schedule → (ℕ → List ℕ) → Schedule
after_turn s waiting = record { shares = map (λ share. visited s.size share (waiting share.trigger.0)) s.shares; size = s.size }

-- an id's share after a turn, where it is declared
abbrev pub visited_of : Schedule → (ℕ → List ℕ) → ℕ → Option Share
visited_of s waiting id = option_map (λ share. visited s.size share (waiting id)) (share_of s id)

-- how many items a turn sends for an id: none where it is not declared
abbrev pub sent_for : Schedule → (ℕ → List ℕ) → ℕ → ℕ
sent_for s waiting id = option_map_or (λ share. count_sent s.size share (waiting id)) (share_of s id) 0

-- what waits for an id after a turn
abbrev pub left_after : Schedule → (ℕ → List ℕ) → ℕ → List ℕ
left_after s waiting id = drop (sent_for s waiting id) (waiting id)

-- the id of each item that a turn sends, in the order of the sends
abbrev pub sent_ids : Schedule → (ℕ → List ℕ) → List ℕ
sent_ids s waiting = flat_map (λ share. replicate (count_sent s.size share (waiting share.trigger.0)) share.trigger.0) s.shares
