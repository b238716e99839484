-- What a turn does to items, where a send takes the next item of an id and puts it behind all that was sent. The items of
-- the first id go first, then those of the next, and of each id as many go, from the front, as its visit pays for.
use Rattle.std.specs.Prelude.{◌≡◌, ◌≢◌, ℕ, List, [], ◌∷◌, ◌++◌, map, take, drop, flat_map, if◌then◌else◌, ◌==◌, refl}
use Rattle.hs_sched.specs.declared.share.Share.{Share}
use Rattle.hs_sched.specs.Visits.{count_sent}
use Rattle.hs_sched.specs.Turns.{Schedule, IsSchedule, sent_for, sent_ids}
use Rattle.hs_sched.specs.Sending.{SendsEach}

-- How queues hold items: those that wait for an id, the next one first; those that were sent, the first one first; and
-- what an item costs.
pub record ItemQueues (Q T : Type 0) : Type 0 where
  pub waiting : Q → ℕ → List T
  pub sent : Q → List T
  pub cost : T → ℕ

-- the costs of what waits, by id
abbrev pub costs_in : {Q T : Type 0} → ItemQueues Q T → Q → ℕ → List ℕ
costs_in held queues id = map held.cost (held.waiting queues id)

-- one send: the id's next item goes behind what was sent, and what waits for other ids stays
pub record MovesNext {Q T : Type 0} (held : ItemQueues Q T) (old : Q) (id : ℕ) (new : Q) : Type 0 where
  pub item : T
  pub taken : held.waiting old id ≡ item ∷ held.waiting new id
  pub put : held.sent new ≡ held.sent old ++ item ∷ []
  pub others : (other : ℕ) → other ≢ id → held.waiting new other ≡ held.waiting old other

-- what a turn sends for one share
abbrev pub moved_for : {Q T : Type 0} → ItemQueues Q T → ℕ → Q → Share → List T
moved_for held size queues share = take (count_sent size share (costs_in held queues share.trigger.0)) (held.waiting queues share.trigger.0)

-- a turn: of each id the first `sent_for` items went, in the order of the ids, and the others wait as they did
pub record TurnMoves {Q T : Type 0} (held : ItemQueues Q T) (s : Schedule) (old new : Q) : Type 0 where
  pub sent : held.sent new ≡ held.sent old ++ flat_map (moved_for held s.size old) s.shares
  pub left : (id : ℕ) → held.waiting new id ≡ drop (sent_for s (costs_in held old) id) (held.waiting old id)

-- Where the costs are those of the items, and each send moves the next item, the sends of a turn move these.
abbrev pub TurnsMoveItems : {Q : Type 0} → (T : Type 0) → (Q → ℕ → List ℕ) → (Q → ℕ → Q → Type 0) → Type 0
TurnsMoveItems {Q} T costs sends =
    (held : ItemQueues Q T) (s : Schedule) (old new : Q) → IsSchedule s → ((queues : Q) (id : ℕ) → costs queues id ≡ costs_in held queues id)
    → ((before : Q) (id : ℕ) (after : Q) → sends before id after → MovesNext held before id after)
    → SendsEach sends old (sent_ids s (costs old)) new → TurnMoves held s old new

-- ---- examples: two ids, with pages of 64 bytes and items that are their costs

abbrev shelves : ItemQueues (ℕ → List ℕ) ℕ
shelves = record { waiting = λ q id. q id; sent = λ q. []; cost = λ item. item }

abbrev waits : ℕ → List ℕ
waits id = if id == 1 then 44 ∷ 45 ∷ 46 ∷ [] else (if id == 2 then 50 ∷ 51 ∷ [] else 9 ∷ [])

abbrev two : Schedule
two = record { shares = record { trigger = record { 0 = 1 }; weight = 2; deficit = 0 } ∷ record { trigger = record { 0 = 2 }; weight = 1; deficit = 0 } ∷ []; size = 64 }

-- 128 bytes pay for two items of id 1, and 64 for one of id 2
first_ones_go : flat_map (moved_for shelves 64 waits) two.shares ≡ 44 ∷ 45 ∷ 50 ∷ []
first_ones_go = refl

rest_stays : (drop (sent_for two (costs_in shelves waits) 1) (waits 1) ≡ 46 ∷ []) × (drop (sent_for two (costs_in shelves waits) 2) (waits 2) ≡ 51 ∷ []) × (drop (sent_for two (costs_in shelves waits) 3) (waits 3) ≡ 9 ∷ [])
rest_stays = (refl, refl, refl)
