-- The events of a pool as the code has them, and what the gives of a log are, each beside the page that was in its buffer.
use Rattle.std.specs.Prelude.{ℕ, ◌+◌, Bool, true, nat_lt, List, [], ◌∷◌, ◌++◌, length, map, take, filter, filter_map, Option, Some, None, slice_get, if◌then◌else◌}
use Rattle.std.specs.List.{flat_map}
use Rattle.std.specs.Option.{option_and_then, option_to_list}
use Rattle.hs_records.specs.declared.journal.Draw.{Draw}
use Rattle.hs_records.specs.declared.journal.Draw.TheVariants as draws
use Rattle.hs_records.specs.declared.journal.Step.{Step}
use Rattle.hs_records.specs.declared.journal.Step.TheVariants as steps
use Rattle.hs_records.specs.Journals.{PlainJournal}
use Rattle.hs_law_journal.specs.Pooled.{StampedPoolEvent, may_follow}
use Rattle.hs_client.specs.Sending.{draws_at}
use Rattle.hs_words.specs.PoolHistory.{PoolEvent}
use Rattle.hs_words.specs.PoolHistory as events
use Rattle.hs_check_follow.specs.declared.found.FoundClient.{FoundClient}
use Rattle.hs_check_follow.specs.declared.found.FoundPage.{FoundPage}
use Rattle.hs_check_follow.specs.declared.happened.NotedEvent.{NotedEvent}
use Rattle.hs_check_follow.specs.declared.happened.NotedEvent.TheVariants as happenings
use Rattle.hs_check_follow.specs.declared.happened.StampedEvent.{StampedEvent}

abbrev pub event_of : NotedEvent → PoolEvent
event_of (happenings.Got buffer) = events.Got buffer
event_of happenings.Empty = events.Empty
event_of (happenings.Given buffer drawn) = events.Given buffer
event_of happenings.Missed = events.Missed

abbrev pub pool_event : StampedEvent → StampedPoolEvent
pool_event timed = record { stamp = timed.stamp; event = event_of timed.event }

-- a draw as an event
abbrev pub timed_draw : Draw → StampedEvent
timed_draw (draws.Got buffer stamp) = record { stamp = stamp; event = happenings.Got buffer }
timed_draw (draws.Empty stamp) = record { stamp = stamp; event = happenings.Empty }

-- a miss
abbrev pub timed_miss : Step → Option StampedEvent
timed_miss (steps.Missed stamp) = Some (record { stamp = stamp; event = happenings.Missed })
timed_miss _ = None

-- the draw of a page, of clients with these draws
abbrev pub draw_at : List (List Draw) → FoundPage → Option Draw
draw_at clients page = option_and_then (λ (draws : List Draw). slice_get draws page.page) (slice_get clients page.client)

-- the draws for the pages that clients started, where the first of them has this place
abbrev pub drawn_from : PlainJournal → ℕ → List FoundClient → List (List Draw)
drawn_from J place [] = []
drawn_from J place (client ∷ clients) = take (length client.started.items) (draws_at J place) ∷ drawn_from J (place + 1) clients

-- a give of the buffer of a page that had this draw
abbrev pub timed_give : ℕ → Option Draw → Option StampedEvent
timed_give stamp (Some (draws.Got buffer drawn)) = Some (record { stamp = stamp; event = happenings.Given buffer drawn })
timed_give stamp _ = None

-- the gives of a log, whose buffers these pages were in
abbrev pub timed_gives : List (List Draw) → List Step → List FoundPage → List StampedEvent
timed_gives clients [] pages = []
timed_gives clients (steps.Given stamp ∷ log) [] = []
timed_gives clients (steps.Given stamp ∷ log) (page ∷ pages) = option_to_list (timed_give stamp (draw_at clients page)) ++ timed_gives clients log pages
timed_gives clients (step ∷ log) pages = timed_gives clients log pages

-- all events of a node's pool
abbrev pub node_timed : List (List Draw) → List Step → List FoundPage → List StampedEvent
node_timed clients log pages = flat_map (map timed_draw) clients ++ timed_gives clients log pages ++ filter_map timed_miss log

-- ---- below a bound

-- the events with a stamp below a bound
abbrev pub events_below : ℕ → List StampedEvent → List PoolEvent
events_below bound timed = map (λ (t : StampedEvent). event_of t.event) (filter (λ (t : StampedEvent). nat_lt t.stamp bound) timed)

-- whether an event may come, if its stamp is below the bound, and the events with it
abbrev pub may_come : (n bound : ℕ) → List PoolEvent → StampedEvent → Bool
may_come n bound earlier timed = if nat_lt timed.stamp bound then may_follow n earlier (event_of timed.event) else true

abbrev pub earlier_with : ℕ → StampedEvent → List PoolEvent → List PoolEvent
earlier_with bound timed earlier = if nat_lt timed.stamp bound then event_of timed.event ∷ earlier else earlier
