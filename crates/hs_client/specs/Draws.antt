-- What draws get from a pool, one behind another with nothing at the pool in between, and what they are in its history. A client draws
-- once for each page that it starts.
use Rattle.std.specs.Prelude.{◌≡◌, ℕ, zero, suc, ◌+◌, nat_lt, List, [], ◌∷◌, length, map, filter, replicate, reverse, refl}
use Rattle.hs_records.specs.declared.journal.Draw.{Draw}
use Rattle.hs_records.specs.declared.journal.Draw.TheVariants as draws
use Rattle.hs_records.specs.Plain.{Operation, Point, End}
use Rattle.hs_words.specs.PoolHistory.{PoolEvent, Got, Empty, Given, queue_after}
use Rattle.hs_client.specs.Samples.{begin, fire}
use Rattle.hs_client.specs.Timing.{TimedPage, timed_pages}

-- the next draws from this queue, from this stamp on: its front, or none where it is empty
abbrev pub next_draws : (count : ℕ) → (stamp : ℕ) → List ℕ → List Draw
next_draws zero stamp queue = []
next_draws (suc count) stamp [] = draws.Empty stamp ∷ next_draws count (stamp + 1) []
next_draws (suc count) stamp (buffer ∷ queue) = draws.Got buffer stamp ∷ next_draws count (stamp + 1) queue

-- so many draws behind the history of a pool with so many buffers
abbrev pub draws_behind : (buffers : ℕ) → List PoolEvent → (count : ℕ) → List Draw
draws_behind buffers history count = next_draws count (length history) (queue_after buffers (reverse history))

-- a draw as an event
abbrev pub event_drawn : Draw → PoolEvent
event_drawn (draws.Got buffer stamp) = Got buffer
event_drawn (draws.Empty stamp) = Empty

-- how many pages the first so many operations of a client start
abbrev pub count_started : (size : ℕ) → List Operation → (operations : ℕ) → ℕ
count_started size ops operations = length (filter (λ (page : TimedPage). nat_lt page.started operations) (timed_pages size ops))

-- ---- examples

abbrev ops : List Operation
ops = begin 1 ∷ Point 6 (replicate 30 0) ∷ fire 7 1 1 ∷ Point 8 (replicate 30 0) ∷ End ∷ []

-- a new pool gives its buffers in order, and then none
new_pool : draws_behind 2 [] 3 ≡ draws.Got 0 0 ∷ draws.Got 1 1 ∷ draws.Empty 2 ∷ []
new_pool = refl

-- a buffer that was given back waits behind the others
given_back : draws_behind 2 (Got 0 ∷ Given 0 ∷ []) 2 ≡ draws.Got 1 2 ∷ draws.Got 0 3 ∷ []
given_back = refl

no_draws : draws_behind 2 (Got 0 ∷ []) 0 ≡ []
no_draws = refl

as_events : map event_drawn (draws_behind 1 [] 2) ≡ Got 0 ∷ Empty ∷ []
as_events = refl

-- each point fills a page, and starts it
started_so_far : (count_started 64 ops 1 ≡ 0) × (count_started 64 ops 2 ≡ 1) × (count_started 64 ops 3 ≡ 1) × (count_started 64 ops 4 ≡ 2) × (count_started 64 ops 9 ≡ 2)
started_so_far = (refl, refl, refl, refl, refl)
