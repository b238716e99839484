-- The history of a pool with the buffers 0 to n - 1. Its events are draws that got a buffer, draws that found
-- the queue empty, gives and misses; each event is allowed or not by what came before it. The stamp of an event
-- is its place in the history, from 0.
use Rattle.std.specs.Prelude.{◌≡◌, ℕ, zero, ◌<◌, Bool, true, false, ◌==◌, List, [], ◌∷◌, ◌++◌, drop, reverse, slice_get, count_by, Some, refl}
use Rattle.std.specs.List.{range_with_len}
use Rattle.std.proofs.Common.{lit<, arith}

pub data PoolEvent : Type 0 where
  Got : ℕ → PoolEvent
  Empty : PoolEvent
  Given : ℕ → PoolEvent
  Missed : PoolEvent

abbrev pub is_got : ℕ → PoolEvent → Bool
is_got buffer (Got other) = other == buffer
is_got buffer Empty = false
is_got buffer (Given other) = false
is_got buffer Missed = false

abbrev pub is_empty : PoolEvent → Bool
is_empty (Got other) = false
is_empty Empty = true
is_empty (Given other) = false
is_empty Missed = false

abbrev pub is_given : ℕ → PoolEvent → Bool
is_given buffer (Got other) = false
is_given buffer Empty = false
is_given buffer (Given other) = other == buffer
is_given buffer Missed = false

abbrev pub is_missed : PoolEvent → Bool
is_missed (Got other) = false
is_missed Empty = false
is_missed (Given other) = false
is_missed Missed = true

-- The queue after these events, of which the last stands first: what was got left at its front, and what was
-- given joined at its back.
abbrev pub queue_after : ℕ → List PoolEvent → List ℕ
queue_after n [] = range_with_len 0 n
queue_after n (Got buffer ∷ earlier) = drop 1 (queue_after n earlier)
queue_after n (Empty ∷ earlier) = queue_after n earlier
queue_after n (Given buffer ∷ earlier) = queue_after n earlier ++ buffer ∷ []
queue_after n (Missed ∷ earlier) = queue_after n earlier

-- Whether an event may come after the earlier ones, of which the last stands first.
abbrev pub MayFollow : ℕ → List PoolEvent → PoolEvent → Type 0
-- a draw gets the front of the queue
MayFollow n earlier (Got buffer) = slice_get (queue_after n earlier) 0 ≡ Some buffer
-- it gets none only where the queue is empty
MayFollow n earlier Empty = queue_after n earlier ≡ []
-- a buffer is given that was got more often than given
MayFollow n earlier (Given buffer) = count_by (is_given buffer) earlier < count_by (is_got buffer) earlier
-- a give may miss where the queue is empty and more draws found it so than gives missed
MayFollow n earlier Missed = (queue_after n earlier ≡ []) × (count_by is_missed earlier < count_by is_empty earlier)

-- each event may follow those before it; the last stands first
abbrev pub IsHistoryBack : ℕ → List PoolEvent → Type 0
IsHistoryBack n [] = Unit {0}
IsHistoryBack n (event ∷ earlier) = IsHistoryBack n earlier × MayFollow n earlier event

-- The events are a history of the pool, in their order.
abbrev pub IsPoolHistory : ℕ → List PoolEvent → Type 0
IsPoolHistory n events = IsHistoryBack n (reverse events)

-- ---- examples

-- one buffer is got, is not there, is given and is got again
one_buffer : IsPoolHistory 1 (Got 0 ∷ Empty ∷ Given 0 ∷ Got 0 ∷ [])
one_buffer = ((((tt, refl), refl), lit< tt), refl)

-- a give misses once for the draw that found the queue empty, and then succeeds
one_miss : IsPoolHistory 1 (Got 0 ∷ Empty ∷ Missed ∷ Given 0 ∷ Got 0 ∷ [])
one_miss = (((((tt, refl), refl), (refl, lit< tt)), lit< tt), refl)

-- three buffers leave in their order and come back in the order in which they are given
three_buffers : IsPoolHistory 3 (Got 0 ∷ Got 1 ∷ Given 1 ∷ Given 0 ∷ Got 2 ∷ Got 1 ∷ Got 0 ∷ Empty ∷ [])
three_buffers = ((((((((tt, refl), refl), lit< tt), lit< tt), refl), refl), refl), refl)

-- the queue after these events
queue_of_three : queue_after 3 (reverse (Got 0 ∷ Got 1 ∷ Given 1 ∷ [])) ≡ 2 ∷ 1 ∷ []
queue_of_three = refl

-- no buffer but the front is got
not_the_front : IsPoolHistory 2 (Got 1 ∷ []) → ⊥
not_the_front h = let front : slice_get (queue_after 2 []) 0 ≡ Some 1 = h.1 in let same : zero ≡ 1 = cc in absurd (omega arith)

-- no draw is empty while a buffer waits
not_empty : IsPoolHistory 1 (Empty ∷ []) → ⊥
not_empty h = let none : queue_after 1 [] ≡ [] = h.1 in absurd cc

-- no buffer is given that is not out
not_out : IsPoolHistory 1 (Given 0 ∷ []) → ⊥
not_out h = let less : 0 < 0 = h.1 in absurd (omega arith)

-- a give does not miss twice for one empty draw
not_twice : IsPoolHistory 1 (Got 0 ∷ Empty ∷ Missed ∷ Missed ∷ []) → ⊥
not_twice h = let less : 1 < 1 = h.1.1 in absurd (omega arith)
