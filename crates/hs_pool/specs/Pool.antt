-- What contracts see of a pool: how many buffers it has in all, those that wait in its queue with the front first,
-- and how many events there were. A pool is after a history where the history is lawful and leaves this queue. A
-- buffer of the pool that does not wait is out.
use Rattle.std.specs.Prelude.{◌≡◌, ℕ, ◌<◌, Bool, true, false, ◌==◌, List, [], ◌∷◌, ◌++◌, length, map, reverse, None, refl}
use Rattle.std.specs.List.{list_any, AllByRecursion}
use Rattle.std.proofs.Common.{lit<}
use Rattle.hs_words.specs.Chunks.{Contents, clear_chunks, clear_chunk}
use Rattle.hs_words.specs.declared.token.Drawn.{Drawn}
use Rattle.hs_words.specs.declared.token.Drawn.TheVariants as drawn
use Rattle.hs_words.specs.declared.token.Given.{Given as Answer}
use Rattle.hs_words.specs.declared.token.Given.TheVariants as given
use Rattle.hs_words.specs.PoolHistory.{PoolEvent, Got, Given, IsPoolHistory, queue_after}

pub record Pool : Type 0 where
  pub buffers : ℕ
  pub queue : List Contents
  pub events : ℕ

abbrev pub number_of : Contents → ℕ
number_of chunk = chunk.number

-- the numbers of the buffers that wait, the front first
abbrev pub waiting : Pool → List ℕ
waiting pool = map number_of pool.queue

-- The pool is as these events leave it, of which the first stands first.
pub record IsAfter (history : List PoolEvent) (pool : Pool) : Type 0 where
  pub lawful : IsPoolHistory pool.buffers history
  pub queue : waiting pool ≡ queue_after pool.buffers (reverse history)
  pub events : pool.events ≡ length history

-- Whatever history the old pool is after, the new one is after that history and this event.
abbrev pub Extends : Pool → PoolEvent → Pool → Type 0
Extends old event new = (history : List PoolEvent) → IsAfter history old → IsAfter (history ++ event ∷ []) new

-- whether a buffer with this number waits
abbrev pub is_waiting : Pool → ℕ → Bool
is_waiting pool number = list_any (λ other. other == number) (waiting pool)

-- This is a number of the pool's buffers, and none with it waits.
abbrev pub IsOut : Pool → ℕ → Type 0
IsOut pool number = (number < pool.buffers) × (is_waiting pool number ≡ false)

-- All buffers that wait have this size.
abbrev pub HasSize : ℕ → Pool → Type 0
HasSize size pool = AllByRecursion (λ (chunk : Contents). chunk.size ≡ size) pool.queue

-- What a draw answers: the front of the queue, clear, which leaves it; or that there is none, where the queue is empty.
abbrev pub Draws : {L : Type 0} {g : _} → Pool → Drawn L g → Pool → Type 0
Draws old (drawn.Got held stamp) new = (old.queue ≡ held.chunk ∷ new.queue) × (held.chunk.page ≡ None)
Draws old (drawn.Empty stamp) new = (old.queue ≡ []) × (new.queue ≡ [])

-- What was drawn has this size, if something was.
abbrev pub HasDrawnSize : {L : Type 0} {g : _} → ℕ → Drawn L g → Type 0
HasDrawnSize size (drawn.Got held stamp) = held.chunk.size ≡ size
HasDrawnSize size (drawn.Empty stamp) = Unit {0}

-- The answer is that the buffer was given, with this stamp.
abbrev pub IsGiven : {L : Type 0} {g : _} → ℕ → Answer L g → Type 0
IsGiven stamp (given.Given other) = other ≡ stamp
IsGiven stamp (given.Missed held other) = ⊥
IsGiven stamp (given.Unread held) = ⊥

-- ---- examples

abbrev two : Pool
two = record { buffers = 2; queue = clear_chunks 2 64; events = 0 }

-- a new pool is after no event
new_pool : IsAfter [] two
new_pool = record { lawful = tt; queue = refl; events = refl }

-- after a draw the second buffer waits
abbrev one_left : Pool
one_left = record { buffers = 2; queue = clear_chunk 64 1 ∷ []; events = 1 }

after_a_draw : IsAfter (Got 0 ∷ []) one_left
after_a_draw = record { lawful = (tt, refl); queue = refl; events = refl }

-- and the first is out
first_is_out : IsOut one_left 0
first_is_out = (lit< tt, refl)

-- the second waits
second_waits : is_waiting one_left 1 ≡ true
second_waits = refl

-- what is given joins at the back
given_back : waiting (record { buffers = 2; queue = clear_chunk 64 1 ∷ clear_chunk 64 0 ∷ []; events = 2 }) ≡ queue_after 2 (reverse (Got 0 ∷ Given 0 ∷ []))
given_back = refl
