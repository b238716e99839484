-- Which event of a pool's history an answer stands for, and at which stamp. An unread give is no event.
use Rattle.std.specs.Prelude.{ℕ, Option, Some, None}
use Rattle.hs_words.specs.declared.token.Drawn.{Drawn}
use Rattle.hs_words.specs.declared.token.Drawn.TheVariants as drawn
use Rattle.hs_words.specs.declared.token.Given.{Given as Answer}
use Rattle.hs_words.specs.declared.token.Given.TheVariants as given
use Rattle.hs_words.specs.PoolHistory.{PoolEvent, Got, Empty, Given, Missed}

-- a draw that got a chunk got the buffer of its number
abbrev pub event_drawn : {L : Type 0} {g : _} → Drawn L g → PoolEvent
event_drawn (drawn.Got held stamp) = Got held.chunk.number
event_drawn (drawn.Empty stamp) = Empty

abbrev pub stamp_drawn : {L : Type 0} {g : _} → Drawn L g → ℕ
stamp_drawn (drawn.Got held stamp) = stamp
stamp_drawn (drawn.Empty stamp) = stamp

-- what giving the buffer of this number answered
abbrev pub event_given : {L : Type 0} {g : _} → ℕ → Answer L g → Option PoolEvent
event_given number (given.Given stamp) = Some (Given number)
event_given number (given.Missed held stamp) = Some Missed
event_given number (given.Unread held) = None

abbrev pub stamp_given : {L : Type 0} {g : _} → Answer L g → Option ℕ
stamp_given (given.Given stamp) = Some stamp
stamp_given (given.Missed held stamp) = Some stamp
stamp_given (given.Unread held) = None
