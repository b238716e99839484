-- What a node says in one epoch: its pages and its words, each in an outbox of its own, with numbers that rise over both. What each call
-- makes of it, and when each answer of a post comes.
use Rattle.std.specs.Prelude.{◌≡◌, ℕ, ◌+◌, ◌<◌, ◌≤◌, ◌^◌, nat_lt, Bool, true, false, List, Option, Some, None, Result, Ok, Err, OnOk, OnErr, if◌then◌else◌}
use Rattle.hs_base.specs.declared.ids.NodeId.{NodeId}
use Rattle.hs_wire.specs.Messages.{Said, SaysHello, SaysTold, SaysAsk, SaysReported, SaysStanding, PlainMessage}
use Rattle.hs_outbox.specs.Queue.{Pending, Queue, OutboxAct, pending_of, has_number, empty}
use Rattle.hs_outbox.specs.Queue as queue
use Rattle.hs_outbox.specs.declared.outbox.Put.{Put}
use Rattle.hs_outbox.specs.declared.outbox.Put.TheVariants as puts
use Rattle.hs_mail.specs.declared.mail.Room.{Room}
use Rattle.hs_mail.specs.declared.mail.Unposted.{Unposted}
use Rattle.hs_mail.specs.declared.mail.Unposted.TheVariants.{Full, TooLong, NoSpelling, Ended}

pub record Letters : Type 0 where
  pub node : NodeId
  pub epoch : ℕ
  -- the number of the next message
  pub fresh : ℕ
  pub pages : Queue
  pub words : Queue

-- one in which nothing was said yet
abbrev pub no_letters : NodeId → ℕ → Room → Room → Letters
no_letters node epoch pages words =
    record { node = node; epoch = epoch; fresh = 0; pages = empty pages.places pages.bytes; words = empty words.places words.bytes }

-- ---- what is said

abbrev pub is_page : Said → Bool
is_page (SaysReported reported) = true
is_page (SaysHello hello) = false
is_page (SaysTold told) = false
is_page (SaysAsk ask) = false
is_page (SaysStanding standing) = false

-- the message in which this is said next
abbrev pub message_of : Letters → Said → PlainMessage
message_of m said = record { head = record { epoch = m.epoch; number = m.fresh; node = m.node }; said = said }

-- where it waits
abbrev pub outbox_of : Letters → Said → Queue
outbox_of m said = if is_page said then m.pages else m.words

-- ---- what is offered

abbrev pub pending_at : ℕ → List ℕ → Pending
pending_at number bytes = record { number = number; bytes = bytes }

-- the one with the lower number
abbrev pub earlier : Option Pending → Option Pending → Option Pending
earlier None word = word
earlier (Some page) None = Some page
earlier (Some page) (Some word) = if nat_lt word.number page.number then Some word else Some page

-- the first that is not handed out, of pages and words
abbrev pub first_offered : Letters → Option Pending
first_offered m = earlier (queue.first_offered m.pages) (queue.first_offered m.words)

abbrev pub lower : Option ℕ → Option ℕ → Option ℕ
lower None word = word
lower (Some page) None = Some page
lower (Some page) (Some word) = if nat_lt word page then Some word else Some page

-- the least number of a message that waits
abbrev pub oldest_in : Letters → Option ℕ
oldest_in m = lower (queue.oldest_in m.pages) (queue.oldest_in m.words)

-- ---- what calls do

pub data MailDeed : Type 0 where
  Says : (said : Said) → MailDeed
  HandsOut : (number : ℕ) → MailDeed
  Acknowledges : (number : ℕ) → MailDeed
  OffersAgain : MailDeed

abbrev pub both : Letters → OutboxAct → Letters
both m act = record m { pages = queue.after m.pages act; words = queue.after m.words act }

-- a message waits last in its outbox, and the next one has the next number
abbrev pub with_said : Letters → Said → Letters
with_said m said =
    if is_page said
    then record m { fresh = m.fresh + 1; pages = queue.after m.pages (queue.Puts (pending_of (message_of m said))) }
    else record m { fresh = m.fresh + 1; words = queue.after m.words (queue.Puts (pending_of (message_of m said))) }

abbrev pub after : Letters → MailDeed → Letters
after m (Says said) = with_said m said
after m (HandsOut number) = if has_number (first_offered m) number then both m (queue.HandsOut number) else m
after m (Acknowledges number) = both m (queue.Acknowledges number)
after m OffersAgain = both m queue.OffersAgain

-- ---- when each answer of a post comes

-- what an outbox answers where a post answers so
abbrev pub put_for : {A : Type 0} → Result A Unposted → Put
put_for (Ok x) = puts.Done
put_for (Err Full) = puts.Full
put_for (Err TooLong) = puts.TooLong
put_for (Err NoSpelling) = puts.NoSpelling
put_for (Err Ended) = puts.Stale

-- the epoch has a number for one more message
abbrev pub HasNumber : Letters → Type 0
HasNumber m = m.fresh + 1 < 2 ^ 64

-- the outbox in which this waits answers so
abbrev pub OutboxSays : Letters → Said → Put → Type 0
OutboxSays m said put = queue.Causes (outbox_of m said) (message_of m said) put

abbrev pub Causes : Letters → Said → Result ℕ Unposted → Type 0
Causes m said (Ok number) = (number ≡ m.fresh) × (HasNumber m × OutboxSays m said puts.Done)
Causes m said (Err Full) = HasNumber m × OutboxSays m said puts.Full
Causes m said (Err TooLong) = HasNumber m × OutboxSays m said puts.TooLong
Causes m said (Err NoSpelling) = HasNumber m × OutboxSays m said puts.NoSpelling
Causes m said (Err Ended) = 2 ^ 64 ≤ m.fresh + 1

-- This is said, or it is not and nothing changed.
pub record Posts (old : Letters) (said : Said) (result : Result ℕ Unposted) (new : Letters) : Type 0 where
  pub done : OnOk result (new ≡ after old (Says said))
  pub same : OnErr result (new ≡ old)
  -- each answer has its cause, and a cause has no other answer
  pub cause : Causes old said result
  pub only : (answer : Result ℕ Unposted) → Causes old said answer → result ≡ answer

-- The same of one outbox.
pub record PutBy (old : Queue) (message : PlainMessage) (result : Result (Unit {0}) Unposted) (new : Queue) : Type 0 where
  pub done : OnOk result (new ≡ queue.after old (queue.Puts (pending_of message)))
  pub same : OnErr result (new ≡ old)
  pub cause : queue.Causes old message (put_for result)
  pub only : (answer : Put) → queue.Causes old message answer → put_for result ≡ answer
