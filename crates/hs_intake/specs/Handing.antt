-- The hand of an intake: which chunk is first, what is said of it at its first offer, and what becomes of its buffer.
use Rattle.std.specs.Prelude.{◌≡◌, ℕ, suc, Bool, true, false, [], Option, Some, None, option_and_then, slice_get, Result, Ok, Err, IsSome}
use Rattle.hs_base.specs.declared.told.Group.{Group}
use Rattle.hs_words.specs.Pages.{Sheet, page_bytes}
use Rattle.hs_words.specs.Chunks.{with_page}
use Rattle.hs_words.specs.Buffers.{Buffer}
use Rattle.hs_words.specs.Ends.{answered, unread}
use Rattle.hs_words.specs.PoolHistory as pool
use Rattle.hs_ring.specs.Parts.{Leased, Giving, after_turn}
use Rattle.hs_wire.specs.Messages.{PlainReported, SaysReported}
use Rattle.hs_claimed.specs.Claims.{PlainClaims, after_spoke}
use Rattle.hs_mail.specs.Letters.{Letters, Posts}
use Rattle.hs_mail.specs.declared.mail.Unposted.{Unposted}
use Rattle.hs_mail.specs.declared.mail.Unposted.TheVariants.{Full, TooLong, NoSpelling, Ended}
use Rattle.hs_law_agent.specs.Standings.{ChunkStanding, Indexed, Pinned, Reported, Evicted, Abandoned, Taken}
use Rattle.hs_law_agent.specs.Stepping.{Answered}
use Rattle.hs_law_agent.specs.Stepping as model
use Rattle.hs_agent.specs.Leaving.{standing_of, came_back}
use Rattle.hs_agent.specs.Runs.{AgentRun, state_of, first_place, offered_next, IsSpent}
use Rattle.hs_intake.specs.declared.took.PartedChunk.{PartedChunk}
use Rattle.hs_intake.specs.declared.took.Handed.{Handed}
use Rattle.hs_intake.specs.declared.took.Handed.TheVariants as handed
use Rattle.hs_intake.specs.declared.took.Say.{Say}
use Rattle.hs_intake.specs.declared.took.Say.TheVariants as says
use Rattle.hs_intake.specs.Intakes.{PlainIntake, LetsGo, after_act, Stands}

-- ---- the first of the hand

-- as it was taken
abbrev pub first_taken : AgentRun Leased → Option Taken
first_taken run = option_and_then (λ place. slice_get (state_of run).taken place) (first_place (state_of run))

-- whether it was offered before, and came back
abbrev pub was_offered : AgentRun Leased → Bool
was_offered run = came_back (state_of run).log

-- the page of a chunk that was reported for a group, and whose client numbered its core so
abbrev pub page_of : Group → ℕ → Sheet → PlainReported
page_of group core sheet = record { group = group; client = sheet.header.client.number; core = core; page = page_bytes sheet }

-- the page of a chunk that stands so, if it was reported
abbrev pub page_if : ChunkStanding → ℕ → Sheet → Option PlainReported
page_if Indexed core sheet = None
page_if (Pinned group) core sheet = None
page_if (Reported group) core sheet = Some (page_of group core sheet)
page_if (Evicted chunks traces) core sheet = None
page_if (Abandoned group) core sheet = None

-- what is reported of the first of the hand: its core has the number with which its lease was drawn
abbrev pub first_page : AgentRun Leased → Option PlainReported
first_page run =
    option_and_then (λ (taken : Taken). option_and_then (λ (buffer : Buffer Leased). page_if taken.standing buffer.lease.mark taken.sheet) (offered_next run))
    (first_taken run)

-- ---- what is said of it

-- So it left: by what its page says of itself, and its core has the number with which its lease was drawn.
pub record IsParted (run : AgentRun Leased) (parted : PartedChunk) : Type 0 where
  pub taken : Taken
  pub first : first_taken run ≡ Some taken
  pub trace : parted.trace ≡ taken.sheet.header.trace
  pub client : parted.client ≡ taken.sheet.header.client.number
  pub page : parted.page ≡ taken.sheet.header.page
  pub left : taken.standing ≡ standing_of parted.left
  pub buffer : Buffer Leased
  pub next : offered_next run ≡ Some buffer
  pub core : parted.core ≡ buffer.lease.mark

-- whether what was not posted may be posted later
abbrev pub may_wait : Unposted → Bool
may_wait Full = true
may_wait TooLong = false
may_wait NoSpelling = false
may_wait Ended = true

-- what is said, and noted of the claims
pub record Word : Type 0 where
  pub mail : Letters
  pub claims : PlainClaims

abbrev pub word_of : PlainIntake → Word
word_of d = record { mail = d.mail; claims = d.claims }

-- The page is posted, if there is one, and noted with its number; or it never can be.
abbrev pub PostsPage : Option PlainReported → Word → Option Unposted → Word → Type 0
PostsPage None old unposted new = (unposted ≡ None) × (new ≡ old)
PostsPage (Some page) old None new =
    (number : ℕ) × Posts old.mail (SaysReported page) (Ok number) new.mail × (new.claims ≡ after_spoke old.claims page.group.id number)
PostsPage (Some page) old (Some fault) new = (may_wait fault ≡ false) × Posts old.mail (SaysReported page) (Err fault) new.mail × (new.claims ≡ old.claims)

-- At the first offer it is said why it left; at a later one nothing.
abbrev pub SaysIf : AgentRun Leased → Word → Option PartedChunk → Word → Type 0
SaysIf run old None new = (was_offered run ≡ true) × (new ≡ old)
SaysIf run old (Some parted) new = (was_offered run ≡ false) × (IsParted run parted × PostsPage (first_page run) old parted.unposted new)

-- It was not offered before, and its page cannot be posted now.
pub record Waits (run : AgentRun Leased) (mail : Letters) (fault : Unposted) : Type 0 where
  pub fresh : was_offered run ≡ false
  pub page : PlainReported
  pub first : first_page run ≡ Some page
  pub later : may_wait fault ≡ true
  pub unposted : Posts mail (SaysReported page) (Err fault) mail

-- what is said where the page of a reported chunk was posted or not
abbrev pub say_by : PartedChunk → Result ℕ Unposted → Say
say_by parted (Ok number) = says.Parted parted
say_by parted (Err Full) = says.Waits Full
say_by parted (Err TooLong) = says.Parted (record parted { unposted = Some TooLong })
say_by parted (Err NoSpelling) = says.Parted (record parted { unposted = Some NoSpelling })
say_by parted (Err Ended) = says.Waits Ended

abbrev pub SaysFirst : AgentRun Leased → Word → Say → Word → Type 0
SaysFirst run old says.Nothing new = (new ≡ old) × ((state_of run).hand ≡ [])
SaysFirst run old says.Again new = IsSome (first_place (state_of run)) × SaysIf run old None new
SaysFirst run old (says.Waits fault) new = (new ≡ old) × Waits run old.mail fault
SaysFirst run old (says.Parted parted) new = IsSome (first_place (state_of run)) × SaysIf run old (Some parted) new

-- ---- what becomes of its buffer

abbrev pub is_given : Answered → Bool
is_given (model.Given stamp) = true
is_given (model.Missed stamp) = false
is_given model.Unread = false

-- The pool took the buffer, or it comes back: cleared where the pool had no place for it, and as it was where the pool was not read.
abbrev pub Returns : Giving → Buffer Leased → Answered → Option (Buffer Leased) → Giving → Type 0
Returns old buffer (model.Given stamp) back new =
    (back ≡ None) × (new ≡ after_turn old (answered (record { stamp = stamp; event = pool.Given buffer.chunk.number; draw = buffer.lease.draw })) (suc stamp))
Returns old buffer (model.Missed stamp) back new =
    (back ≡ Some (record buffer { chunk = with_page buffer.chunk None })) × (new ≡ after_turn old (answered (record { stamp = stamp; event = pool.Missed; draw = 0 })) (suc stamp))
Returns old buffer model.Unread back new = (back ≡ Some buffer) × (new ≡ after_turn old unread old.floor)

-- The first of the hand was offered to the pool.
pub record Offers (run : AgentRun Leased) (old : PlainIntake) (was_given : Bool) (new : PlainIntake) : Type 0 where
  pub buffer : Buffer Leased
  pub first : offered_next run ≡ Some buffer
  pub answer : Answered
  pub back : Option (Buffer Leased)
  pub given : was_given ≡ is_given answer
  pub returns : Returns old.port.giver buffer answer back new.port.giver
  pub stands : Stands (after_act run (LetsGo answer back)) new

-- It was, or memory was wanting.
abbrev pub GivesFirst : AgentRun Leased → PlainIntake → Option Bool → PlainIntake → Type 0
GivesFirst run old None new = (new ≡ record old { agent = new.agent }) × IsSpent new.agent
GivesFirst run old (Some was_given) new = (new ≡ record old { agent = new.agent; port = record old.port { giver = new.port.giver } }) × Offers run old was_given new

-- ---- the whole call

abbrev pub HandsOut : AgentRun Leased → PlainIntake → Handed → PlainIntake → Type 0
HandsOut run old handed.Empty new = (new ≡ old) × ((state_of run).hand ≡ [])
HandsOut run old (handed.Waits fault) new = (new ≡ old) × Waits run old.mail fault
HandsOut run old (handed.Offered parted was_given) new =
    (new ≡ record old { agent = new.agent; port = record old.port { giver = new.port.giver }; mail = new.mail; claims = new.claims })
    × (SaysIf run (word_of old) parted (word_of new) × Offers run old was_given new)
HandsOut run old handed.Spent new =
    (new ≡ record old { agent = new.agent; mail = new.mail; claims = new.claims }) × (IsSpent new.agent × ((parted : Option PartedChunk) × SaysIf run (word_of old) parted (word_of new)))

-- what the call answers
abbrev pub handed_by : Option PartedChunk → Option Bool → Handed
handed_by parted None = handed.Spent
handed_by parted (Some was_given) = handed.Offered parted was_given
