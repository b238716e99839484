-- What contracts see of a node, and how it goes on: by acts of its agent's model, by messages that are said, and by what it hears of its
-- segments.
use Rattle.std.specs.Prelude.{◌≡◌, ℕ, ◌⊎◌, Bool, true, false, List, [], ◌∷◌, ◌++◌, map, fold, filter_map, option_map, slice_set, nat_le, Option, Some, None, if◌then◌else◌}
use Rattle.std.specs.Option.{option_to_list, option_map_or}
use Rattle.hs_base.specs.declared.ids.TraceId.{TraceId}
use Rattle.hs_base.specs.declared.told.Told.{Told}
use Rattle.hs_wire.specs.Messages.{Said, PlainReported, SaysHello, SaysTold, SaysAsk, SaysReported, SaysStanding}
use Rattle.hs_mail.specs.Letters.{Letters, Says}
use Rattle.hs_mail.specs.Lives as mail
use Rattle.hs_ring.specs.Parts.{Leased}
use Rattle.hs_link.specs.Contents.{Incoming, IsSameReceiver}
use Rattle.hs_live.specs.Live.{IsEnd}
use Rattle.hs_law_agent.specs.Standings.{ChunkStanding, Taken}
use Rattle.hs_agent.specs.declared.hand.Left.{Left}
use Rattle.hs_agent.specs.declared.hand.Left.TheVariants.{Reported, Evicted, Abandoned}
use Rattle.hs_agent.specs.Leaving.{standing_of}
use Rattle.hs_agent.specs.Runs.{AgentRun, offered_next, IsSpent}
use Rattle.hs_words.specs.Buffers.{Buffer}
use Rattle.hs_node_client.specs.declared.segment.SegmentNote.{SegmentNote}
use Rattle.hs_node_client.specs.declared.segment.SegmentCounts.{SegmentCounts}
use Rattle.hs_node_client.specs.declared.segment.SegmentKey.{SegmentKey}
use Rattle.hs_node_client.specs.declared.segment.SegmentState.{SegmentState}
use Rattle.hs_node_client.specs.declared.segment.SegmentState.TheVariants.{Opened, Closed, Refused, Led}
use Rattle.hs_whole.specs.declared.answers.SegmentReport.{SegmentReport}
use Rattle.hs_whole.specs.declared.page.PageName.{PageName}
use Rattle.hs_whole.specs.declared.answers.Loss.TheVariants.{EvictedPages, AbandonedPages}
use Rattle.hs_whole.specs.Notes.{PlainNotes, finds_place}
use Rattle.hs_whole.specs.History.{NoteDeed, Opens, Closes, Refuses, Leads, Loses, HandsOut, Misses, Drops, after}
use Rattle.hs_mail.specs.declared.mail.Unposted.{Unposted}
use Rattle.hs_intake.specs.declared.took.PartedChunk.{PartedChunk}
use Rattle.hs_intake.specs.Intakes.{PlainIntake, IntakeAct, TakesChunk, TakesCrumb, TakesTrigger, TakesAsk, Turns, LetsGo, Forgets, after_act, life, told_in, Stands}
use Rattle.hs_intake.specs.Handing.{first_taken, first_page, was_offered}
use Rattle.hs_intake.specs.declared.took.Turned.{Turned}
use Rattle.hs_intake.specs.declared.took.Turned.TheVariants as turned
use Rattle.hs_node.specs.declared.pass.Passed.{Passed}
use Rattle.hs_node.specs.declared.pass.Passed.TheVariants as passed
use Rattle.hs_node.specs.declared.pass.Offer.{Offer}
use Rattle.hs_node.specs.declared.pass.Offer.TheVariants as offers

pub record PlainNode : Type 0 where
  pub intake : PlainIntake
  pub notes : PlainNotes
  -- the ends that receive the clients' notes
  pub segments : List (Incoming SegmentNote SegmentKey)
  pub clients : ℕ
  -- so many claims are kept before settled groups are forgotten
  pub limit : ℕ
  -- how many triggers left unseen, since no number or no place was left for them
  pub limited : ℕ

-- the same with this mail
abbrev pub with_mail : PlainNode → Letters → PlainNode
with_mail d mail = record d { intake = record d.intake { mail = mail } }

-- ---- what is said

abbrev pub told_of : Said → Option Told
told_of (SaysHello hello) = None
told_of (SaysTold told) = Some told
told_of (SaysAsk ask) = None
told_of (SaysReported reported) = None
told_of (SaysStanding standing) = None

abbrev pub page_of : Said → Option PlainReported
page_of (SaysHello hello) = None
page_of (SaysTold told) = None
page_of (SaysAsk ask) = None
page_of (SaysReported reported) = Some reported
page_of (SaysStanding standing) = None

-- ---- what leaves the hand

-- a chunk that is first in the hand, at its first offer: the trace of its page, the client that wrote it, the numbers of the core and of
-- the page, how it stands, and its page, if it was reported
pub record Part : Type 0 where
  pub trace : TraceId
  pub client : ℕ
  pub core : ℕ
  pub number : ℕ
  pub standing : ChunkStanding
  pub page : Option PlainReported

-- the number of the core that wrote what is offered next
abbrev pub core_of : AgentRun Leased → ℕ
core_of run = option_map_or (λ (buffer : Buffer Leased). buffer.lease.mark) (offered_next run) 0

abbrev pub part_of : AgentRun Leased → Taken → Part
part_of run taken =
    record {
      trace = taken.sheet.header.trace;
      client = taken.sheet.header.client.number;
      core = core_of run;
      number = taken.sheet.header.page;
      standing = taken.standing;
      page = first_page run;
    }

-- what leaves at an act
abbrev pub part_at : AgentRun Leased → IntakeAct → Option Part
part_at run (TakesChunk client buffer) = None
part_at run (TakesCrumb client crumb) = None
part_at run (TakesTrigger client trigger) = None
part_at run (TakesAsk ask) = None
part_at run Turns = None
part_at run (LetsGo answer back) = if was_offered run then None else option_map (part_of run) (first_taken run)
part_at run (Forgets group) = None

-- and at these, one after another
abbrev pub parts_in : AgentRun Leased → List IntakeAct → List Part
parts_in run [] = []
parts_in run (act ∷ acts) = option_to_list (part_at run act) ++ parts_in (after_act run act) acts

-- the page of a part, where it was posted
abbrev pub posted_of : Part → Option Unposted → List PlainReported
posted_of part None = option_to_list part.page
posted_of part (Some fault) = []

-- so a part left
abbrev pub IsPart : Part → PartedChunk → Type 0
IsPart part parted =
    (parted.trace ≡ part.trace) × ((parted.client ≡ part.client) × ((parted.core ≡ part.core) × ((parted.page ≡ part.number) × (part.standing ≡ standing_of parted.left))))

-- So these parts left, and these pages of them were posted.
abbrev pub AreParted : List Part → List PartedChunk → List PlainReported → Type 0
AreParted [] [] pages = pages ≡ []
AreParted [] (parted ∷ others) pages = ⊥
AreParted (part ∷ parts) [] pages = ⊥
AreParted (part ∷ parts) (parted ∷ others) pages =
    IsPart part parted × ((rest : List PlainReported) × (pages ≡ posted_of part parted.unposted ++ rest) × AreParted parts others rest)

-- ---- what is heard

-- what a client says of a segment at its end
abbrev pub report_of : SegmentCounts → SegmentReport
report_of c =
    record {
      pages = c.pages;
      null_pages = c.null_pages;
      full_points = c.full_points;
      dry_points = 0;
      long_points = c.long_points;
      spent_points = c.spent_points;
      refused_crumbs = c.refused_crumbs;
      crumbs = c.crumbs;
    }

-- where the pages of a segment begin, or behind which it ends
abbrev pub place_of : SegmentNote → PageName
place_of segment = record { core = segment.core; page = segment.page }

-- what a node hears by a note of a client
abbrev pub note_if : ℕ → SegmentNote → SegmentState → NoteDeed
note_if client segment Opened = Opens client segment.number segment.trace (place_of segment)
note_if client segment (Closed counts) = Closes client segment.number segment.trace (place_of segment) (report_of counts)
note_if client segment Refused = Refuses client segment.number segment.trace
note_if client segment (Led nodes) = Leads client segment.number segment.trace nodes

abbrev pub note_of : ℕ → SegmentNote → NoteDeed
note_of client segment = note_if client segment segment.state

-- What becomes of it, where its client is there or not, and a place is found for its trace or not: it is heard, or dropped where no place
-- is found or memory is wanting. Of a client that is not there it is missed, or dropped.
abbrev pub HearsIf : (gone found : Bool) → ℕ → SegmentNote → NoteDeed → Type 0
HearsIf true found client segment deed = (deed ≡ Misses) ⊎ (deed ≡ Drops segment.trace)
HearsIf false true client segment deed = (deed ≡ note_of client segment) ⊎ (deed ≡ Drops segment.trace)
HearsIf false false client segment deed = deed ≡ Drops segment.trace

abbrev pub HearsAs : PlainNotes → ℕ → SegmentNote → NoteDeed → Type 0
HearsAs s client segment deed = HearsIf (nat_le s.limits.clients client) (finds_place s segment.trace) client segment deed

abbrev pub NotesIt : PlainNotes → ℕ → SegmentNote → PlainNotes → Type 0
NotesIt old client segment new = (deed : NoteDeed) × HearsAs old client segment deed × (new ≡ after old deed)

-- what a node hears of a chunk that left: its page was posted, or is lost, by its cause
abbrev pub page_named : PartedChunk → PageName
page_named parted = record { core = parted.core; page = parted.page }

abbrev pub deed_if : PartedChunk → Left → Option Unposted → NoteDeed
deed_if parted (Reported group) None = HandsOut parted.client (page_named parted) parted.trace
deed_if parted (Reported group) (Some fault) = Loses parted.trace AbandonedPages 1
deed_if parted (Evicted chunks traces) unposted = Loses parted.trace EvictedPages 1
deed_if parted (Abandoned group) unposted = Loses parted.trace AbandonedPages 1

abbrev pub deed_for : PartedChunk → NoteDeed
deed_for parted = deed_if parted parted.left parted.unposted

-- what is heard: a note of a client, by this deed, or what became of a chunk that left
pub data Heard : Type 0 where
  Note : (client : ℕ) (segment : SegmentNote) (deed : NoteDeed) → Heard
  Gone : (parted : PartedChunk) → Heard

abbrev pub deed_in : Heard → NoteDeed
deed_in (Note client segment deed) = deed
deed_in (Gone parted) = deed_for parted

-- the notes among it, and the chunks that left
abbrev pub note_in : Heard → Option (ℕ × SegmentNote)
note_in (Note client segment deed) = Some (client, segment)
note_in (Gone parted) = None

abbrev pub parted_in : Heard → Option PartedChunk
parted_in (Note client segment deed) = None
parted_in (Gone parted) = Some parted

-- Each note is heard as it is where all before it was heard.
abbrev pub AreHeard : PlainNotes → List Heard → Type 0
AreHeard s [] = Unit {0}
AreHeard s (Note client segment deed ∷ others) = HearsAs s client segment deed × AreHeard (after s deed) others
AreHeard s (Gone parted ∷ others) = AreHeard (after s (deed_for parted)) others

-- The end of the client with this number received this note, and all other ends are as they were.
pub record Receives (client : ℕ) (segment : SegmentNote) (old new : List (Incoming SegmentNote SegmentKey)) : Type 0 where
  pub before : Incoming SegmentNote SegmentKey
  pub later : Incoming SegmentNote SegmentKey
  pub at : IsEnd client old before
  pub new_is : new ≡ slice_set old client later
  pub same : IsSameReceiver before later
  pub received : later.received ≡ before.received ++ segment ∷ []

-- The ends of the clients received these notes, one after another.
abbrev pub Came : List (ℕ × SegmentNote) → List (Incoming SegmentNote SegmentKey) → List (Incoming SegmentNote SegmentKey) → Type 0
Came [] old new = new ≡ old
Came (came ∷ others) old new = (mid : List (Incoming SegmentNote SegmentKey)) × Receives came.0 came.1 old mid × Came others mid new

-- ---- how a node goes on

pub record GoesOn (run : AgentRun Leased) (old new : PlainNode) : Type 0 where
  -- the agent does these acts
  pub acts : List IntakeAct
  pub stands : Stands (life run acts) new.intake
  -- these messages are said, in this order
  pub said : List Said
  pub mail : new.intake.mail ≡ mail.life old.intake.mail (map Says said)
  -- among them what the agent told, but for the last of it, which may find no place
  pub told : option_to_list old.intake.unsaid ++ told_in run acts ≡ filter_map told_of said ++ option_to_list new.intake.unsaid
  -- this is heard, one after another
  pub heard : List Heard
  pub notes : new.notes ≡ fold after old.notes (map deed_in heard)
  -- of each note that came of a client
  pub ends : Came (filter_map note_in heard) old.segments new.segments
  pub noted : AreHeard old.notes heard
  -- and of each chunk that left. Its page is said at its first offer, if it was reported, unless the page has no spelling or is too long
  pub parts : AreParted (parts_in run acts) (filter_map parted_in heard) (filter_map page_of said)

abbrev pub is_unspent : Turned → Bool
is_unspent turned.Done = true
is_unspent turned.Full = true
is_unspent turned.Spent = false

abbrev pub GoesOnIf : AgentRun Leased → Bool → PlainNode → PlainNode → Type 0
GoesOnIf run true old new = GoesOn run old new
GoesOnIf run false old new = IsSpent new.intake.agent

abbrev pub OffersAs : AgentRun Leased → Offer → PlainNode → PlainNode → Type 0
OffersAs run offers.Offered old new = GoesOn run old new
OffersAs run offers.None old new = GoesOn run old new
OffersAs run offers.Spent old new = IsSpent new.intake.agent

abbrev pub PassesAs : AgentRun Leased → Passed → PlainNode → PlainNode → Type 0
PassesAs run passed.Done old new = GoesOn run old new
PassesAs run passed.Spent old new = IsSpent new.intake.agent
