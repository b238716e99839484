-- What a pass of a node does, part by part, and what each part comes to.
use Rattle.std.specs.Prelude.{◌≡◌, ◌⊎◌, ℕ, zero, suc, ◌<◌, ◌≤◌, Bool, true, false, [], map, fold, length, Option, Some, None}
use Rattle.std.specs.Option.{option_to_list}
use Rattle.hs_base.specs.declared.limits.TheConstants.{MAX_TAKEN}
use Rattle.hs_node.specs.declared.pass.TheConstants.{MOST_NOTES, MOST_OFFERS}
use Rattle.hs_ring.specs.Parts.{Leased}
use Rattle.hs_agent.specs.Runs.{AgentRun, state_of}
use Rattle.hs_claimed.specs.declared.answers.StatedClaim.{StatedClaim}
use Rattle.hs_claimed.specs.Claims.{current, is_above, advanced}
use Rattle.hs_link.specs.Contents.{Incoming, IsBeginning}
use Rattle.hs_live.specs.Live.{IsEnd}
use Rattle.hs_mail.specs.declared.mail.Unposted.{Unposted}
use Rattle.hs_node_client.specs.declared.segment.SegmentNote.{SegmentNote}
use Rattle.hs_node_client.specs.declared.segment.SegmentKey.{SegmentKey}
use Rattle.hs_whole.specs.Kept.{more}
use Rattle.hs_node.specs.Told.{node_standing}
use Rattle.hs_whole.specs.History.{after}
use Rattle.hs_intake.specs.declared.took.Took.{Took}
use Rattle.hs_intake.specs.declared.took.TookTriggers.{TookTriggers}
use Rattle.hs_intake.specs.declared.took.Turned.{Turned}
use Rattle.hs_intake.specs.declared.took.PartedChunk.{PartedChunk}
use Rattle.hs_intake.specs.declared.took.Handed.TheVariants as handed
use Rattle.hs_intake.specs.declared.took.Stated.{Stated}
use Rattle.hs_intake.specs.declared.took.Stated.TheVariants as stated
use Rattle.hs_intake.specs.Intakes.{Stands, SaysIt, chunk_line, crumb_line, late_line}
use Rattle.hs_intake.specs.Taking.{TakesLine, TakesTriggers, TakesAsks, TakesBack, MakesTurn, ForgetsOldest, StatesIt}
use Rattle.hs_intake.specs.Handing.{HandsOut}
use Rattle.hs_node.specs.Nodes.{PlainNode, Receives, NotesIt, deed_for, is_unspent}
use Rattle.hs_node.specs.declared.pass.Offer.{Offer}
use Rattle.hs_node.specs.declared.pass.Offer.TheVariants as offers

-- ---- one part after another

-- what a part does, from where the agent stands at a run
abbrev pub Doing : Type 1
Doing = AgentRun Leased → PlainNode → PlainNode → Type 0

-- One part, and then the other, at whichever run the first leads to.
pub record Then (first second : Doing) (run : AgentRun Leased) (old new : PlainNode) : Type 0 where
  pub mid : PlainNode
  pub does : first run old mid
  pub next : (later : AgentRun Leased) → Stands later mid.intake → second later mid new

-- the part for each of so many numbers, from 0 on
abbrev pub Each : (ℕ → Doing) → ℕ → Doing
Each part zero run old new = new ≡ old
Each part (suc n) run old new = Then (Each part n) (part n) run old new

-- A part that does something is made until one does not, or as often as this.
pub record Until (part : Bool → Doing) (most : ℕ) (run : AgentRun Leased) (old new : PlainNode) : Type 0 where
  pub count : ℕ
  pub few : count ≤ most
  pub mid : PlainNode
  pub does : Each (λ n. part true) count run old mid
  pub ends : ((count ≡ most) × (new ≡ mid)) ⊎ ((later : AgentRun Leased) → Stands later mid.intake → part false later mid new)

-- ---- what clients and the hub sent

-- The next note of a client came and was heard, or missed; or none has come, or there is no such client.
abbrev pub Hears : ℕ → Bool → Doing
Hears client true run old new =
    (segment : SegmentNote) × Receives client segment old.segments new.segments × NotesIt old.notes client segment new.notes
    × (new ≡ record old { segments = new.segments; notes = new.notes })
Hears client false run old new =
    (new ≡ old) × ((old.clients ≤ client) ⊎ ((r : Incoming SegmentNote SegmentKey) × IsEnd client old.segments r × IsBeginning r.told r.received))

-- all that have come
abbrev pub HearsFrom : ℕ → Doing
HearsFrom client = Until (Hears client) MOST_NOTES

abbrev pub HearsAll : Doing
HearsAll run old new = Each HearsFrom old.clients run old new

abbrev pub TakesChunks : ℕ → Doing
TakesChunks client run old new = (took : Took) × TakesLine run chunk_line client old.intake took new.intake × (new ≡ record old { intake = new.intake })

abbrev pub TakesCrumbs : ℕ → Doing
TakesCrumbs client run old new = (took : Took) × TakesLine run crumb_line client old.intake took new.intake × (new ≡ record old { intake = new.intake })

abbrev pub TakesLates : ℕ → Doing
TakesLates client run old new = (took : Took) × TakesLine run late_line client old.intake took new.intake × (new ≡ record old { intake = new.intake })

abbrev pub TakesTriggersOf : ℕ → Doing
TakesTriggersOf client run old new =
    (took : TookTriggers) × TakesTriggers run client old.intake took new.intake × (new ≡ record old { intake = new.intake; limited = more old.limited took.limited })

-- a client's notes, and then its chunks, crumbs, late crumbs and triggers
abbrev pub TakesFrom : ℕ → Doing
TakesFrom client = Then (HearsFrom client) (Then (TakesChunks client) (Then (TakesCrumbs client) (Then (TakesLates client) (TakesTriggersOf client))))

abbrev pub TakesAll : Doing
TakesAll run old new = Each TakesFrom old.clients run old new

abbrev pub TakesAsked : Doing
TakesAsked run old new = (took : Took) × TakesAsks run old.intake took new.intake × (new ≡ record old { intake = new.intake })

abbrev pub SaysFirst : Doing
SaysFirst run old new =
    SaysIt old.intake.mail old.intake.claims old.intake.unsaid new.intake.mail new.intake.claims new.intake.unsaid
    × (new ≡ record old { intake = record old.intake { mail = new.intake.mail; claims = new.intake.claims; unsaid = new.intake.unsaid } })

abbrev pub TakesFront : Doing
TakesFront run old new = (did : Bool) × TakesBack run old.intake did new.intake × (new ≡ record old { intake = new.intake })

-- and at last the notes that came meanwhile
abbrev pub Takes : Doing
Takes = Then SaysFirst (Then TakesFront (Then TakesAll (Then TakesAsked HearsAll)))

-- ---- a turn, and the hand

-- It did not spend the agent.
abbrev pub Turns : Doing
Turns run old new = (did : Turned) × (is_unspent did ≡ true) × MakesTurn run old.intake did new.intake × (new ≡ record old { intake = new.intake })

-- The first of the hand is offered, and it is heard what became of its page; or the hand is empty, or its first waits.
abbrev pub OffersOne : Bool → Doing
OffersOne true run old new =
    (parted : Option PartedChunk) × (given : Bool) × HandsOut run old.intake (handed.Offered parted given) new.intake × (new.notes ≡ fold after old.notes (map deed_for (option_to_list parted)))
    × (new ≡ record old { intake = new.intake; notes = new.notes })
OffersOne false run old new =
    (new ≡ old) × (HandsOut run old.intake handed.Empty new.intake ⊎ ((fault : Unposted) × HandsOut run old.intake (handed.Waits fault) new.intake))

abbrev pub OffersBy : AgentRun Leased → Offer → PlainNode → PlainNode → Type 0
OffersBy run offers.Offered old new = OffersOne true run old new
OffersBy run offers.None old new = OffersOne false run old new
OffersBy run offers.Spent old new = Unit {0}

abbrev pub OffersAll : Doing
OffersAll run old new = Until OffersOne MOST_OFFERS run old new

-- ---- claims

abbrev pub is_stated : Stated → Bool
is_stated stated.Said = true
is_stated stated.Known = true
is_stated (stated.Waits fault) = false

-- A standing of the claim that is looked at is said, or is no news; or there is none, or it waits.
abbrev pub StatesNext : Bool → Doing
StatesNext true run old new =
    (claim : StatedClaim) × (did : Stated) × (is_stated did ≡ true) × (current old.intake.claims ≡ Some claim) × StatesIt old.intake (node_standing old.notes old.intake.claims claim) did new.intake
    × (new ≡ record old { intake = new.intake })
StatesNext false run old new =
    (new ≡ old) × ((current old.intake.claims ≡ None)
    ⊎ ((claim : StatedClaim) × (fault : Unposted) × (current old.intake.claims ≡ Some claim) × StatesIt old.intake (node_standing old.notes old.intake.claims claim) (stated.Waits fault) new.intake))

abbrev pub LooksOn : Doing
LooksOn run old new = new ≡ record old { intake = record old.intake { claims = advanced old.intake.claims } }

-- and then the next claim is looked at
abbrev pub StatesOne : Bool → Doing
StatesOne true = Then (StatesNext true) LooksOn
StatesOne false = StatesNext false

-- so it is with the next claims, if the hand is empty
abbrev pub StatesAll : Doing
StatesAll run old new = ((0 < length (state_of run).hand) × (new ≡ old)) ⊎ (((state_of run).hand ≡ []) × Until StatesOne MAX_TAKEN run old new)

-- The group that claimed first was forgotten, above the limit; or it may not be, or no more is kept than the limit says.
abbrev pub ForgetsOne : Bool → Doing
ForgetsOne true run old new =
    (is_above old.intake.claims old.limit ≡ true) × ForgetsOldest run old.intake true new.intake × (new ≡ record old { intake = new.intake })
ForgetsOne false run old new =
    (new ≡ old) × ((is_above old.intake.claims old.limit ≡ false) ⊎ ForgetsOldest run old.intake false new.intake)

abbrev pub ForgetsAll : Doing
ForgetsAll = Until ForgetsOne MAX_TAKEN

-- ---- a pass

abbrev pub Passes : Doing
Passes = Then Takes (Then Turns (Then OffersAll (Then StatesAll ForgetsAll)))
