-- What is taken of one line of a client: the next item, or as many as a pass takes.
use Rattle.std.specs.Prelude.{◌≡◌, ℕ, ◌+◌, ◌<◌, ◌≤◌, ◌==◌, ◌&&◌, nat_lt, Bool, true, false, List, [], ◌∷◌, ◌++◌, length, map, slice_set, Option, Some, None, IsSome, ◌⊎◌, Ok, Err}
use Rattle.std.specs.Option.{is_none, is_some, option_map_or}
use Rattle.hs_base.specs.declared.told.Ask.{Ask}
use Rattle.hs_base.specs.declared.told.Trigger.{Trigger}
use Rattle.hs_claimed.specs.declared.answers.Claimant.{Claimant}
use Rattle.hs_claimed.specs.Claims.{oldest, after_forget, after_said, is_news_in}
use Rattle.hs_mail.specs.Letters.{oldest_in, Posts}
use Rattle.hs_wire.specs.Messages.{SaysStanding}
use Rattle.hs_wire.specs.declared.message.Standing.{Standing}
use Rattle.hs_intake.specs.declared.took.Stated.{Stated}
use Rattle.hs_intake.specs.declared.took.Stated.TheVariants as stated
use Rattle.hs_base.specs.declared.limits.TheConstants.{MAX_TAKEN, MAX_LATERALS}
use Rattle.hs_ring.specs.Parts.{Leased}
use Rattle.hs_link.specs.Contents.{Incoming, IsSameReceiver, IsBeginning}
use Rattle.hs_live.specs.Keys.{Key}
use Rattle.hs_live.specs.Live.{IsEnd}
use Rattle.hs_law_agent.specs.Lives.{is_settled}
use Rattle.hs_agent.specs.Runs.{AgentRun, state_of, IsSpent}
use Rattle.hs_intake.specs.declared.took.Fired.{Fired}
use Rattle.hs_intake.specs.declared.took.Fired.TheVariants as fired
use Rattle.hs_intake.specs.declared.took.Next.{Next}
use Rattle.hs_intake.specs.declared.took.Next.TheVariants as nexts
use Rattle.hs_intake.specs.declared.took.Stop.{Stop}
use Rattle.hs_intake.specs.declared.took.Stop.TheVariants.{Empty, Most, Memory, Words, Claims}
use Rattle.hs_intake.specs.declared.took.Took.{Took}
use Rattle.hs_intake.specs.declared.took.TookTriggers.{TookTriggers}
use Rattle.hs_intake.specs.declared.took.Turned.{Turned}
use Rattle.hs_intake.specs.declared.took.Turned.TheVariants.{Done, Full, Spent}
use Rattle.hs_intake.specs.Intakes as acts
use Rattle.hs_intake.specs.Intakes.{PlainIntake, Line, lines_of, trigger_line, told_on, limited_in, HasRoom, Stands, Goes, Turns, Forgets, after_act, acts_in}

-- The end of the client with this number received these items, and all other ends are as they were.
pub record Receives {T : Type 0} (client : ℕ) (items : List T) (old new : List (Incoming T Key)) : Type 0 where
  pub before : Incoming T Key
  pub later : Incoming T Key
  pub at : IsEnd client old before
  pub new_is : new ≡ slice_set old client later
  pub same : IsSameReceiver before later
  pub received : later.received ≡ before.received ++ items

-- All that the end of this client was told of was received.
pub record IsDry {T : Type 0} (client : ℕ) (ends : List (Incoming T Key)) : Type 0 where
  pub end : Incoming T Key
  pub at : IsEnd client ends end
  pub all : IsBeginning end.told end.received

-- Of this line these items came, and no other end changed.
pub record Moves {T : Type 0} (line : Line T) (client : ℕ) (items : List T) (old new : PlainIntake) : Type 0 where
  pub receives : Receives client items (line.ends (lines_of old)) (line.ends (lines_of new))
  pub others : lines_of new ≡ line.with_ends (lines_of old) (line.ends (lines_of new))
  pub clients : new.clients ≡ old.clients

-- No word has a place, or one that was told still waits for its place.
abbrev pub IsMute : PlainIntake → Type 0
IsMute d = (d.mail.words.places ≤ length d.mail.words.pending) ⊎ IsSome d.unsaid

-- Of the traces that one more group may claim not each has a place.
abbrev pub IsShort : PlainIntake → Type 0
IsShort d = d.claims.most < length d.claims.claims + (MAX_LATERALS + 1)

-- ---- the next item

-- The next item came, and the agent took it.
pub record TakesOne {T : Type 0} (run : AgentRun Leased) (line : Line T) (client : ℕ) (old new : PlainIntake) : Type 0 where
  pub item : T
  pub moves : Moves line client (item ∷ []) old new
  pub back : new.back ≡ old.back
  pub goes : Goes run (line.takes client item ∷ []) old new

-- The next item came, and waits at the front. Nothing else changed.
pub record HoldsOne {T : Type 0} (run : AgentRun Leased) (line : Line T) (client : ℕ) (old new : PlainIntake) : Type 0 where
  pub item : T
  pub moves : Moves line client (item ∷ []) old new
  pub only : new ≡ record old { port = new.port; late = new.late; back = Some (line.waits client item) }
  pub stands : Stands run new

abbrev pub TakesNext : {T : Type 0} → AgentRun Leased → Line T → ℕ → PlainIntake → Next → PlainIntake → Type 0
TakesNext run line client old nexts.Taken new = TakesOne run line client old new
TakesNext run line client old (nexts.Stopped Empty) new = (new ≡ old) × IsDry client (line.ends (lines_of old))
TakesNext run line client old (nexts.Stopped Memory) new = HoldsOne run line client old new
TakesNext run line client old (nexts.Stopped Words) new = (new ≡ old) × IsMute old
TakesNext run line client old (nexts.Stopped Claims) new = (new ≡ old) × IsShort old
TakesNext run line client old (nexts.Stopped Most) new = ⊥

-- ---- as many as a pass takes

-- Why no more was taken, where these were.
abbrev pub StopsBy : {T : Type 0} → Line T → ℕ → List T → PlainIntake → Stop → PlainIntake → Type 0
StopsBy line client items old Empty new = Moves line client items old new × (new.back ≡ old.back) × IsDry client (line.ends (lines_of new))
StopsBy line client items old Most new = Moves line client items old new × (new.back ≡ old.back) × (length items ≡ MAX_TAKEN)
StopsBy {T} line client items old Memory new = (item : T) × Moves line client (items ++ item ∷ []) old new × (new.back ≡ Some (line.waits client item))
StopsBy line client items old Words new = Moves line client items old new × (new.back ≡ old.back) × IsMute new
StopsBy line client items old Claims new = Moves line client items old new × (new.back ≡ old.back) × IsShort new

-- The first items of a line came, and the agent took them, all or as many as a pass takes.
pub record TakesMany {T : Type 0} (run : AgentRun Leased) (line : Line T) (client : ℕ) (old : PlainIntake) (took : Took) (new : PlainIntake) : Type 0 where
  pub items : List T
  pub count : length items ≡ took.count
  pub few : length items ≤ MAX_TAKEN
  pub goes : Goes run (map (line.takes client) items) old new
  pub stops : StopsBy line client items old took.stop new

-- The same of any number of a client, whatever waits at the front.
abbrev pub TakesLine : {T : Type 0} → AgentRun Leased → Line T → ℕ → PlainIntake → Took → PlainIntake → Type 0
TakesLine run line client old took new =
    ((old.clients ≤ client) × ((took ≡ record { count = 0; stop = Empty }) × (new ≡ old)))
    ⊎ (((client < old.clients) × (IsSome old.back × ((took ≡ record { count = 0; stop = Memory }) × (new ≡ old))))
    ⊎ ((client < old.clients) × ((old.back ≡ None) × TakesMany run line client old took new)))

-- ---- triggers

-- The next trigger, and whether it told anything if it was taken.
abbrev pub TakesFired : AgentRun Leased → ℕ → PlainIntake → Fired → PlainIntake → Type 0
TakesFired run client old (fired.Taken tells) new = (one : TakesOne run trigger_line client old new) × (tells ≡ is_some (told_on run client one.item))
TakesFired run client old (fired.Stopped stop) new = TakesNext run trigger_line client old (nexts.Stopped stop) new

-- The first triggers came, and so many of them admitted no group.
abbrev pub TakesMost : AgentRun Leased → ℕ → PlainIntake → TookTriggers → PlainIntake → Type 0
TakesMost run client old took new = (many : TakesMany run trigger_line client old took.took new) × (took.limited ≡ limited_in run client many.items)

-- The next trigger left its link, or none had come. Nothing else changed.
abbrev pub DropsOne : AgentRun Leased → ℕ → PlainIntake → Bool → PlainIntake → Type 0
DropsOne run client old true new = (item : Trigger) × Moves trigger_line client (item ∷ []) old new × (new ≡ record old { port = new.port }) × Stands run new
DropsOne run client old false new = (new ≡ old) × IsDry client old.port.triggers

-- Why no more left, where these did.
abbrev pub DropsStop : List Trigger → ℕ → PlainIntake → Stop → Type 0
DropsStop items client new Empty = IsDry client new.port.triggers
DropsStop items client new Most = length items ≡ MAX_TAKEN
DropsStop items client new Memory = ⊥
DropsStop items client new Words = ⊥
DropsStop items client new Claims = ⊥

-- The first triggers left their link, and the agent did not see them.
pub record DropsMany (run : AgentRun Leased) (client : ℕ) (old : PlainIntake) (took : TookTriggers) (new : PlainIntake) : Type 0 where
  pub items : List Trigger
  pub count : length items ≡ took.took.count
  pub few : length items ≤ MAX_TAKEN
  pub limited : took.limited ≡ took.took.count
  pub moves : Moves trigger_line client items old new
  pub only : new ≡ record old { port = new.port }
  pub stands : Stands run new
  pub stops : DropsStop items client new took.took.stop

-- They are taken while one more group has a place for each of its traces; where it has none they leave.
abbrev pub TakesOrDrops : AgentRun Leased → ℕ → PlainIntake → TookTriggers → PlainIntake → Type 0
TakesOrDrops run client old took new = (HasRoom old.claims × TakesMost run client old took new) ⊎ (IsShort old × DropsMany run client old took new)

-- The same of any number of a client, whatever waits at the front.
abbrev pub TakesTriggers : AgentRun Leased → ℕ → PlainIntake → TookTriggers → PlainIntake → Type 0
TakesTriggers run client old took new =
    ((old.clients ≤ client) × ((took ≡ record { took = record { count = 0; stop = Empty }; limited = 0 }) × (new ≡ old)))
    ⊎ (((client < old.clients) × (IsSome old.back × ((took ≡ record { took = record { count = 0; stop = Memory }; limited = 0 }) × (new ≡ old))))
    ⊎ ((client < old.clients) × ((old.back ≡ None) × TakesOrDrops run client old took new)))

-- ---- asks

-- One ask of the inbox is taken, or none: the first waited, and the agent took it.
pub record TakesFirst (run : AgentRun Leased) (old new : PlainIntake) : Type 0 where
  pub ask : Ask
  pub rest : List Ask
  pub waited : old.inbox.asks ≡ ask ∷ rest
  pub only : new ≡ record old { agent = new.agent; mail = new.mail; claims = new.claims; unsaid = new.unsaid; inbox = record old.inbox { asks = rest } }
  pub goes : Goes run (acts.TakesAsk ask ∷ []) old new

abbrev pub TakesAsk : AgentRun Leased → PlainIntake → Next → PlainIntake → Type 0
TakesAsk run old nexts.Taken new = TakesFirst run old new
TakesAsk run old (nexts.Stopped Empty) new = (new ≡ old) × (old.inbox.asks ≡ [])
TakesAsk run old (nexts.Stopped Memory) new = (new ≡ old) × (0 < length old.inbox.asks)
TakesAsk run old (nexts.Stopped Words) new = (new ≡ old) × IsMute old
TakesAsk run old (nexts.Stopped Claims) new = (new ≡ old) × IsShort old
TakesAsk run old (nexts.Stopped Most) new = ⊥

-- Why no more was taken.
abbrev pub AsksStop : ℕ → PlainIntake → Stop → Type 0
AsksStop count new Empty = new.inbox.asks ≡ []
AsksStop count new Most = count ≡ MAX_TAKEN
AsksStop count new Memory = 0 < length new.inbox.asks
AsksStop count new Words = IsMute new
AsksStop count new Claims = IsShort new

-- The first asks that waited were taken, all or as many as a pass takes.
pub record TakesAsks (run : AgentRun Leased) (old : PlainIntake) (took : Took) (new : PlainIntake) : Type 0 where
  pub asks : List Ask
  pub rest : List Ask
  pub waited : old.inbox.asks ≡ asks ++ rest
  pub count : length asks ≡ took.count
  pub few : length asks ≤ MAX_TAKEN
  pub only : new ≡ record old { agent = new.agent; mail = new.mail; claims = new.claims; unsaid = new.unsaid; inbox = record old.inbox { asks = rest } }
  pub goes : Goes run (map acts.TakesAsk asks) old new
  pub stops : AsksStop took.count new took.stop

-- ---- the front

-- What waited at the front was taken, if anything did; or it waits on, and nothing changed.
abbrev pub TakesBack : AgentRun Leased → PlainIntake → Bool → PlainIntake → Type 0
TakesBack run old true new = (new.back ≡ None) × ((lines_of new ≡ lines_of old) × ((new.clients ≡ old.clients) × Goes run (acts_in old.back) old new))
TakesBack run old false new = IsSome old.back × (new ≡ old)

-- ---- a turn

-- each chunk that is pinned has a place for its page
abbrev pub HavePlaces : AgentRun Leased → PlainIntake → Type 0
HavePlaces run d = length (state_of run).pinned + length d.mail.pages.pending ≤ d.mail.pages.places

abbrev pub MakesTurn : AgentRun Leased → PlainIntake → Turned → PlainIntake → Type 0
MakesTurn run old Done new = HavePlaces run old × ((new ≡ record old { agent = new.agent }) × Goes run (Turns ∷ []) old new)
MakesTurn run old Full new = (HavePlaces run old → ⊥) × (new ≡ old)
MakesTurn run old Spent new = HavePlaces run old × ((new ≡ record old { agent = new.agent }) × IsSpent new.agent)

-- ---- forgetting

-- whether all messages up to the last are acknowledged, where this is the least number of those that wait
abbrev pub is_heard_by : (last oldest : Option ℕ) → Bool
is_heard_by None oldest = true
is_heard_by (Some last) None = true
is_heard_by (Some last) (Some oldest) = nat_lt last oldest

-- nothing waits to be said, and no chunk is in the hand
abbrev pub is_idle_in : AgentRun Leased → PlainIntake → Bool
is_idle_in run d = is_none d.unsaid && (length (state_of run).hand == 0)

-- The group may be forgotten: nothing is under way, all that speaks of it is acknowledged, and no chunk is pinned for it.
abbrev pub is_due : AgentRun Leased → PlainIntake → Claimant → Bool
is_due run d one = (is_idle_in run d && is_heard_by one.last (oldest_in d.mail)) && is_settled one.group (state_of run)

-- The group that claimed first was forgotten, with its claims; or it may not be, and nothing changed.
abbrev pub ForgetsOldest : AgentRun Leased → PlainIntake → Bool → PlainIntake → Type 0
ForgetsOldest run old true new =
    (one : Claimant) × (oldest old.claims ≡ Some one) × (is_due run old one ≡ true) × (new ≡ record old { agent = new.agent; claims = after_forget old.claims })
    × Stands (after_act run (Forgets one.group)) new
ForgetsOldest run old false new = (new ≡ old) × (option_map_or (is_due run old) (oldest old.claims) false ≡ false)

-- ---- what is said of a claim

abbrev pub StatesIt : PlainIntake → Standing → Stated → PlainIntake → Type 0
StatesIt old standing stated.Said new =
    (is_news_in old.claims standing ≡ true)
    × ((number : ℕ) × Posts old.mail (SaysStanding standing) (Ok number) new.mail × (new ≡ record old { mail = new.mail; claims = after_said old.claims standing number }))
StatesIt old standing stated.Known new = (is_news_in old.claims standing ≡ false) × (new ≡ old)
StatesIt old standing (stated.Waits fault) new = (is_news_in old.claims standing ≡ true) × ((new ≡ old) × Posts old.mail (SaysStanding standing) (Err fault) new.mail)
