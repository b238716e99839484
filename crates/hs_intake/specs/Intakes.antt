-- What contracts see of the intake of a node: its agent, the ends of its clients' links, its mail, and what waits at the front. Which run
-- of the agent's model it stands at, and what an act makes of that run.
use Rattle.std.specs.Prelude.{◌≡◌, ℕ, ◌+◌, ◌<◌, ◌≤◌, ◌^◌, nat_lt, if◌then◌else◌, Bool, true, false, List, [], ◌∷◌, ◌++◌, length, map, fold, filter, filter_map, Option, Some, None, Ok}
use Rattle.std.specs.List.{AllByRecursion}
use Rattle.std.specs.Option.{option_to_list, is_some}
use Rattle.hs_base.specs.Rules.{is_declared}
use Rattle.hs_base.specs.declared.told.Ask.{Ask}
use Rattle.hs_base.specs.declared.told.Crumb.{Crumb}
use Rattle.hs_base.specs.declared.told.Group.{Group}
use Rattle.hs_base.specs.declared.told.Told.{Told}
use Rattle.hs_base.specs.declared.told.Trigger.{Trigger}
use Rattle.hs_base.specs.declared.told.Why.{Why}
use Rattle.hs_base.specs.declared.told.Why.TheVariants.{Fired, Answer, Late}
use Rattle.hs_base.specs.declared.limits.TheConstants.{MAX_LATERALS}
use Rattle.hs_records.specs.Plain.{PlainSettings}
use Rattle.hs_words.specs.Buffers.{Buffer}
use Rattle.hs_ring.specs.Parts.{Leased, Giving}
use Rattle.hs_link.specs.Contents.{Incoming}
use Rattle.hs_live.specs.Keys.{Key}
use Rattle.hs_live.specs.Live.{Port, IsEnd}
use Rattle.hs_wire.specs.Messages.{Said, SaysHello, SaysTold, SaysAsk, SaysReported, SaysStanding}
use Rattle.hs_claimed.specs.Claims.{PlainClaims}
use Rattle.hs_claimed.specs.Lives as claimed
use Rattle.hs_law_agent.specs.Stepping.{Answered, Gave, Crumbed, Triggered, Asked, told_by}
use Rattle.hs_agent.specs.Keeping.{PlainAgent}
use Rattle.hs_agent.specs.Runs.{AgentRun, state_of, Follows, IsChunkFor, after_chunk, after_turn, after_offer, with_back, forgetting}
use Rattle.hs_agent.specs.Tries.{after_crumb, after_trigger, after_ask}
use Rattle.hs_inbox.specs.Delivering.{PlainInbox}
use Rattle.hs_mail.specs.Letters.{Letters, MailDeed, Says, Causes, after}
use Rattle.hs_mail.specs.Lives as mail

-- what came, and found no memory
pub data Waiting : Type 0 where
  Chunk : (client : ℕ) (buffer : Buffer Leased) → Waiting
  Crumbs : (client : ℕ) (crumb : Crumb) → Waiting
  Triggers : (client : ℕ) (trigger : Trigger) → Waiting

pub record PlainIntake : Type 0 where
  pub agent : PlainAgent Leased
  pub port : Port
  -- the ends that receive the clients' crumbs of traces that need not be open
  pub late : List (Incoming Crumb Key)
  pub mail : Letters
  pub inbox : PlainInbox
  -- the traces that groups claim, until the groups are forgotten
  pub claims : PlainClaims
  pub clients : ℕ
  -- what waits at the front
  pub back : Option Waiting
  -- what the agent told, and found no place in the mail
  pub unsaid : Option Told

-- one at whose front nothing waits
abbrev pub new_intake : PlainAgent Leased → Port → List (Incoming Crumb Key) → Letters → PlainInbox → PlainClaims → ℕ → PlainIntake
new_intake agent port late mail inbox claims clients = record { agent = agent; port = port; late = late; mail = mail; inbox = inbox; claims = claims; clients = clients; back = None; unsaid = None }

-- ---- what the agent takes

-- one act of the agent
pub data IntakeAct : Type 0 where
  TakesChunk : (client : ℕ) (buffer : Buffer Leased) → IntakeAct
  TakesCrumb : (client : ℕ) (crumb : Crumb) → IntakeAct
  TakesTrigger : (client : ℕ) (trigger : Trigger) → IntakeAct
  TakesAsk : (ask : Ask) → IntakeAct
  Turns : IntakeAct
  -- the pool answers so to the chunk in front, and gives it back where it did not take it
  LetsGo : (answer : Answered) (back : Option (Buffer Leased)) → IntakeAct
  -- a group is forgotten
  Forgets : (group : Group) → IntakeAct

-- whether a number is left for one more trigger that is admitted
abbrev pub has_left : AgentRun Leased → Bool
has_left run = nat_lt ((state_of run).admitted + 1) (2 ^ 32)

-- The run after an act. A trigger for which no number is left leaves the run as it is.
abbrev pub after_act : AgentRun Leased → IntakeAct → AgentRun Leased
after_act run (TakesChunk client buffer) = after_chunk run client buffer
after_act run (TakesCrumb client crumb) = after_crumb run client crumb
after_act run (TakesTrigger client trigger) = if has_left run then after_trigger run client trigger else run
after_act run (TakesAsk ask) = after_ask run ask
after_act run Turns = after_turn run
after_act run (LetsGo answer back) =
    record run { events = run.events ++ Gave answer ∷ []; buffers = with_back (after_offer run) back; offered = None }
after_act run (Forgets group) = forgetting group run

-- the run after these acts
abbrev pub life : AgentRun Leased → List IntakeAct → AgentRun Leased
life = fold after_act

-- what a trigger makes the agent tell
abbrev pub told_on : AgentRun Leased → ℕ → Trigger → Option Told
told_on run client trigger = if has_left run then told_by run.settings run.node (state_of run) (Triggered client trigger) else None

-- what an act tells
abbrev pub told_at : AgentRun Leased → IntakeAct → List Told
told_at run (TakesChunk client buffer) = []
told_at run (TakesCrumb client crumb) = option_to_list (told_by run.settings run.node (state_of run) (Crumbed client crumb))
told_at run (TakesTrigger client trigger) = option_to_list (told_on run client trigger)
told_at run (TakesAsk ask) = option_to_list (told_by run.settings run.node (state_of run) (Asked ask))
told_at run Turns = []
told_at run (LetsGo answer back) = []
told_at run (Forgets group) = []

-- and what these acts tell, one after another
abbrev pub told_in : AgentRun Leased → List IntakeAct → List Told
told_in run [] = []
told_in run (act ∷ acts) = told_at run act ++ told_in (after_act run act) acts

-- one, if a trigger that comes now admits no group
abbrev pub limit_of : AgentRun Leased → ℕ → Trigger → ℕ
limit_of run client trigger = if is_some (told_on run client trigger) then 0 else 1

-- how many of these triggers of a client admit no group
abbrev pub limited_in : AgentRun Leased → ℕ → List Trigger → ℕ
limited_in run client [] = 0
limited_in run client (trigger ∷ triggers) = limit_of run client trigger + limited_in (after_act run (TakesTrigger client trigger)) client triggers

-- ---- where an intake stands

-- The key of an end of the client with this number.
pub record IsKeyFor (settings : PlainSettings) (node : ℕ) (giver : Giving) (client : ℕ) (key : Key) : Type 0 where
  pub client_is : key.client ≡ record { node = node; number = client }
  pub pool : key.pool ≡ giver.pool
  pub size : key.size ≡ settings.size
  pub nodes : key.nodes ≡ settings.nodes
  pub rules : key.rules ≡ settings.triggers

-- There is an end of each client, with its key.
pub record AreFor {T : Type 0} (settings : PlainSettings) (node : ℕ) (giver : Giving) (clients : ℕ) (ends : List (Incoming T Key)) : Type 0 where
  pub count : length ends ≡ clients
  pub keys : (client : ℕ) (r : Incoming T Key) → IsEnd client ends r → IsKeyFor settings node giver client r.key

-- a chunk of the giver's pool
abbrev pub IsPooled : Giving → Buffer Leased → Type 0
IsPooled giver buffer = (buffer.lease.pool ≡ giver.pool) × (buffer.chunk.size ≡ giver.size)

-- What waits may be taken.
abbrev pub MayWait : PlainSettings → ℕ → Giving → Waiting → Type 0
MayWait settings node giver (Chunk client buffer) = IsChunkFor settings node client buffer × IsPooled giver buffer
MayWait settings node giver (Crumbs client crumb) = crumb.node.0 < settings.nodes
MayWait settings node giver (Triggers client trigger) = is_declared settings.triggers trigger.trigger ≡ true

abbrev pub MayWaitIf : PlainSettings → ℕ → Giving → Option Waiting → Type 0
MayWaitIf settings node giver None = Unit {0}
MayWaitIf settings node giver (Some waiting) = MayWait settings node giver waiting

-- Between two calls the intake stands at this run of its agent.
pub record Stands (run : AgentRun Leased) (d : PlainIntake) : Type 0 where
  pub follows : Follows d.agent run
  pub offered : run.offered ≡ None
  pub size : d.port.giver.size ≡ run.settings.size
  pub chunks : AreFor run.settings run.node d.port.giver d.clients d.port.chunks
  pub crumbs : AreFor run.settings run.node d.port.giver d.clients d.port.crumbs
  pub triggers : AreFor run.settings run.node d.port.giver d.clients d.port.triggers
  pub late : AreFor run.settings run.node d.port.giver d.clients d.late
  pub pooled : AllByRecursion (IsPooled d.port.giver) run.buffers
  pub waits : MayWaitIf run.settings run.node d.port.giver d.back
  pub inbox : d.inbox.rules ≡ run.settings.triggers

-- ---- what is claimed

-- the claims after these deeds, one after another
abbrev pub claims_life : PlainClaims → List claimed.ClaimDeed → PlainClaims
claims_life = fold claimed.after

-- a group that fired or answered claims its lead and its laterals
abbrev pub claim_for : Why → Told → Option claimed.ClaimDeed
claim_for Fired told = Some (claimed.Claims told.group told.laterals)
claim_for Answer told = Some (claimed.Claims told.group told.laterals)
claim_for Late told = None

abbrev pub claim_by : Told → Option claimed.ClaimDeed
claim_by told = claim_for told.why told

-- what is noted of a message with this number: that it speaks of its group, and which nodes it names
abbrev pub note_of : ℕ → Said → Option claimed.ClaimDeed
note_of number (SaysHello hello) = None
note_of number (SaysTold told) = Some (claimed.Names told.group.id told.crumbs number)
note_of number (SaysAsk ask) = None
note_of number (SaysReported reported) = Some (claimed.Speaks reported.group.id number)
note_of number (SaysStanding standing) = Some (claimed.Says standing number)

-- and of messages with the numbers from this one on
abbrev pub notes_from : ℕ → List Said → List claimed.ClaimDeed
notes_from number [] = []
notes_from number (said ∷ later) = option_to_list (note_of number said) ++ notes_from (number + 1) later

abbrev pub is_claim : claimed.ClaimDeed → Bool
is_claim (claimed.Claims group laterals) = true
is_claim (claimed.Speaks group number) = false
is_claim (claimed.Names group nodes number) = false
is_claim (claimed.Says standing number) = false
is_claim claimed.LooksOn = false
is_claim claimed.Forgets = false

abbrev pub is_note : claimed.ClaimDeed → Bool
is_note (claimed.Claims group laterals) = false
is_note (claimed.Speaks group number) = true
is_note (claimed.Names group nodes number) = true
is_note (claimed.Says standing number) = true
is_note claimed.LooksOn = false
is_note claimed.Forgets = false

-- there is a place for each trace that one more group may claim
abbrev pub HasRoom : PlainClaims → Type 0
HasRoom claims = length claims.claims + (MAX_LATERALS + 1) ≤ claims.most

-- Each claim of these deeds has room when it is made.
abbrev pub HaveRoom : PlainClaims → List claimed.ClaimDeed → Type 0
HaveRoom claims [] = Unit {0}
HaveRoom claims (deed ∷ deeds) = (is_claim deed ≡ true → HasRoom claims) × HaveRoom (claimed.after claims deed) deeds

-- The claims of what was told are made where each has room, and what was said is noted with the numbers from this one on.
pub record ClaimsBy (old : PlainClaims) (told : List Told) (number : ℕ) (said : List Said) (new : PlainClaims) : Type 0 where
  pub deeds : List claimed.ClaimDeed
  pub claims : new ≡ claims_life old deeds
  pub made : filter is_claim deeds ≡ filter_map claim_by told
  pub noted : filter is_note deeds ≡ notes_from number said
  pub room : HaveRoom old deeds

-- ---- what is told

abbrev pub says : Told → MailDeed
says told = Says (SaysTold told)

-- Each of these is put into the outbox where it is said: it is a post that is answered with its number.
abbrev pub ArePut : Letters → List Told → Type 0
ArePut m [] = Unit {0}
ArePut m (told ∷ later) = Causes m (SaysTold told) (Ok m.fresh) × ArePut (after m (says told)) later

-- What was told before and found no place, and what is told now, is said in this order, but for the last of it, which may find no place.
pub record Tells (old : PlainIntake) (told : List Told) (new : PlainIntake) : Type 0 where
  pub said : List Told
  pub mail : new.mail ≡ mail.life old.mail (map says said)
  pub put : ArePut old.mail said
  pub all : option_to_list old.unsaid ++ told ≡ said ++ option_to_list new.unsaid
  -- the groups that fired or answered claim their traces, and what is said is noted with its number
  pub claims : ClaimsBy old.claims told old.mail.fresh (map SaysTold said) new.claims

-- What waits is said, if anything does, or it waits on.
pub record SaysIt (old : Letters) (claims : PlainClaims) (told : Option Told) (new : Letters) (claims' : PlainClaims) (unsaid : Option Told) : Type 0 where
  pub said : List Told
  pub mail : new ≡ mail.life old (map says said)
  pub put : ArePut old said
  pub all : option_to_list told ≡ said ++ option_to_list unsaid
  -- and is noted with its number
  pub noted : claims' ≡ claims_life claims (notes_from old.fresh (map SaysTold said))

-- The agent's run goes on by these acts, and what they tell is said.
pub record Goes (run : AgentRun Leased) (acts : List IntakeAct) (old new : PlainIntake) : Type 0 where
  pub stands : Stands (life run acts) new
  pub tells : Tells old (told_in run acts) new

-- ---- the lines of a client

-- all ends of the clients' links
pub record Lines : Type 0 where
  pub port : Port
  pub late : List (Incoming Crumb Key)

abbrev pub lines_of : PlainIntake → Lines
lines_of d = record { port = d.port; late = d.late }

-- one of the links of each client: its ends, and what an item of it is to the agent
pub record Line (T : Type 0) : Type 0 where
  pub ends : Lines → List (Incoming T Key)
  pub with_ends : Lines → List (Incoming T Key) → Lines
  pub takes : ℕ → T → IntakeAct
  pub waits : ℕ → T → Waiting

abbrev pub chunk_line : Line (Buffer Leased)
chunk_line = record { ends = λ lines. lines.port.chunks; with_ends = λ lines ends. record lines { port = record lines.port { chunks = ends } }; takes = TakesChunk; waits = Chunk }

abbrev pub crumb_line : Line Crumb
crumb_line = record { ends = λ lines. lines.port.crumbs; with_ends = λ lines ends. record lines { port = record lines.port { crumbs = ends } }; takes = TakesCrumb; waits = Crumbs }

-- crumbs of traces that need not be open
abbrev pub late_line : Line Crumb
late_line = record { ends = λ lines. lines.late; with_ends = λ lines ends. record lines { late = ends }; takes = TakesCrumb; waits = Crumbs }

abbrev pub trigger_line : Line Trigger
trigger_line = record { ends = λ lines. lines.port.triggers; with_ends = λ lines ends. record lines { port = record lines.port { triggers = ends } }; takes = TakesTrigger; waits = Triggers }

-- ---- the front

-- the act by which what waits is taken
abbrev pub acts_in : Option Waiting → List IntakeAct
acts_in None = []
acts_in (Some (Chunk client buffer)) = TakesChunk client buffer ∷ []
acts_in (Some (Crumbs client crumb)) = TakesCrumb client crumb ∷ []
acts_in (Some (Triggers client trigger)) = TakesTrigger client trigger ∷ []
