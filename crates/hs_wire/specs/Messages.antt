-- How the messages of a service are spelled: a version, a kind, the head's fields, and what the message says, one field behind
-- another, with the highest byte of each number first. What may be longer or shorter has its length before it.
use Rattle.std.specs.Prelude.{◌≡◌, ℕ, ◌<◌, ◌≤◌, ◌^◌, List, [], ◌∷◌, ◌++◌, length}
use Rattle.std.specs.List.{flat_map, AllByRecursion}
use Rattle.std.specs.Int.{w16, w32, w64, w128, to_be_bytes}
use Rattle.hs_base.specs.declared.ids.GroupId.{GroupId}
use Rattle.hs_base.specs.declared.ids.TraceId.{TraceId}
use Rattle.hs_base.specs.declared.told.Group.{Group}
use Rattle.hs_base.specs.declared.told.Ask.{Ask}
use Rattle.hs_base.specs.declared.told.Told.{Told}
use Rattle.hs_base.specs.declared.told.Why.{Why}
use Rattle.hs_base.specs.declared.told.Why.TheVariants.{Fired, Answer, Late}
use Rattle.hs_base.specs.declared.limits.TheConstants.{MOST_NODES, MAX_LATERALS}
use Rattle.hs_wire.specs.declared.message.TheConstants.{VERSION, MOST_NAME, MOST_PAGE}
use Rattle.hs_wire.specs.declared.message.Head.{Head}
use Rattle.hs_wire.specs.declared.message.Hello.{Hello}
use Rattle.hs_wire.specs.declared.message.Reported.{Reported}
use Rattle.hs_wire.specs.declared.message.Losses.{Losses}
use Rattle.hs_wire.specs.declared.message.Wholeness.{Wholeness}
use Rattle.hs_wire.specs.declared.message.Wholeness.TheVariants.{WholeSince, Lost, UnheardSince, Unknown, Open}
use Rattle.hs_wire.specs.declared.message.Standing.{Standing}
use Rattle.hs_wire.specs.declared.message.Body.{Body}
use Rattle.hs_wire.specs.declared.message.Body.TheVariants as bodies
use Rattle.hs_wire.specs.declared.message.Message.{Message}

-- ---- messages without where their names and pages lie in memory

pub record PlainHello : Type 0 where
  pub digest : List ℕ
  pub name : List ℕ

pub record PlainReported : Type 0 where
  pub group : Group
  pub client : ℕ
  pub core : ℕ
  pub page : List ℕ

pub data Said : Type 0 where
  SaysHello : (hello : PlainHello) → Said
  SaysTold : (told : Told) → Said
  SaysAsk : (ask : Ask) → Said
  SaysReported : (reported : PlainReported) → Said
  SaysStanding : (standing : Standing) → Said

pub record PlainMessage : Type 0 where
  pub head : Head
  pub said : Said

abbrev pub plain_hello : Hello → PlainHello
plain_hello h = record { digest = h.digest; name = h.name.now }

abbrev pub plain_reported : Reported → PlainReported
plain_reported r = record { group = r.group; client = r.client; core = r.core; page = r.page.now }

abbrev pub said_of : Body → Said
said_of (bodies.Hello h) = SaysHello (plain_hello h)
said_of (bodies.Told t) = SaysTold t
said_of (bodies.Ask a) = SaysAsk a
said_of (bodies.Reported r) = SaysReported (plain_reported r)
said_of (bodies.Standing s) = SaysStanding s

abbrev pub plain : Message → PlainMessage
plain m = record { head = m.head; said = said_of m.body }

-- ---- parts of messages

unfoldable pub head_bytes : Head → List ℕ
head_bytes h = to_be_bytes w64 h.epoch ++ to_be_bytes w64 h.number ++ to_be_bytes w16 h.node.0

unfoldable pub id_bytes : GroupId → List ℕ
id_bytes id = to_be_bytes w16 id.node ++ to_be_bytes w32 id.number

unfoldable pub group_bytes : Group → List ℕ
group_bytes g = id_bytes g.id ++ g.trigger.0 ∷ [] ++ to_be_bytes w128 g.lead.0

abbrev pub trace_bytes : TraceId → List ℕ
trace_bytes trace = to_be_bytes w128 trace.0

-- how many traces there are, and then each
unfoldable pub traces_bytes : List TraceId → List ℕ
traces_bytes traces = length traces ∷ flat_map trace_bytes traces

abbrev pub why_byte : Why → ℕ
why_byte Fired = 0
why_byte Answer = 1
why_byte Late = 2

abbrev pub wholeness_byte : Wholeness → ℕ
wholeness_byte WholeSince = 0
wholeness_byte Lost = 1
wholeness_byte UnheardSince = 2
wholeness_byte Unknown = 3
wholeness_byte Open = 4

unfoldable pub losses_bytes : Losses → List ℕ
losses_bytes l =
    to_be_bytes w64 l.null_pages ++ to_be_bytes w64 l.full_points ++ to_be_bytes w64 l.dry_points ++ to_be_bytes w64 l.long_points
    ++ to_be_bytes w64 l.refused_crumbs ++ to_be_bytes w64 l.evicted_crumbs ++ to_be_bytes w64 l.forgotten_crumbs
    ++ to_be_bytes w64 l.evicted_pages ++ to_be_bytes w64 l.abandoned_pages

-- ---- what messages say

unfoldable pub hello_bytes : PlainHello → List ℕ
hello_bytes h = h.digest ++ length h.name ∷ h.name

unfoldable pub told_bytes : Told → List ℕ
told_bytes t = group_bytes t.group ++ why_byte t.why ∷ [] ++ to_be_bytes w128 t.crumbs.0 ++ traces_bytes t.laterals

unfoldable pub ask_bytes : Ask → List ℕ
ask_bytes a = group_bytes a.group ++ traces_bytes a.laterals

unfoldable pub reported_bytes : PlainReported → List ℕ
reported_bytes r = group_bytes r.group ++ to_be_bytes w16 r.client ++ to_be_bytes w64 r.core ++ to_be_bytes w16 (length r.page) ++ r.page

unfoldable pub standing_bytes : Standing → List ℕ
standing_bytes s =
    to_be_bytes w128 s.trace.0 ++ id_bytes s.group ++ wholeness_byte s.wholeness ∷ [] ++ to_be_bytes w32 s.open_segments ++ to_be_bytes w64 s.horizon
    ++ to_be_bytes w64 s.pages ++ to_be_bytes w128 s.crumbs.0 ++ losses_bytes s.losses

abbrev pub kind_of : Said → ℕ
kind_of (SaysHello h) = 1
kind_of (SaysTold t) = 2
kind_of (SaysAsk a) = 3
kind_of (SaysReported r) = 4
kind_of (SaysStanding s) = 5

abbrev pub said_bytes : Said → List ℕ
said_bytes (SaysHello h) = hello_bytes h
said_bytes (SaysTold t) = told_bytes t
said_bytes (SaysAsk a) = ask_bytes a
said_bytes (SaysReported r) = reported_bytes r
said_bytes (SaysStanding s) = standing_bytes s

-- all bytes of a message
abbrev pub message_bytes : PlainMessage → List ℕ
message_bytes m = VERSION ∷ kind_of m.said ∷ head_bytes m.head ++ said_bytes m.said

-- ---- what has a spelling: nodes are below 128, names and pages are not too long, and numbers fit their fields

abbrev pub AreBytes : List ℕ → Type 0
AreBytes = AllByRecursion (λ byte. byte < 256)

pub record IsHead (h : Head) : Type 0 where
  pub epoch : h.epoch < 2 ^ 64
  pub number : h.number < 2 ^ 64
  pub node : h.node.0 < MOST_NODES

pub record IsId (id : GroupId) : Type 0 where
  pub node : id.node < MOST_NODES
  pub number : id.number < 2 ^ 32

pub record IsGroup (g : Group) : Type 0 where
  pub id : IsId g.id
  pub trigger : g.trigger.0 < 2 ^ 8
  pub lead : g.lead.0 < 2 ^ 128

abbrev pub FitTraces : List TraceId → Type 0
FitTraces = AllByRecursion (λ (trace : TraceId). trace.0 < 2 ^ 128)

pub record AreTraces (traces : List TraceId) : Type 0 where
  pub few : length traces ≤ MAX_LATERALS
  pub fit : FitTraces traces

pub record AreLosses (l : Losses) : Type 0 where
  pub null_pages : l.null_pages < 2 ^ 64
  pub full_points : l.full_points < 2 ^ 64
  pub dry_points : l.dry_points < 2 ^ 64
  pub long_points : l.long_points < 2 ^ 64
  pub refused_crumbs : l.refused_crumbs < 2 ^ 64
  pub evicted_crumbs : l.evicted_crumbs < 2 ^ 64
  pub forgotten_crumbs : l.forgotten_crumbs < 2 ^ 64
  pub evicted_pages : l.evicted_pages < 2 ^ 64
  pub abandoned_pages : l.abandoned_pages < 2 ^ 64

pub record IsHello (h : PlainHello) : Type 0 where
  pub whole : length h.digest ≡ 32
  pub digest : AreBytes h.digest
  pub short : length h.name ≤ MOST_NAME
  pub name : AreBytes h.name

pub record IsTold (t : Told) : Type 0 where
  pub group : IsGroup t.group
  pub crumbs : t.crumbs.0 < 2 ^ 128
  pub laterals : AreTraces t.laterals

pub record IsAsk (a : Ask) : Type 0 where
  pub group : IsGroup a.group
  pub laterals : AreTraces a.laterals

pub record IsReported (r : PlainReported) : Type 0 where
  pub group : IsGroup r.group
  pub client : r.client < 2 ^ 16
  pub core : r.core < 2 ^ 64
  pub short : length r.page ≤ MOST_PAGE
  pub page : AreBytes r.page

pub record IsStanding (s : Standing) : Type 0 where
  pub trace : s.trace.0 < 2 ^ 128
  pub group : IsId s.group
  pub open_segments : s.open_segments < 2 ^ 32
  pub horizon : s.horizon < 2 ^ 64
  pub pages : s.pages < 2 ^ 64
  pub crumbs : s.crumbs.0 < 2 ^ 128
  pub losses : AreLosses s.losses

abbrev pub IsSaid : Said → Type 0
IsSaid (SaysHello h) = IsHello h
IsSaid (SaysTold t) = IsTold t
IsSaid (SaysAsk a) = IsAsk a
IsSaid (SaysReported r) = IsReported r
IsSaid (SaysStanding s) = IsStanding s

pub record IsMessage (m : PlainMessage) : Type 0 where
  pub head : IsHead m.head
  pub said : IsSaid m.said
