-- What contracts see of a client, and of the port of its agent: their ends, and what these know. A chunk travels with its
-- lease, and the two are seen as a buffer.
use Rattle.std.specs.Prelude.{◌≡◌, ℕ, ◌<◌, List, [], ◌∷◌, ◌++◌, length, map, slice_get, slice_set, Option, Some, None}
use Rattle.hs_base.specs.declared.told.Crumb.{Crumb}
use Rattle.hs_base.specs.declared.told.Trigger.{Trigger}
use Rattle.hs_words.specs.declared.token.Held.{Held}
use Rattle.hs_words.specs.Buffers.{Buffer, buffer_of}
use Rattle.hs_client.specs.Core.{Core}
use Rattle.hs_auto.specs.Watching.{Watch}
use Rattle.hs_link.specs.Contents.{Outgoing, Incoming, sent, IsBeginning, OneBegins, IsSameSender, IsSameReceiver, SeemsFull, TakesPlaces, AreEnds, Contains}
use Rattle.hs_ring.specs.Parts.{Leased, Drawing, Giving}
use Rattle.hs_live.specs.Keys.{Key}

pub record PlainClient : Type 0 where
  pub core : Core Leased
  pub autos : List Watch
  pub drawer : Drawing
  pub chunks : Outgoing (Buffer Leased) Key
  pub crumbs : Outgoing Crumb Key
  pub triggers : Outgoing Trigger Key

-- The receiving ends stand by the number of their client.
pub record Port : Type 0 where
  pub giver : Giving
  pub chunks : List (Incoming (Buffer Leased) Key)
  pub crumbs : List (Incoming Crumb Key)
  pub triggers : List (Incoming Trigger Key)

-- an end of a link of chunks, which are seen as buffers
abbrev pub outgoing : {g : _} → Outgoing (Held Leased g) Key → Outgoing (Buffer Leased) Key
outgoing s = record { link = s.link; key = s.key; capacity = s.capacity; room = s.room; put = map buffer_of s.put; outbox = map buffer_of s.outbox; taken = s.taken }

abbrev pub incoming : {g : _} → Incoming (Held Leased g) Key → Incoming (Buffer Leased) Key
incoming r = record { link = r.link; key = r.key; received = map buffer_of r.received; told = map buffer_of r.told }

module _ {T F : Type 0} where
  -- The sender is the same end and was told nothing, and what it had put is the beginning of what it put.
  pub record GoesOn (s t : Outgoing T F) : Type 0 where
    pub same : IsSameSender s t
    pub put : IsBeginning s.put t.put

  -- It was given this item.
  pub record Sends (item : T) (s t : Outgoing T F) : Type 0 where
    pub goes : GoesOn s t
    pub items : sent t ≡ sent s ++ item ∷ []

  -- Of its outbox it put what the ring took.
  pub record Flushes (s t : Outgoing T F) : Type 0 where
    pub goes : GoesOn s t
    pub items : sent t ≡ sent s
    pub places : TakesPlaces 0 s t
    pub kept : 0 < length t.outbox → SeemsFull t

  -- the sender after it heard how many items the receiver took
  abbrev pub hears : Outgoing T F → Incoming T F → Outgoing T F
  hears s r = record s { taken = length r.received }

  -- the receiver after it heard what the sender put
  abbrev pub is_told : Incoming T F → Outgoing T F → Incoming T F
  is_told r s = record r { told = s.put }

  -- the receiving end of the client with this number
  abbrev pub IsEnd : ℕ → List (Incoming T F) → Incoming T F → Type 0
  IsEnd number receivers r = slice_get receivers number ≡ Some r

  -- The client with this number has the other end of the link.
  abbrev pub IsMate : ℕ → List (Incoming T F) → Outgoing T F → Type 0
  IsMate number receivers s = (r : Incoming T F) × IsEnd number receivers r × AreEnds s r

  -- Each end of the link of the client with this number hears what the other did. What was received is the beginning of
  -- what was sent.
  pub record MeetAt (number : ℕ) (receivers : List (Incoming T F)) (s : Outgoing T F) (receivers' : List (Incoming T F)) (s' : Outgoing T F) : Type 0 where
    pub receiver : Incoming T F
    pub end : IsEnd number receivers receiver
    pub receivers_are : receivers' ≡ slice_set receivers number (is_told receiver s)
    pub sender_is : s' ≡ hears s receiver
    pub contents : Contains s receiver
    pub keys : receiver.key ≡ s.key

  -- The next item of the client with this number was received, or none, where all that its receiver was told of was.
  abbrev pub ReceivesAt : ℕ → List (Incoming T F) → Option T → List (Incoming T F) → Type 0
  ReceivesAt number receivers (Some item) receivers' =
      (r : Incoming T F) × (r' : Incoming T F) × IsEnd number receivers r × (receivers' ≡ slice_set receivers number r')
      × IsSameReceiver r r' × (r'.received ≡ r.received ++ item ∷ []) × OneBegins r'.received r'.told
  ReceivesAt number receivers None receivers' = (r : Incoming T F) × IsEnd number receivers r × (receivers' ≡ receivers) × IsBeginning r.told r.received
