-- The lines from which an agent takes, one of each kind for each client. While rounds are made a line is the receiving end of a link;
-- when the links are closed it is what is left of one. An agent takes from both alike.
use Rattle.std.specs.Prelude.{◌≡◌, ℕ, ◌-◌, ◌≤◌, min, List, [], ◌∷◌, ◌++◌, length, map, slice_get, slice_set, Option, Some, None, refl}
use Rattle.hs_base.specs.declared.limits.TheConstants.{MAX_TAKEN}
use Rattle.hs_base.specs.declared.told.Crumb.{Crumb}
use Rattle.hs_base.specs.declared.told.Trigger.{Trigger}
use Rattle.hs_link.specs.Contents.{Incoming, Remaining, IsSameReceiver}
use Rattle.hs_live.specs.Keys.{Key}
use Rattle.hs_live.specs.Live.{Port}
use Rattle.hs_records.specs.Plain.{PlainWorkload}
use Rattle.hs_ring.specs.Parts.{Leased, Giving}
use Rattle.hs_words.specs.Buffers.{Buffer}
use Rattle.hs_words.specs.Pools.{PoolName}

pub data Intake (T : Type 0) : Type 0 where
  linked : Incoming T Key → Intake T
  closed : Remaining T Key → Intake T

-- the lines of a node, each list by the number of the client, and the giver of its pool
pub record Intakes : Type 0 where
  pub giver : Giving
  pub chunks : List (Intake (Buffer Leased))
  pub crumbs : List (Intake Crumb)
  pub triggers : List (Intake Trigger)

abbrev pub intakes_of : Port → Intakes
intakes_of port =
    record {
      giver = port.giver;
      chunks = map (λ r. linked r) port.chunks;
      crumbs = map (λ r. linked r) port.crumbs;
      triggers = map (λ r. linked r) port.triggers;
    }

-- the line of the client with this number
abbrev pub IsIntakeAt : {T : Type 0} → ℕ → List (Intake T) → Intake T → Type 0
IsIntakeAt client lines l = slice_get lines client ≡ Some l

abbrev pub key_of : {T : Type 0} → Intake T → Key
key_of (linked r) = r.key
key_of (closed r) = r.key

-- how many items it is known to have: those that the receiver was told of and did not receive, or all that are left
abbrev pub due : {T : Type 0} → Intake T → ℕ
due (linked r) = length r.told - length r.received
due (closed r) = length r.items

-- The line gave these items out, one after another, and nothing else about it changed.
abbrev pub Hands : {T : Type 0} → List T → Intake T → Intake T → Type 0
Hands items (linked r) (linked q) = IsSameReceiver r q × (q.received ≡ r.received ++ items)
Hands items (closed r) (closed q) = (q.key ≡ r.key) × (r.items ≡ items ++ q.items)
Hands items (linked r) (closed q) = ⊥
Hands items (closed r) (linked q) = ⊥

-- The line of this client gave the next item out, or had none that it was known to have.
abbrev pub HandsAt : {T : Type 0} → ℕ → List (Intake T) → Option T → List (Intake T) → Type 0
HandsAt {T} client lines (Some item) lines' =
    (l : Intake T) × (l' : Intake T) × (slice_get lines client ≡ Some l) × (lines' ≡ slice_set lines client l') × Hands (item ∷ []) l l'
HandsAt {T} client lines None lines' = (l : Intake T) × (slice_get lines client ≡ Some l) × (lines' ≡ lines) × (due l ≡ 0)

-- In a pass the line gives out what it is known to have, or as many items as a pass takes, and never more than these.
pub record HandsOut {T : Type 0} (items : List T) (old new : Intake T) : Type 0 where
  pub hands : Hands items old new
  pub few : length items ≤ MAX_TAKEN
  pub all : min (due old) MAX_TAKEN ≤ length items

-- the line of this client did so, and the others are as they were
pub record HandsOutAt {T : Type 0} (client : ℕ) (items : List T) (old new : List (Intake T)) : Type 0 where
  pub before : Intake T
  pub after : Intake T
  pub at : slice_get old client ≡ Some before
  pub set : new ≡ slice_set old client after
  pub out : HandsOut items before after

-- the first lines did so, each with its list, and the others are as they were
abbrev pub HandOutFirst : {T : Type 0} → List (List T) → List (Intake T) → List (Intake T) → Type 0
HandOutFirst [] old new = new ≡ old
HandOutFirst (items ∷ lists) [] new = ⊥
HandOutFirst (items ∷ lists) (l ∷ old) [] = ⊥
HandOutFirst (items ∷ lists) (l ∷ old) (l' ∷ new) = HandsOut items l l' × HandOutFirst lists old new

-- ---- keys

-- the key of a client of the node with this pool
abbrev pub key_for : PlainWorkload → ℕ → PoolName → ℕ → Key
key_for W node pool client =
    record {
      client = record { node = node; number = client };
      pool = pool;
      size = W.settings.size;
      nodes = W.settings.nodes;
      rules = W.settings.triggers;
    }

-- each line has the key of its client
pub record AreIntakesFor {T : Type 0} (W : PlainWorkload) (node : ℕ) (pool : PoolName) (lines : List (Intake T)) : Type 0 where
  pub count : length lines ≡ W.settings.clients
  pub keys : (client : ℕ) (l : Intake T) → IsIntakeAt client lines l → key_of l ≡ key_for W node pool client

-- The lines are those of the node's clients, and the giver is that of its pool.
pub record AreIntakes (W : PlainWorkload) (node : ℕ) (pool : PoolName) (lines : Intakes) : Type 0 where
  pub pool_is : lines.giver.pool ≡ pool
  pub size : lines.giver.size ≡ W.settings.size
  pub chunks : AreIntakesFor W node pool lines.chunks
  pub crumbs : AreIntakesFor W node pool lines.crumbs
  pub triggers : AreIntakesFor W node pool lines.triggers

-- ---- examples

abbrev any_key : Key
any_key = record { client = record { node = 0; number = 0 }; pool = []; size = 64; nodes = 1; rules = [] }

abbrev three_left : Intake ℕ
three_left = closed (record { key = any_key; items = 4 ∷ 5 ∷ 6 ∷ [] })

abbrev one_left : Intake ℕ
one_left = closed (record { key = any_key; items = 6 ∷ [] })

two_go : Hands (4 ∷ 5 ∷ []) three_left one_left
two_go = (refl, refl)

three_are_due : (due three_left ≡ 3) × (due one_left ≡ 1)
three_are_due = (refl, refl)
