-- What a link contains, as its two ends see it.
-- Each item that was sent is in one of three places, in this order: received, in the ring, in the sender's outbox.
-- The ends learn of each other only when they are brought together: the receiver is told what was put into the ring, the sender how many items were taken.
use Rattle.std.specs.Prelude.{◌≡◌, ◌⊎◌, ℕ, ◌+◌, ◌^◌, ◌≤◌, List, [], ◌∷◌, ◌++◌, length, take, refl}
use Rattle.atomic_table.specs.Seated.{TableId}

-- what a sender is: its link and key, the entries of the ring, the places of its outbox, what it put into the ring, what waits in its outbox, and how many it was told were taken
pub record Outgoing (T F : Type 0) : Type 0 where
  pub link : TableId
  pub key : F
  pub capacity : ℕ
  pub room : ℕ
  pub put : List T
  pub outbox : List T
  pub taken : ℕ

-- what a receiver is: its link and key, what it received, and what it was told was put
pub record Incoming (T F : Type 0) : Type 0 where
  pub link : TableId
  pub key : F
  pub received : List T
  pub told : List T

-- what is left of a closed link, the oldest item first
pub record Remaining (T F : Type 0) : Type 0 where
  pub key : F
  pub items : List T

module _ {T : Type 0} where
  -- the first items of ys are xs
  abbrev pub IsBeginning : List T → List T → Type 0
  IsBeginning xs ys = take (length xs) ys ≡ xs

  -- one of the lists is the beginning of the other
  abbrev pub OneBegins : List T → List T → Type 0
  OneBegins xs ys = IsBeginning xs ys ⊎ IsBeginning ys xs

  -- the list ends with this item
  abbrev pub EndsWith : T → List T → Type 0
  EndsWith x xs = (before : List T) × (xs ≡ before ++ x ∷ [])

  -- what was sent: what was received, then what the ring holds, then what waits in the outbox
  abbrev pub HasContents : List T → List T → List T → List T → Type 0
  HasContents sent received ring outbox = sent ≡ received ++ (ring ++ outbox)

module _ {T F : Type 0} where
  -- all items that were given to the sender, in order
  abbrev pub sent : Outgoing T F → List T
  sent s = s.put ++ s.outbox

  -- the two are the ends of one link
  abbrev pub AreEnds : Outgoing T F → Incoming T F → Type 0
  AreEnds s r = r.link ≡ s.link

  -- So many items more may be sent: the outbox has a place for each, and a link takes 2 ^ 62 items in its life.
  abbrev pub HasPlaces : ℕ → Outgoing T F → Type 0
  HasPlaces more s = (length s.outbox + more ≤ s.room) × (length s.put + length s.outbox + more ≤ 2 ^ 62)

  -- It takes at most so many places.
  abbrev pub TakesPlaces : ℕ → Outgoing T F → Outgoing T F → Type 0
  TakesPlaces most s t = (t.room ≡ s.room) × (length t.outbox ≤ length s.outbox + most) × (length t.put + length t.outbox ≤ length s.put + length s.outbox + most)

  -- some items lie in the ring between the two ends
  abbrev pub Contains : Outgoing T F → Incoming T F → Type 0
  Contains s r = (ring : List T) × HasContents (sent s) r.received ring s.outbox × (s.put ≡ r.received ++ ring)

  -- the ends of a link with nothing sent
  pub record AreNewEnds (key : F) (capacity room : ℕ) (s : Outgoing T F) (r : Incoming T F) : Type 0 where
    pub ends : AreEnds s r
    pub keys : (s.key ≡ key) × (r.key ≡ key)
    pub sizes : (s.capacity ≡ capacity) × (s.room ≡ room)
    pub sender : (s.put ≡ []) × (s.outbox ≡ []) × (s.taken ≡ 0)
    pub receiver : (r.received ≡ []) × (r.told ≡ [])

  -- the sender is the same end, and was told nothing
  abbrev pub IsSameSender : Outgoing T F → Outgoing T F → Type 0
  IsSameSender s t = (t.link ≡ s.link) × (t.key ≡ s.key) × (t.capacity ≡ s.capacity) × (t.room ≡ s.room) × (t.taken ≡ s.taken)

  -- the receiver is the same end, and was told nothing
  abbrev pub IsSameReceiver : Incoming T F → Incoming T F → Type 0
  IsSameReceiver r q = (q.link ≡ r.link) × (q.key ≡ r.key) × (q.told ≡ r.told)

  -- as far as the sender knows, every entry was in use at some moment: what it put exceeds what it heard was taken by `capacity`
  -- or more
  abbrev pub SeemsFull : Outgoing T F → Type 0
  SeemsFull s = s.taken + s.capacity ≤ length s.put

beginning_of_three : IsBeginning {T = ℕ} (1 ∷ 2 ∷ []) (1 ∷ 2 ∷ 3 ∷ [])
beginning_of_three = refl

nothing_begins_all : IsBeginning {T = ℕ} [] (7 ∷ [])
nothing_begins_all = refl

all_begins_itself : IsBeginning {T = ℕ} (4 ∷ 5 ∷ []) (4 ∷ 5 ∷ [])
all_begins_itself = refl

last_of_two : EndsWith {T = ℕ} 9 (8 ∷ 9 ∷ [])
last_of_two = (8 ∷ [], refl)

one_in_each_place : HasContents {T = ℕ} (1 ∷ 2 ∷ 3 ∷ []) (1 ∷ []) (2 ∷ []) (3 ∷ [])
one_in_each_place = refl

all_received : HasContents {T = ℕ} (1 ∷ 2 ∷ []) (1 ∷ 2 ∷ []) [] []
all_received = refl

all_in_the_outbox : HasContents {T = ℕ} (1 ∷ 2 ∷ []) [] [] (1 ∷ 2 ∷ [])
all_in_the_outbox = refl
