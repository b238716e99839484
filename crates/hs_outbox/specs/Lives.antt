-- The life of an outbox: calls in any order and number, and what was put and what left in it.
use Rattle.std.specs.Prelude.{◌≡◌, ℕ, ◌+◌, ◌≤◌, not, List, [], ◌∷◌, ◌++◌, length, fold, filter, if◌then◌else◌, All, Contains, IsPermutation}
use Rattle.hs_outbox.specs.Queue.{Pending, Queue, OutboxAct, Puts, HandsOut, Acknowledges, empty, after, may_put, is_numbered, is_handed_out}

-- numbers rise, from one that is not below the first bound to one that is below the second
abbrev pub Rises : ℕ → ℕ → List Pending → Type 0
Rises from to [] = from ≤ to
Rises from to (p ∷ ps) = (from ≤ p.number) × Rises (p.number + 1) to ps

-- ---- what one call adds and takes

abbrev pub put_by : Queue → OutboxAct → List Pending
put_by q (Puts p) = if may_put q p then p ∷ [] else []
put_by q _ = []

abbrev pub left_by : Queue → OutboxAct → List Pending
left_by q (Acknowledges number) = filter (is_numbered number) q.pending
left_by q _ = []

-- ---- and all calls

abbrev pub life : Queue → List OutboxAct → Queue
life = fold after

abbrev pub all_put : Queue → List OutboxAct → List Pending
all_put q [] = []
all_put q (act ∷ acts) = put_by q act ++ all_put (after q act) acts

abbrev pub all_left : Queue → List OutboxAct → List Pending
all_left q [] = []
all_left q (act ∷ acts) = left_by q act ++ all_left (after q act) acts

abbrev pub handed_out : Queue → List Pending
handed_out q = filter (is_handed_out q) q.pending

abbrev pub not_handed_out : Queue → List Pending
not_handed_out q = filter (λ p. not (is_handed_out q p)) q.pending

-- Where everything is that was put: acknowledged, handed out, or not handed out.
pub record IsAccounted (places room : ℕ) (acts : List OutboxAct) (q : Queue) : Type 0 where
  -- what was put has rising numbers, so each is put once
  pub put : Rises 0 q.fresh (all_put (empty places room) acts)
  -- what was put has left by its acknowledgement or waits, each of it once
  pub once : IsPermutation (all_put (empty places room) acts) (all_left (empty places room) acts ++ q.pending)
  -- what waits has rising numbers: first what is handed out, and then what is not
  pub waiting : Rises 0 q.fresh q.pending
  pub parts : q.pending ≡ handed_out q ++ not_handed_out q
  -- each that is handed out was so by a call of its own
  pub handed : All (λ (p : Pending). Contains acts (HandsOut p.number)) (handed_out q)
  -- no more wait than there are places, and these stay
  pub few : length q.pending ≤ q.places
  pub places_stay : q.places ≡ places
  pub room_stays : q.room ≡ room
