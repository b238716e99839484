-- What contracts see of a board's watchers, and of two of them beside the board's writer. A watcher has a reader. It notes its
-- first look, and each later look that finds that more rounds are over. What it noted it saw on the board, or was told of.
use Rattle.std.specs.Prelude.{◌≡◌, ◌⊎◌, ℕ, ◌+◌, ◌<◌, ◌≤◌, false, List, [], ◌∷◌, length}
use Rattle.std.specs.List.{AllByRecursion}
use Rattle.hs_board.specs.declared.progress.Progress.{Progress}
use Rattle.hs_board.specs.Looking.{Looking, HasLookedTimes}
use Rattle.hs_board.specs.Shown.{IsFront, IsAmong, IsLast}

-- all that was shown on a board
abbrev pub ShownTotals : Type 0
ShownTotals = List Progress

pub record Watching : Type 0 where
  pub looking : Looking
  pub seen : List Progress
  -- how many looks it has room for, with those that it noted
  pub room : ℕ

-- It is known of the board, or was shown on it.
abbrev pub IsFrom : ShownTotals → ShownTotals → Progress → Type 0
IsFrom shown known x = IsAmong x known ⊎ IsAmong x shown

-- Each has more rounds than those before it.
abbrev pub IsRising : List Progress → Type 0
IsRising [] = Unit {0}
IsRising (x ∷ xs) = AllByRecursion (λ (y : Progress). x.rounds < y.rounds) xs × IsRising xs

-- What the watcher noted rises, and it and the latest that it knows are of a board on which this was shown.
pub record Watches (shown : ShownTotals) (w : Watching) : Type 0 where
  pub latest : IsFrom shown w.looking.known w.looking.latest
  pub seen : AllByRecursion (IsFrom shown w.looking.known) w.seen
  pub rises : IsRising w.seen
  pub most : AllByRecursion (λ (x : Progress). x.rounds ≤ w.looking.latest.rounds) w.seen

-- ---- looks

-- The watcher has room for the looks of a round.
abbrev pub MayLook : Watching → Type 0
MayLook w = length w.seen + 4 ≤ w.room

-- It still watches what it watched.
abbrev pub KeepsWatching : Watching → Watching → Type 0
KeepsWatching old new = (shown : ShownTotals) → Watches shown old → Watches shown new

-- All that it noted before stands, in front of what it noted since.
abbrev pub KeepsNotes : Watching → Watching → Type 0
KeepsNotes old new = IsFront old.seen new.seen

-- It looked so many times, unless a look was handed back.
abbrev pub LooksTimes : ℕ → Watching → Watching → Type 0
LooksTimes times old new = HasLookedTimes times old.looking new.looking

-- Unless a look was handed back, the latest that it knows is no earlier than the last that it saw.
abbrev pub KnowsLastSeen : Watching → Type 0
KnowsLastSeen w = w.looking.missed ≡ false → (last : Progress) × IsLast last w.looking.known × (last.rounds ≤ w.looking.latest.rounds)

-- It looked four times, at a board on which no less was shown than before.
abbrev pub HasLooked : Watching → Watching → Type 0
HasLooked old new = KeepsWatching old new × KeepsNotes old new × LooksTimes 4 old new × KnowsLastSeen new

-- What it noted last has as many rounds as the latest that it knows.
abbrev pub EndsAtLatest : Watching → Type 0
EndsAtLatest w = (x : Progress) × IsLast x w.seen × (x.rounds ≡ w.looking.latest.rounds)

-- ---- two watchers of one board

pub record Showing : Type 0 where
  pub shown : ShownTotals
  pub one : Watching
  pub other : Watching

pub record WatchStands (s : Showing) : Type 0 where
  pub one : Watches s.shown s.one
  pub other : Watches s.shown s.other

-- Both have room for the looks of a round.
abbrev pub BothMayLook : Showing → Type 0
BothMayLook s = MayLook s.one × MayLook s.other

-- Both looked so many times, unless a look was handed back.
abbrev pub BothLookTimes : ℕ → Showing → Showing → Type 0
BothLookTimes times old new = LooksTimes times old.one new.one × LooksTimes times old.other new.other

abbrev pub BothKnowLastSeen : Showing → Type 0
BothKnowLastSeen s = KnowsLastSeen s.one × KnowsLastSeen s.other

-- No look of either was handed back.
abbrev pub NoneMissed : Showing → Type 0
NoneMissed s = (s.one.looking.missed ≡ false) × (s.other.looking.missed ≡ false)

-- Each of both looked so many times in all, unless a look was handed back.
abbrev pub HaveLookedInAll : ℕ → Showing → Type 0
HaveLookedInAll times s = (s.one.looking.missed ≡ false → s.one.looking.looks ≡ times) × (s.other.looking.missed ≡ false → s.other.looking.looks ≡ times)

-- Both keep their notes.
abbrev pub BothKeepNotes : Showing → Showing → Type 0
BothKeepNotes old new = KeepsNotes old.one new.one × KeepsNotes old.other new.other

-- These totals have more rounds than those that are shown.
abbrev pub IsLater : Progress → ShownTotals → Type 0
IsLater progress shown = (last : Progress) → IsLast last shown → last.rounds < progress.rounds

-- Each of the two knows the latest that was shown, or a later one.
pub record KnowLast (s : Showing) : Type 0 where
  pub one : (last : Progress) → IsLast last s.shown → last.rounds ≤ s.one.looking.latest.rounds
  pub other : (last : Progress) → IsLast last s.shown → last.rounds ≤ s.other.looking.latest.rounds

-- ---- the end

-- What was seen was shown, rises, and ends with the last that was shown.
pub record IsSeenOf (shown : ShownTotals) (seen : List Progress) : Type 0 where
  pub among : AllByRecursion (λ (x : Progress). IsAmong x shown) seen
  pub rises : IsRising seen
  pub last : (x : Progress) × IsLast x seen × ((y : Progress) → IsLast y shown → y.rounds ≤ x.rounds)
