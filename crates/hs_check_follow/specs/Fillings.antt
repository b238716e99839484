-- A client whose chunks are taken one after another: each was kept, or is filled when it is asked for. Then the client does its operations
-- once more, at draws that get a buffer where the given ones do. So many of its chunks were taken.
use Rattle.std.specs.Prelude.{◌≡◌, ℕ, ◌+◌, List, ◌++◌, length, map, drop, slice_get, Option, Some, None, MatchOption}
use Rattle.hs_base.specs.declared.ids.ClientId.{ClientId}
use Rattle.hs_base.specs.declared.settings.AutoRule.{AutoRule}
use Rattle.hs_records.specs.declared.journal.Draw.{Draw}
use Rattle.hs_replay_client.specs.Places.{ReplayClientIsAt}
use Rattle.hs_replay_client.specs.ReplayClients.{Unleased}
use Rattle.hs_records.specs.Pages.{pages_of}
use Rattle.hs_records.specs.Plain.{Operation, PlainSettings}
use Rattle.hs_client.specs.Drawn.{has_buffer}
use Rattle.hs_client.specs.Sending.{Sent, sends_of}
use Rattle.hs_words.specs.Buffers.{buffer_of}
use Rattle.hs_words.specs.Chunks.{Contents}
use Rattle.hs_words.specs.Pages.{Sheet}
use Rattle.hs_check_follow.specs.Keepings.{HavePages}
use Rattle.hs_check_follow.specs.declared.filling.Filling.{Filling}
use Rattle.hs_check_follow.specs.declared.filling.ChunksLeft.{ChunksLeft}
use Rattle.hs_check_follow.specs.declared.filling.ChunksLeft.TheVariants as lefts
use Rattle.hs_check_follow.specs.declared.second_play.SecondPlay.{SecondPlay}

-- The first k chunks of the client were filled.
pub record IsSecondPlay (settings : PlainSettings) (client : ClientId) (ops : List Operation) (draws : List Draw) (k : ℕ) (f : SecondPlay) : Type 0 where
  pub each : length draws ≡ length (pages_of settings.size ops)
  pub drawn : List Draw
  pub kinds : map has_buffer drawn ++ map has_buffer f.script.left.items ≡ map has_buffer draws
  pub size_is : f.script.size ≡ settings.size
  pub done : ℕ
  pub l : ℕ
  pub m : ℕ
  pub at : ReplayClientIsAt settings client ops drawn done k l m f.player

-- All but the first k chunks of the client are left.
abbrev pub LeftAt : PlainSettings → ClientId → List Operation → List Draw → ℕ → ChunksLeft → Type 0
LeftAt settings client ops draws k (lefts.Kept chunks) = HavePages settings.size (drop k (sends_of settings client ops draws).chunks) (map buffer_of chunks.items)
LeftAt settings client ops draws k (lefts.Played play) = IsSecondPlay settings client ops draws k play

-- The first k chunks of the client were taken.
pub record IsFilling (settings : PlainSettings) (client : ClientId) (ops : List Operation) (draws : List Draw) (k : ℕ) (f : Filling) : Type 0 where
  pub client_is : f.client ≡ client
  pub left : LeftAt settings client ops draws k f.left

-- what says where something stands when so many chunks were taken of it
abbrev Standing : Type 0 → Type 1
Standing F = PlainSettings → ClientId → List Operation → List Draw → ℕ → F → Type 0

-- Where these are the rules of the settings' autotriggers.
abbrev May : {F : Type 0} → Standing F → List AutoRule → List Operation → F → Type 0
May Is rules ops f = (settings : PlainSettings) × (client : ClientId) × (draws : List Draw) × (k : ℕ) × (rules ≡ settings.autos) × Is settings client ops draws k f

abbrev pub MayFill : List AutoRule → List Operation → Filling → Type 0
MayFill rules ops f = May IsFilling rules ops f

abbrev pub MayPlay : List AutoRule → List Operation → SecondPlay → Type 0
MayPlay rules ops f = May IsSecondPlay rules ops f

-- as many chunks were filled as before
abbrev pub PlaysOn : List AutoRule → List Operation → SecondPlay → SecondPlay → Type 0
PlaysOn rules ops old new =
    (settings : PlainSettings) (client : ClientId) (draws : List Draw) (k : ℕ) → rules ≡ settings.autos → IsSecondPlay settings client ops draws k old → IsSecondPlay settings client ops draws k new

-- The chunk has the page of this place among those that the client sends, in a buffer of the workload's size.
pub record IsFilled (settings : PlainSettings) (client : ClientId) (ops : List Operation) (draws : List Draw) (k : ℕ) (chunk : Contents) : Type 0 where
  pub item : Sent Sheet
  pub next : slice_get (sends_of settings client ops draws).chunks k ≡ Some item
  pub page : chunk.page ≡ Some item.item
  pub size : chunk.size ≡ settings.size

-- the next chunk was taken, or all were
abbrev Takes : {F : Type 0} → Standing F → List AutoRule → List Operation → F → Option Unleased → F → Type 0
Takes Is rules ops old answer new =
    (settings : PlainSettings) (client : ClientId) (draws : List Draw) (k : ℕ) → rules ≡ settings.autos → Is settings client ops draws k old
    → MatchOption answer ((slice_get (sends_of settings client ops draws).chunks k ≡ None) × Is settings client ops draws k new)
    (λ buffer. IsFilled settings client ops draws k buffer.chunk × Is settings client ops draws (k + 1) new)

abbrev pub Fills : List AutoRule → List Operation → Filling → Option Unleased → Filling → Type 0
Fills rules ops old answer new = Takes IsFilling rules ops old answer new

abbrev pub Plays : List AutoRule → List Operation → SecondPlay → Option Unleased → SecondPlay → Type 0
Plays rules ops old answer new = Takes IsSecondPlay rules ops old answer new
