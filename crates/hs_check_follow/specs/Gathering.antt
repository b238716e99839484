-- What was taken of a client when it has done so many operations: the crumbs and triggers that these sent, the operations of all that they
-- sent, and of each page that they started the operation that started it.
use Rattle.std.specs.Prelude.{◌≡◌, ℕ, ◌+◌, List, [], ◌++◌, length, map}
use Rattle.hs_base.specs.declared.ids.ClientId.{ClientId}
use Rattle.hs_base.specs.declared.settings.AutoRule.{AutoRule}
use Rattle.hs_base.specs.declared.told.Crumb.{Crumb}
use Rattle.hs_base.specs.declared.told.Trigger.{Trigger}
use Rattle.hs_check_follow.specs.Finding.{numbers_of}
use Rattle.hs_records.specs.declared.journal.Draw.{Draw}
use Rattle.hs_replay_client.specs.Places.{ReplayClientIsAt}
use Rattle.hs_replay_client.specs.ReplayClients.{PlainReplayClient}
use Rattle.hs_records.specs.Pages.{pages_of}
use Rattle.hs_records.specs.Plain.{Operation, PlainSettings}
use Rattle.hs_client.specs.Drawn.{has_buffer}
use Rattle.hs_client.specs.OneMore.{items_of}
use Rattle.hs_client.specs.Sending.{Sent, sends_of, sent_within}
use Rattle.hs_client.specs.SoFar.{started_within}
use Rattle.hs_client.specs.Timing.{TimedPage, timed_pages}
use Rattle.hs_words.specs.Pages.{Sheet}
use Rattle.hs_check_follow.specs.Keepings.{KeepsAll}
use Rattle.hs_check_follow.specs.declared.gathering.Gathering.{Gathering}
use Rattle.hs_check_follow.specs.declared.keeping.Keeping.{Keeping}
use Rattle.hs_check_follow.specs.declared.script.DrawScript.{DrawScript}

-- The queue has these items, and their operations are noted.
pub record HasItems {A : Type 0} (items : List (Sent A)) (queue : List A) (numbers : List ℕ) : Type 0 where
  pub queue_is : queue ≡ items_of items
  pub numbers_are : numbers ≡ numbers_of items

-- The operations of these items are noted.
abbrev pub AreNumbers : {A : Type 0} → List (Sent A) → List ℕ → Type 0
AreNumbers items numbers = numbers ≡ numbers_of items

-- The operations of these chunks are noted, and the chunks themselves are kept, where chunks are.
pub record HasChunks (size : ℕ) (items : List (Sent Sheet)) (keeping : Keeping) (numbers : List ℕ) : Type 0 where
  pub kept : KeepsAll size items keeping
  pub numbers_are : AreNumbers items numbers

-- how many of these items the first so many operations send
abbrev pub count_within : {A : Type 0} → ℕ → List (Sent A) → ℕ
count_within n items = length (sent_within n items)

-- the operations that start the pages which the first so many operations start
abbrev pub starts_within : ℕ → List TimedPage → List ℕ
starts_within n pages = map (λ (page : TimedPage). page.started) (started_within n pages)

-- The first n operations are done, at draws that get a buffer where the given ones do. All that they sent was taken.
pub record IsSentBy (settings : PlainSettings) (client : ClientId) (ops : List Operation) (draws : List Draw) (n : ℕ) (script : DrawScript) (player : PlainReplayClient) (g : Gathering) : Type 0 where
  pub each : length draws ≡ length (pages_of settings.size ops)
  pub drawn : List Draw
  pub kinds : map has_buffer drawn ++ map has_buffer script.left.items ≡ map has_buffer draws
  pub size_is : script.size ≡ settings.size
  pub at :
      ReplayClientIsAt settings client ops drawn n (count_within n (sends_of settings client ops drawn).chunks) (count_within n (sends_of settings client ops drawn).crumbs)
      (count_within n (sends_of settings client ops drawn).triggers) player
  pub chunks : HasChunks settings.size (sent_within n (sends_of settings client ops drawn).chunks) g.keeping g.found.chunks.items
  pub crumbs : HasItems (sent_within n (sends_of settings client ops drawn).crumbs) g.crumbs.items g.found.crumbs.items
  pub triggers : HasItems (sent_within n (sends_of settings client ops drawn).triggers) g.triggers.items g.found.triggers.items
  pub started : g.found.started.items ≡ starts_within n (timed_pages settings.size ops)

-- All operations are done, and all that they sent was taken.
abbrev pub AllIsSentBy : PlainSettings → ClientId → List Operation → List Draw → PlainReplayClient → Gathering → Type 0
AllIsSentBy settings client ops draws player g = (script : DrawScript) × IsSentBy settings client ops draws (length ops) script player g

-- Where these are the rules of the settings' autotriggers.
abbrev pub WasSent : List AutoRule → List Operation → ℕ → DrawScript → PlainReplayClient → Gathering → Type 0
WasSent rules ops n script player g = (settings : PlainSettings) × (client : ClientId) × (draws : List Draw) × (rules ≡ settings.autos) × IsSentBy settings client ops draws n script player g

-- one operation more was done
abbrev pub SendsOneMore : List AutoRule → List Operation → ℕ → DrawScript → PlainReplayClient → Gathering → DrawScript → PlainReplayClient → Gathering → Type 0
SendsOneMore rules ops n script player g script' player' g' =
    (settings : PlainSettings) (client : ClientId) (draws : List Draw) → rules ≡ settings.autos → IsSentBy settings client ops draws n script player g → IsSentBy settings client ops draws (n + 1) script' player' g'

-- the first n operations were done, where none had been
abbrev pub SendsFirst : List AutoRule → List Operation → (n : ℕ) → DrawScript → PlainReplayClient → Gathering → DrawScript → PlainReplayClient → Gathering → Type 0
SendsFirst rules ops n script player g script' player' g' =
    (settings : PlainSettings) (client : ClientId) (draws : List Draw) → rules ≡ settings.autos → IsSentBy settings client ops draws 0 script player g → IsSentBy settings client ops draws n script' player' g'

pub record IsNew (g : Gathering) : Type 0 where
  pub chunks : g.keeping.chunks.items ≡ []
  pub crumbs : g.crumbs.items ≡ []
  pub triggers : g.triggers.items ≡ []
  pub started : g.found.started.items ≡ []
  pub chunk_numbers : g.found.chunks.items ≡ []
  pub crumb_numbers : g.found.crumbs.items ≡ []
  pub trigger_numbers : g.found.triggers.items ≡ []

-- ---- one queue

-- Behind the operation of this number the client is somewhere. What earlier operations sent was taken.
pub record Was {A : Type 0} (At : ℕ → PlainReplayClient → Type 0) (Holds : List (Sent A) → Type 0) (items : List (Sent A)) (number : ℕ) (player : PlainReplayClient) : Type 0 where
  pub at : At (count_within number items) player
  pub holds : Holds (sent_within number items)

-- And what that operation sent was taken too.
abbrev pub Is : {A : Type 0} → (ℕ → PlainReplayClient → Type 0) → (List (Sent A) → Type 0) → List (Sent A) → ℕ → PlainReplayClient → Type 0
Is At Holds items number player = Was At Holds items (number + 1) player

-- where a client, its operations and draws are
pub record Where : Type 0 where
  pub settings : PlainSettings
  pub client : ClientId
  pub ops : List Operation
  pub drawn : List Draw
  -- of the two other queues
  pub others : ℕ × ℕ

abbrev pub chunks_at : Where → List (Sent Sheet)
chunks_at w = (sends_of w.settings w.client w.ops w.drawn).chunks

abbrev pub crumbs_at : Where → List (Sent Crumb)
crumbs_at w = (sends_of w.settings w.client w.ops w.drawn).crumbs

abbrev pub triggers_at : Where → List (Sent Trigger)
triggers_at w = (sends_of w.settings w.client w.ops w.drawn).triggers

abbrev pub AtChunk : Where → ℕ → ℕ → PlainReplayClient → Type 0
AtChunk w number k player = ReplayClientIsAt w.settings w.client w.ops w.drawn (number + 1) k w.others.0 w.others.1 player

abbrev pub AtCrumb : Where → ℕ → ℕ → PlainReplayClient → Type 0
AtCrumb w number l player = ReplayClientIsAt w.settings w.client w.ops w.drawn (number + 1) w.others.0 l w.others.1 player

abbrev pub AtTrigger : Where → ℕ → ℕ → PlainReplayClient → Type 0
AtTrigger w number m player = ReplayClientIsAt w.settings w.client w.ops w.drawn (number + 1) w.others.0 w.others.1 m player

-- ---- chunks

abbrev pub WereChunks : Where → ℕ → PlainReplayClient → Keeping → List ℕ → Type 0
WereChunks w number player keeping numbers = Was (AtChunk w number) (λ items. HasChunks w.settings.size items keeping numbers) (chunks_at w) number player

abbrev pub AreChunks : Where → ℕ → PlainReplayClient → Keeping → List ℕ → Type 0
AreChunks w number player keeping numbers = Is (AtChunk w number) (λ items. HasChunks w.settings.size items keeping numbers) (chunks_at w) number player

abbrev pub WasSentChunks : ℕ → PlainReplayClient → Keeping → List ℕ → Type 0
WasSentChunks number player keeping numbers = (w : Where) × WereChunks w number player keeping numbers

abbrev pub IsSentChunks : ℕ → PlainReplayClient → Keeping → List ℕ → PlainReplayClient → Keeping → List ℕ → Type 0
IsSentChunks number player keeping numbers player' keeping' numbers' = (w : Where) → WereChunks w number player keeping numbers → AreChunks w number player' keeping' numbers'

-- ---- crumbs

abbrev pub WereCrumbs : Where → ℕ → PlainReplayClient → List Crumb → List ℕ → Type 0
WereCrumbs w number player queue numbers = Was (AtCrumb w number) (λ items. HasItems items queue numbers) (crumbs_at w) number player

abbrev pub AreCrumbs : Where → ℕ → PlainReplayClient → List Crumb → List ℕ → Type 0
AreCrumbs w number player queue numbers = Is (AtCrumb w number) (λ items. HasItems items queue numbers) (crumbs_at w) number player

abbrev pub WasSentCrumbs : ℕ → PlainReplayClient → List Crumb → List ℕ → Type 0
WasSentCrumbs number player queue numbers = (w : Where) × WereCrumbs w number player queue numbers

abbrev pub IsSentCrumbs : ℕ → PlainReplayClient → List Crumb → List ℕ → PlainReplayClient → List Crumb → List ℕ → Type 0
IsSentCrumbs number player queue numbers player' queue' numbers' = (w : Where) → WereCrumbs w number player queue numbers → AreCrumbs w number player' queue' numbers'

-- ---- triggers

abbrev pub WereTriggers : Where → ℕ → PlainReplayClient → List Trigger → List ℕ → Type 0
WereTriggers w number player queue numbers = Was (AtTrigger w number) (λ items. HasItems items queue numbers) (triggers_at w) number player

abbrev pub AreTriggers : Where → ℕ → PlainReplayClient → List Trigger → List ℕ → Type 0
AreTriggers w number player queue numbers = Is (AtTrigger w number) (λ items. HasItems items queue numbers) (triggers_at w) number player

abbrev pub WasSentTriggers : ℕ → PlainReplayClient → List Trigger → List ℕ → Type 0
WasSentTriggers number player queue numbers = (w : Where) × WereTriggers w number player queue numbers

abbrev pub IsSentTriggers : ℕ → PlainReplayClient → List Trigger → List ℕ → PlainReplayClient → List Trigger → List ℕ → Type 0
IsSentTriggers number player queue numbers player' queue' numbers' = (w : Where) → WereTriggers w number player queue numbers → AreTriggers w number player' queue' numbers'
