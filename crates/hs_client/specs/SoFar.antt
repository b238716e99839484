-- What a client has sent when it has done the first of its operations. Pages are timed beside the end of their segment, which a client
-- that is still at work may not have reached. What it sent is known all the same from the operations that it has done: their pages,
-- but for the last one of an open trace, which may still take more.
use Rattle.std.specs.Prelude.{◌≡◌, ℕ, ◌≤◌, nat_lt, Bool, true, false, if◌then◌else◌, List, [], ◌∷◌, ◌++◌, length, map, filter, replicate, refl, ◌+◌, min}
use Rattle.hs_base.specs.declared.ids.ClientId.{ClientId}
use Rattle.hs_base.specs.declared.limits.TheConstants.{MIN_SIZE}
use Rattle.hs_base.specs.declared.settings.AutoRule.{AutoRule}
use Rattle.hs_base.specs.Samples.{owner}
use Rattle.hs_records.specs.declared.journal.Draw.{Draw}
use Rattle.hs_records.specs.declared.journal.Draw.TheVariants.{Got}
use Rattle.hs_records.specs.Pages.{PlainPage, pages_of}
use Rattle.hs_records.specs.Plain.{Operation, Begin, Point, End}
use Rattle.hs_records.specs.Records.{AreBracketed}
use Rattle.hs_client.specs.Drawn.{drawn_from, drawn_pages}
use Rattle.hs_client.specs.Sending.{sent_chunks, sent_crumbs, sent_triggers, sent_within}
use Rattle.hs_client.specs.Timing.{TimedPage, timed_pages}
use Rattle.hs_client.specs.Samples.{begin, crumb, fire}

-- whether a trace is open that has a point since its begin, where it was so before these operations
abbrev pub has_open_page : Bool → List Operation → Bool
has_open_page is [] = is
has_open_page is (Begin trace ∷ ops) = has_open_page false ops
has_open_page is (Point moment payload ∷ ops) = has_open_page true ops
has_open_page is (End ∷ ops) = has_open_page false ops
has_open_page is (operation ∷ ops) = has_open_page is ops

-- how many operations are done when so many more were, of those that there are
abbrev pub done_behind : (stride done : ℕ) → List Operation → ℕ
done_behind stride done ops = min (done + stride) (length ops)

-- the pages that the first so many operations start, and those that they send
abbrev pub started_within : ℕ → List TimedPage → List TimedPage
started_within n pages = filter (λ (p : TimedPage). nat_lt p.started n) pages

abbrev pub pages_within : ℕ → List TimedPage → List TimedPage
pages_within n pages = filter (λ (p : TimedPage). nat_lt p.sent n) pages

-- What the first operations start and send, where the others follow.
pub record SendSoFar (size : ℕ) (front rest : List Operation) : Type 0 where
  -- as many pages are started as the first operations have by themselves
  pub started : length (started_within (length front) (timed_pages size (front ++ rest))) ≡ length (pages_of size front)
  -- these are sent, but the last where it may take more
  pub kept : List PlainPage
  pub sent : pages_of size front ≡ map (λ (p : TimedPage). p.page) (pages_within (length front) (timed_pages size (front ++ rest))) ++ kept
  pub one : length kept ≡ (if has_open_page false front then 1 else 0)

abbrev pub FirstOperationsSend : Type 0
FirstOperationsSend = (size : ℕ) (front rest : List Operation) → MIN_SIZE ≤ size → AreBracketed false (front ++ rest) → SendSoFar size front rest

-- The crumbs and the triggers of the first operations are those that these have by themselves.
abbrev pub FirstCrumbsAreSent : Type 0
FirstCrumbsAreSent = (front rest : List Operation) → sent_within (length front) (sent_crumbs (front ++ rest)) ≡ sent_crumbs front

abbrev pub FirstTriggersAreSent : Type 0
FirstTriggersAreSent = (autos : List AutoRule) (front rest : List Operation) → sent_within (length front) (sent_triggers autos (front ++ rest)) ≡ sent_triggers autos front

-- With a draw for each page that the first operations start, whatever is drawn behind these, they send the chunks of the pages that
-- they send.
abbrev pub FirstChunksAreSent : Type 0
FirstChunksAreSent = (size : ℕ) (client : ClientId) (front rest : List Operation) (draws more : List Draw)
    → MIN_SIZE ≤ size → AreBracketed false (front ++ rest) → length draws ≡ length (pages_of size front)
    → sent_within (length front) (sent_chunks (drawn_pages size client (front ++ rest) (draws ++ more)))
    ≡ sent_chunks (drawn_from client 0 (pages_within (length front) (timed_pages size (front ++ rest))) draws)

-- All operations together send all chunks, all crumbs and all triggers.
abbrev pub AllChunksAreSent : Type 0
AllChunksAreSent = (size : ℕ) (client : ClientId) (ops : List Operation) (draws : List Draw) → MIN_SIZE ≤ size → AreBracketed false ops
    → sent_within (length ops) (sent_chunks (drawn_pages size client ops draws)) ≡ sent_chunks (drawn_pages size client ops draws)

abbrev pub AllCrumbsAreSent : Type 0
AllCrumbsAreSent = (ops : List Operation) → sent_within (length ops) (sent_crumbs ops) ≡ sent_crumbs ops

abbrev pub AllTriggersAreSent : Type 0
AllTriggersAreSent = (autos : List AutoRule) (ops : List Operation) → sent_within (length ops) (sent_triggers autos ops) ≡ sent_triggers autos ops

-- ---- examples, with pages of 64 bytes: a payload of ten bytes costs 20 of the 40 that a page has for pieces

abbrev ten : Operation
ten = Point 7 (replicate 10 0)

abbrev three : List Operation
three = begin 1 ∷ ten ∷ ten ∷ ten ∷ []

-- three points start two pages; the first is sent, and the second stays open
second_stays : (length (pages_of 64 three) ≡ 2) × (length (started_within 4 (timed_pages 64 (three ++ ten ∷ End ∷ []))) ≡ 2) × (length (pages_within 4 (timed_pages 64 (three ++ ten ∷ End ∷ []))) ≡ 1)
second_stays = (refl, refl, refl)

-- a page that is full stays open too, as long as nothing needs the next one
full_page_stays : (length (pages_of 64 (begin 1 ∷ ten ∷ ten ∷ [])) ≡ 1) × (length (pages_within 3 (timed_pages 64 (three ++ End ∷ []))) ≡ 0)
full_page_stays = (refl, refl)

open_pages : (has_open_page false three ≡ true) × (has_open_page false (three ++ End ∷ []) ≡ false) × (has_open_page false (begin 1 ∷ crumb 0 ∷ fire 5 1 1 ∷ []) ≡ false)
open_pages = (refl, refl, refl)

-- the page in the open trace has one piece so far, and two in the end
grows : (map (λ (p : PlainPage). length p.pieces) (pages_of 64 three) ≡ 2 ∷ 1 ∷ []) × (map (λ (p : PlainPage). length p.pieces) (pages_of 64 (three ++ ten ∷ End ∷ [])) ≡ 2 ∷ 2 ∷ [])
grows = (refl, refl)

crumb_so_far : sent_within 2 (sent_crumbs (begin 1 ∷ crumb 0 ∷ crumb 2 ∷ End ∷ [])) ≡ sent_crumbs (begin 1 ∷ crumb 0 ∷ [])
crumb_so_far = refl

trigger_so_far : sent_within 1 (sent_triggers [] (fire 3 1 1 ∷ begin 1 ∷ fire 4 1 9 ∷ End ∷ [])) ≡ sent_triggers [] (fire 3 1 1 ∷ [])
trigger_so_far = refl

-- a draw that is made later changes nothing of what was sent
later_draws : sent_within 4 (sent_chunks (drawn_pages 64 owner (three ++ End ∷ []) (Got 3 0 ∷ Got 4 1 ∷ [])))
    ≡ sent_within 4 (sent_chunks (drawn_pages 64 owner (three ++ End ∷ []) (Got 3 0 ∷ [])))
later_draws = refl
