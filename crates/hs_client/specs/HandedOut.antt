-- What a core has handed out when it has recorded the first of a client's operations. It has a draw for each page that these start,
-- and the chunks that it handed out are those of the pages that they send: only the page that may take more is still with it.
use Rattle.std.specs.Prelude.{◌≡◌, ℕ, ◌≤◌, false, List, [], ◌∷◌, ◌++◌, length, map, reverse, replicate, Option, Some, is_some, refl}
use Rattle.hs_base.specs.declared.ids.ClientId.{ClientId}
use Rattle.hs_base.specs.declared.limits.TheConstants.{MIN_SIZE}
use Rattle.hs_client.specs.Calls.{AreSteps, after, segments_of_steps, draws_supplied, chunks_supplied, handed_out, filled_chunks, t1, clear, new_64}
use Rattle.hs_client.specs.Core.{Core, CoreStep, Began, Needed, Supplied, Ended_, new_core}
use Rattle.hs_records.specs.declared.journal.Draw.{Draw}
use Rattle.hs_records.specs.Plain.{Operation, Point, End}
use Rattle.hs_records.specs.Records.{AreBracketed, segments_of}
use Rattle.hs_words.specs.Buffers.{Buffer}
use Rattle.hs_words.specs.Pages.{Sheet}
use Rattle.hs_client.specs.Drawn.{drawn_pages}
use Rattle.hs_client.specs.Samples.{begin}
use Rattle.hs_client.specs.Sending.{Sent, sent_within, sent_chunks}
use Rattle.hs_client.specs.SoFar.{has_open_page, started_within, pages_within}
use Rattle.hs_client.specs.Timing.{TimedPage, timed_pages}

-- These steps of a new core, the last of which stands first, have recorded these operations, and each page that was needed was drawn for.
pub record HaveRecorded {L : Type 0} (new : Core L) (ops : List Operation) (steps : List (CoreStep L)) : Type 0 where
  pub may : AreSteps new steps
  pub segments : reverse (segments_of_steps steps) ≡ segments_of new.size ops
  -- the core has a page exactly where a trace is open that has a point
  pub page : is_some (after new steps).current ≡ has_open_page false ops

-- the page in each of these chunks
abbrev pub sheets_in : {L : Type 0} → List (Buffer L) → List (Option Sheet)
sheets_in chunks = map (λ chunk. chunk.chunk.page) chunks

-- the sheets of these items
abbrev pub sheets_of_items : List (Sent Sheet) → List (Option Sheet)
sheets_of_items items = map (λ (item : Sent Sheet). Some item.item) items

-- What such steps have drawn and handed out, where further operations follow.
pub record HandsOutSoFar {L : Type 0} (client : ClientId) (size calls : ℕ) (front rest : List Operation) (steps : List (CoreStep L)) : Type 0 where
  -- one draw for each page that the first operations start
  pub drawn : length (draws_supplied steps) ≡ length (started_within (length front) (timed_pages size (front ++ rest)))
  -- the chunks of the pages that they send, each filled with its page
  pub chunks : handed_out (new_core client size calls) steps
      ≡ filled_chunks client 0 (map (λ (p : TimedPage). p.page) (pages_within (length front) (timed_pages size (front ++ rest)))) (chunks_supplied steps)
  -- which are the chunks that the client has sent, whatever is drawn later
  pub sheets : (more : List Draw)
      → sheets_in (handed_out (new_core client size calls) steps) ≡ sheets_of_items (sent_within (length front) (sent_chunks (drawn_pages size client (front ++ rest) (draws_supplied steps ++ more))))

abbrev pub CoresHandOutSoFar : Type 0 → Type 0
CoresHandOutSoFar L =
    (client : ClientId) (size calls : ℕ) (front rest : List Operation) (steps : List (CoreStep L)) → MIN_SIZE ≤ size → AreBracketed false (front ++ rest)
    → HaveRecorded (new_core client size calls) front steps → HandsOutSoFar client size calls front rest steps

-- ---- examples, with pages of 64 bytes, which a record of 30 bytes fills

abbrev full : Operation
full = Point 5 (replicate 30 9)

-- two records of 30 bytes: the second needs the next page, and so hands out the first
abbrev two_pages : List (CoreStep ℕ)
two_pages = Supplied (Some (clear 3)) 1 5 (replicate 30 9) false ∷ Needed 30 ∷ Supplied (Some (clear 2)) 0 5 (replicate 30 9) false ∷ Needed 30 ∷ Began t1 ∷ []

abbrev numbers_of : List (Buffer ℕ) → List ℕ
numbers_of chunks = map (λ (b : Buffer ℕ). b.chunk.number) chunks

first_is_out : numbers_of (handed_out new_64 two_pages) ≡ 2 ∷ []
first_is_out = refl

two_were_drawn : (length (draws_supplied two_pages) ≡ 2) × (length (started_within 3 (timed_pages 64 (begin 1 ∷ full ∷ full ∷ full ∷ End ∷ []))) ≡ 2)
two_were_drawn = (refl, refl)

recorded : reverse (segments_of_steps two_pages) ≡ segments_of 64 (begin 1 ∷ full ∷ full ∷ [])
recorded = refl

second_is_kept : (is_some (after new_64 two_pages).current ≡ has_open_page false (begin 1 ∷ full ∷ full ∷ [])) × (is_some (after new_64 (Ended_ ∷ two_pages)).current ≡ has_open_page false (begin 1 ∷ full ∷ full ∷ End ∷ []))
second_is_kept = (refl, refl)

both_in_the_end : numbers_of (handed_out new_64 (Ended_ ∷ two_pages)) ≡ 2 ∷ 3 ∷ []
both_in_the_end = refl
