-- Reported pages beside what is read of them, and the order in which a collector may be given them. Their traces stand in a list, in the order
-- in which they were first seen, and a page names its trace by the place there.
use Rattle.std.specs.Prelude.{◌≡◌, ◌==◌, ℕ, List, [], ◌∷◌, ◌++◌, map, filter, if◌then◌else◌, Option, Some, slice_get, refl}
use Rattle.std.proofs.Common.{ap}
use Rattle.std.specs.List.{flat_map, list_any, AllByRecursion}
use Rattle.hs_base.specs.declared.ids.ClientId.{ClientId}
use Rattle.hs_base.specs.declared.ids.TraceId.{TraceId}
use Rattle.hs_collect.specs.Collected.{IsReordering, first_seen, is_by}
use Rattle.hs_collect.specs.Views.{Sheets}
use Rattle.hs_records.specs.declared.books.AgentBook.{AgentBook}
use Rattle.hs_words.specs.Pages.{Sheet, IsPage, page_bytes}
use Rattle.hs_outcome.specs.declared.pages.Reported.{Reported}

abbrev pub Traces : Type 0
Traces = List TraceId

-- a page's trace and client, and its bytes
pub record Note : Type 0 where
  pub trace : Option TraceId
  pub client : ClientId
  pub bytes : List ℕ

abbrev pub note_of : Sheet → Note
note_of sheet = record { trace = Some sheet.header.trace; client = sheet.header.client; bytes = page_bytes sheet }

-- its trace is the one at its place among these
abbrev pub noted : Traces → Reported → Note
noted traces page = record { trace = slice_get traces page.seen; client = page.client; bytes = page.bytes.now }

-- all bytes that agents reported, agent by agent
abbrev pub sent_by : AgentBook → List (List ℕ)
sent_by book = map (λ page. page.items) book.sent.items

abbrev pub all_sent : List AgentBook → List (List ℕ)
all_sent agents = flat_map sent_by agents

abbrev pub bytes_of : List Reported → List (List ℕ)
bytes_of pages = map (λ (page : Reported). page.bytes.now) pages

-- These bytes are those of these pages.
pub record SpellAll (sheets : List Sheet) (bytes : List (List ℕ)) : Type 0 where
  pub valid : AllByRecursion IsPage sheets
  pub are : bytes ≡ map page_bytes sheets

-- the traces that were seen, with one that may be new
abbrev pub with_trace : Traces → TraceId → Traces
with_trace traces trace = if list_any (λ other. trace.0 == other.0) traces then traces else traces ++ trace ∷ []

-- The page's trace joins those that were seen, and its note is read.
pub record JoinsAs (sheet : Sheet) (old new : Traces) (page : Reported) : Type 0 where
  pub traces : new ≡ with_trace old sheet.header.trace
  pub note : noted new page ≡ note_of sheet

-- These are the traces of these pages, as they were first seen, and the pages' notes.
pub record AreRead (sheets : Sheets) (traces : Traces) (pages : List Reported) : Type 0 where
  pub seen : traces ≡ first_seen sheets
  pub notes : map (noted traces) pages ≡ map note_of sheets

-- These notes are those of these pages.
pub record AreReported (sheets : Sheets) (pages : List Reported) : Type 0 where
  pub valid : AllByRecursion IsPage sheets
  pub notes : map (noted (first_seen sheets)) pages ≡ map note_of sheets

-- These have the bytes of the same pages in another order, which keeps the order of the pages of each client and trace, and that in which the
-- traces are first seen.
pub record Reordered (sheets : Sheets) (pages : List Reported) : Type 0 where
  pub others : Sheets
  pub order : IsReordering others sheets
  pub spelled : SpellAll others (bytes_of pages)

-- ---- worked examples

abbrev page_of : (trace node number page : ℕ) → Sheet
page_of trace node number page =
    record {
      header = record { trace = record { 0 = trace }; client = record { node = node; number = number }; page = page; first = 0 };
      pieces = record { moment = 5; payload = 1 ∷ [] } ∷ [];
    }

abbrev traces_of : List ℕ → Traces
traces_of traces = map (λ trace. record { 0 = trace }) traces

-- a trace that was seen keeps its place, and another one joins behind them
seen_again : with_trace (traces_of (9 ∷ 7 ∷ [])) (record { 0 = 9 }) ≡ traces_of (9 ∷ 7 ∷ [])
seen_again = refl

newly_seen : with_trace (traces_of (9 ∷ 7 ∷ [])) (record { 0 = 8 }) ≡ traces_of (9 ∷ 7 ∷ 8 ∷ [])
newly_seen = refl

-- the page names the trace 7 by the place 1
by_its_place : (page : Reported) → page.seen ≡ 1 → (noted (traces_of (9 ∷ 7 ∷ [])) page).trace ≡ Some (record { 0 = 7 })
by_its_place page is = ap (slice_get (traces_of (9 ∷ 7 ∷ []))) is

-- four pages as two agents reported them, and in the order of trace and client: the trace 9 was seen before the trace 7
abbrev as_reported : Sheets
as_reported = page_of 9 0 0 0 ∷ page_of 7 0 0 1 ∷ page_of 7 1 0 0 ∷ page_of 7 0 0 2 ∷ []

abbrev in_order : Sheets
in_order = page_of 9 0 0 0 ∷ page_of 7 0 0 1 ∷ page_of 7 0 0 2 ∷ page_of 7 1 0 0 ∷ []

seen_as_reported : (first_seen as_reported ≡ traces_of (9 ∷ 7 ∷ [])) × (first_seen in_order ≡ traces_of (9 ∷ 7 ∷ []))
seen_as_reported = (refl, refl)

-- the pages of the client 0 of the node 0 and the trace 7 stand as they did
kept_run : filter (is_by (record { node = 0; number = 0 }) (record { 0 = 7 })) in_order ≡ filter (is_by (record { node = 0; number = 0 }) (record { 0 = 7 })) as_reported
kept_run = refl

-- with the trace 7 first, the same pages are no such order
abbrev rising : Sheets
rising = page_of 7 0 0 1 ∷ page_of 7 0 0 2 ∷ page_of 7 1 0 0 ∷ page_of 9 0 0 0 ∷ []

seven_first : IsReordering rising as_reported → ⊥
seven_first order = let e : traces_of (7 ∷ 9 ∷ []) ≡ traces_of (9 ∷ 7 ∷ []) = order.seen in absurd cc
