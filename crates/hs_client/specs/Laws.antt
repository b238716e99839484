-- That a client's pages beside their operations are all its pages, in order, where it ends each trace that it begins.
use Rattle.std.specs.Prelude.{◌≡◌, ℕ, ◌<◌, ◌≤◌, false, List, [], ◌∷◌, length, map}
use Rattle.std.specs.List.{AllByRecursion}
use Rattle.hs_base.specs.declared.ids.ClientId.{ClientId}
use Rattle.hs_client.specs.Calls.{sheet_for}
use Rattle.hs_words.specs.Chunks.{used_of}
use Rattle.hs_base.specs.declared.limits.TheConstants.{MIN_SIZE}
use Rattle.hs_records.specs.Plain.{Operation}
use Rattle.hs_records.specs.Pages.{pages_of}
use Rattle.hs_records.specs.Records.{AreBracketed}
use Rattle.hs_client.specs.Timing.{TimedPage, timed_pages}

abbrev pub TimedPagesAreThePages : Type 0
TimedPagesAreThePages = (size : ℕ) (ops : List Operation) → AreBracketed false ops → map (λ (p : TimedPage). p.page) (timed_pages size ops) ≡ pages_of size ops

-- Between two operations, each page is started no earlier than the one before it is sent, and is sent no earlier than it is started.
abbrev pub IsTimely : ℕ → ℕ → List TimedPage → Type 0
IsTimely from to [] = from ≤ to
IsTimely from to (page ∷ pages) = (from ≤ page.started) × (page.started ≤ page.sent) × (page.sent < to) × IsTimely page.sent to pages

-- The pages of a client that ends its traces are so among its operations.
abbrev pub TimedPagesAreTimely : Type 0
TimedPagesAreTimely = (size : ℕ) (ops : List Operation) → MIN_SIZE ≤ size → AreBracketed false ops → IsTimely 0 (length ops) (timed_pages size ops)

-- No page has more used bytes than its size.
abbrev pub PagesFit : Type 0
PagesFit = (size : ℕ) (ops : List Operation) → MIN_SIZE ≤ size → AllByRecursion (λ (p : TimedPage). (client : ClientId) (number : ℕ) → used_of (sheet_for client number p.page) ≤ size) (timed_pages size ops)
