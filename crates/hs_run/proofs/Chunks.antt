-- The chunks that an agent took, by its events and by the buffers in which they came.
use Rattle.std.proofs.Common.{◌≡◌, ℕ, List, [], ◌∷◌, refl, sym, ap, ◌∙◌, Option, None, Some, map, filter}
use Rattle.hs_run.proofs.Prelude.{AllByRecursion, flat_map, sheet_in, AgentEvent, PlainWorkload, Leased, Buffer, Sheet, IsWithin, is_of, option_map_or, chunks_in}
use Rattle.hs_base.proofs.Alls.{all_each}
use Rattle.hs_base.proofs.Filters.{filter_mapped}
use Rattle.hs_law_agent.specs.Laws.{brought_by}
use Rattle.hs_law_agent.specs.Stepping.{Chunk, Crumbed, Triggered, Asked, Turn, Took, Gave}
use Rattle.hs_law_journal.proofs.Taking.{BringsOwn, chunks_by}
use Rattle.hs_law_journal.specs.LoopPasses.{IsOwn}
use Rattle.hs_law_journal.specs.Taking.{is_by}

-- the page of a chunk that has one
pub sheet_is : (buffer : Buffer Leased) (sheet : Sheet) → buffer.chunk.page ≡ Some sheet → sheet_in buffer ≡ sheet
sheet_is buffer sheet e = ap (λ (o : Option Sheet). option_map_or (λ (s : Sheet). s) o (sheet_in (record { chunk = record buffer.chunk { page = None }; lease = buffer.lease }))) e

is_own : (W : PlainWorkload) (node : ℕ) (event : AgentEvent) → IsWithin W node event → IsOwn W event
is_own W node (Took (Chunk client sheet)) is = is.0
is_own W node (Took (Crumbed client crumb)) is = is.0
is_own W node (Took (Triggered client trigger)) is = is.0
is_own W node (Took (Asked ask)) is = tt
is_own W node (Took Turn) is = tt
is_own W node (Gave answer) is = tt

pub own_events : (W : PlainWorkload) (node : ℕ) (events : List AgentEvent) → AllByRecursion (IsWithin W node) events → AllByRecursion (IsOwn W) events
own_events W node events all = all_each (IsWithin W node) (IsOwn W) events (is_own W node) all

brings_own : (W : PlainWorkload) (node : ℕ) (event : AgentEvent) → IsWithin W node event → BringsOwn event
brings_own W node (Took (Chunk client sheet)) is = ap (λ owner. owner.number) is.1
brings_own W node (Took (Crumbed client crumb)) is = tt
brings_own W node (Took (Triggered client trigger)) is = tt
brings_own W node (Took (Asked ask)) is = tt
brings_own W node (Took Turn) is = tt
brings_own W node (Gave answer) is = tt

-- the chunks of a client are the pages in its buffers
pub chunks_came : (W : PlainWorkload) (node client : ℕ) (events : List AgentEvent) (came : List (Buffer Leased)) → map sheet_in came ≡ flat_map brought_by events → AllByRecursion (IsWithin W node) events
    → chunks_in client events ≡ map sheet_in (filter (is_of client) came)
chunks_came W node client events came sheets all =
    sym (chunks_by client events (all_each (IsWithin W node) BringsOwn events (brings_own W node) all)) ∙ ap (filter (is_by client)) (sym sheets) ∙ filter_mapped sheet_in (is_by client) came

pub sheets_are : (buffers : List (Buffer Leased)) (sheets : List Sheet) → map (λ (buffer : Buffer Leased). buffer.chunk.page) buffers ≡ map (λ (sheet : Sheet). Some sheet) sheets → map sheet_in buffers ≡ sheets
sheets_are [] [] h = refl
sheets_are [] (sheet ∷ sheets) h = let no : [] ≡ Some sheet ∷ map (λ (s : Sheet). Some s) sheets = h in absurd cc
sheets_are (buffer ∷ buffers) [] h = let no : buffer.chunk.page ∷ map (λ (b : Buffer Leased). b.chunk.page) buffers ≡ [] = h in absurd cc
sheets_are (buffer ∷ buffers) (sheet ∷ sheets) h = ap (λ s. s ∷ map sheet_in buffers) (sheet_is buffer sheet (head_of h)) ∙ ap (λ rest. sheet ∷ rest) (sheets_are buffers sheets (tail_of h))
  where
    head_of : buffer.chunk.page ∷ map (λ (b : Buffer Leased). b.chunk.page) buffers ≡ Some sheet ∷ map (λ (s : Sheet). Some s) sheets → buffer.chunk.page ≡ Some sheet
    head_of e = cc

    tail_of : buffer.chunk.page ∷ map (λ (b : Buffer Leased). b.chunk.page) buffers ≡ Some sheet ∷ map (λ (s : Sheet). Some s) sheets → map (λ (b : Buffer Leased). b.chunk.page) buffers ≡ map (λ (s : Sheet). Some s) sheets
    tail_of e = cc
