-- Which pages a segment has: those of its core whose numbers lie between the ones that the notes of its begin and its end name.
use Rattle.std.specs.Prelude.{◌≡◌, ℕ, ◌<◌, ◌≤◌, List, [], ◌∷◌, ◌++◌, length, Some, None}
use Rattle.std.specs.List.{AllByRecursion}
use Rattle.hs_base.specs.declared.ids.TraceId.{TraceId}
use Rattle.hs_link.specs.Contents.{sent}
use Rattle.hs_live.specs.Done.{HasDone}
use Rattle.hs_live.specs.Live.{PlainClient}
use Rattle.hs_live.specs.Writing.{Made}
use Rattle.hs_records.specs.Plain.{Operation, Begin, Point, Crumb, End}
use Rattle.hs_ring.specs.Parts.{Leased}
use Rattle.hs_words.specs.Buffers.{Buffer}
use Rattle.hs_words.specs.Chunks.{header_in}
use Rattle.hs_words.specs.declared.page.Header.{Header}

-- no trace begins or ends among these
abbrev pub AreWithin : List Operation → Type 0
AreWithin [] = Unit {0}
AreWithin (Begin trace ∷ ops) = ⊥
AreWithin (End ∷ ops) = ⊥
AreWithin (op ∷ ops) = AreWithin ops

-- If the chunk has a page of this core, its number is below this one.
abbrev pub IsBelow : ℕ → ℕ → Buffer Leased → Type 0
IsBelow core behind buffer = (header : Header) → header_in buffer.chunk ≡ Some header → buffer.lease.mark ≡ core → header.page < behind

-- If the chunk has a page of this core whose number is not below the first, it is a page of the trace, and its number is below the last.
abbrev pub IsOf : ℕ → ℕ → ℕ → TraceId → Buffer Leased → Type 0
IsOf core first behind trace buffer =
    (header : Header) → header_in buffer.chunk ≡ Some header → buffer.lease.mark ≡ core → first ≤ header.page → (header.page < behind) × (header.trace ≡ trace)

-- What was sent before a segment lies below its pages, and what was sent until its end lies below them, or is a page of its trace.
pub record HasItsPages (trace : TraceId) (old new : PlainClient) : Type 0 where
  pub earlier : AllByRecursion (IsBelow new.core.renewed (length old.core.pages)) (sent old.chunks)
  pub own : AllByRecursion (IsOf new.core.renewed (length old.core.pages) (length new.core.pages) trace) (sent new.chunks)

-- A segment begins where no trace is open, and goes on until its end.
abbrev pub SegmentsHaveTheirPages : Type 0
SegmentsHaveTheirPages =
    (made : Made) (before within : List Operation) (trace : TraceId) (old new : PlainClient) → HasDone made before old → old.core.trace ≡ None → AreWithin within
    → HasDone made (before ++ Begin trace ∷ (within ++ End ∷ [])) new → HasItsPages trace old new

-- ---- examples

abbrev t : TraceId
t = record { 0 = 5 }

-- a segment has points and crumbs, and another one begins outside of it
within : AreWithin (Point 7 [] ∷ Crumb (record { 0 = 1 }) ∷ [])
within = tt

outside : AreWithin (Point 7 [] ∷ End ∷ Begin t ∷ []) → ⊥
outside h = h
