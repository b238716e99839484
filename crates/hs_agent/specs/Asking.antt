-- What is kept while a group claims: the index, the notes of the claims, and what the group holds of the pins are apart. Put
-- back, they are what the model says. And for how many chunks a group needs room.
use Rattle.std.specs.Prelude.{◌≡◌, ℕ, ◌+◌, ◌≤◌, min, true, List, [], ◌∷◌, sum_by, refl}
use Rattle.hs_base.specs.declared.ids.TraceId.{TraceId}
use Rattle.hs_base.specs.declared.told.Ask.{Ask}
use Rattle.hs_base.specs.Rules.{is_declared}
use Rattle.hs_records.specs.declared.books.Claim.{Claim}
use Rattle.hs_base.specs.Samples.{t}
use Rattle.hs_words.specs.Buffers.{Buffer}
use Rattle.hs_words.specs.Chunks.{clear_chunk}
use Rattle.hs_index.specs.Index.{Index, Indexed, noted_of, chunk_count, count_chunks}
use Rattle.hs_pins.specs.Queues.{total_of}
use Rattle.hs_pins.specs.Opens.{Opening, restored}
use Rattle.hs_pins.specs.PinsLayout.{Pinning}
use Rattle.hs_agent.specs.declared.placed.Tagged.{Tagged}
use Rattle.hs_agent.specs.Keeping.{Kept, Point, Holds}

-- how many chunks these traces have in the index, where the chunks of a trace that is named twice count twice
abbrev pub named_chunks : {L : Type 0} → List (Indexed L) → List TraceId → ℕ
named_chunks touched traces = sum_by (λ trace. chunk_count (noted_of trace touched)) traces

-- For how many chunks a group that is to claim these traces needs room: for those of its traces, and never for more than are
-- indexed.
abbrev pub needed : {L : Type 0} → List (Indexed L) → List TraceId → ℕ
needed touched traces = min (named_chunks touched traces) (count_chunks touched)

-- It is the group of the ask that claims, and it has room for the chunks of the traces that are left to be claimed.
pub record IsClaiming {L : Type 0} (ask : Ask) (left : List TraceId) (kept : Kept L) (pins : Pinning (Tagged L)) (index : Index (Tagged L)) (claims : List Claim) (opening : Opening (Tagged L)) (point : Point L) : Type 0 where
  pub holds : Holds (record kept { index = index; claims = claims; pins = restored pins opening }) point
  pub group : opening.group ≡ ask.group
  pub laterals : opening.laterals ≡ ask.laterals
  pub declared : is_declared point.settings.triggers ask.group.trigger ≡ true
  pub most : opening.most ≡ pins.most
  pub ready : total_of (restored pins opening).queues + opening.chunks ≡ opening.ready
  pub chunks : needed index.touched left ≤ opening.chunks

-- ---- examples

-- a trace with so many chunks
abbrev traced : ℕ → List (Buffer ℕ) → Indexed ℕ
traced trace chunks = record { trace = t trace; noted = record { chunks = chunks; crumbs = record { 0 = 0 } } }

abbrev b : ℕ → Buffer ℕ
b number = record { chunk = clear_chunk 64 number; lease = 7 }

-- three chunks of trace 1, one of trace 2, two of trace 3
abbrev six : List (Indexed ℕ)
six = traced 1 (b 0 ∷ b 1 ∷ b 2 ∷ []) ∷ traced 2 (b 3 ∷ []) ∷ traced 3 (b 4 ∷ b 5 ∷ []) ∷ []

-- room for the chunks of the lead and of the lateral, and for no other
its_own_are_needed : needed six (t 2 ∷ t 3 ∷ []) ≡ 3
its_own_are_needed = refl

-- nothing is indexed of trace 9
none_is_needed : needed six (t 9 ∷ []) ≡ 0
none_is_needed = refl

-- trace 1 is named three times: never more than all six
no_more_than_there_are : needed six (t 1 ∷ t 1 ∷ t 1 ∷ []) ≡ 6
no_more_than_there_are = refl
