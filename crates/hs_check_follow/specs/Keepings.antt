-- Chunks that are kept as a client sends them.
use Rattle.std.specs.Prelude.{◌≡◌, ℕ, IsTrue, List, [], ◌∷◌, map, Some}
use Rattle.hs_client.specs.Sending.{Sent}
use Rattle.hs_replay_client.specs.ReplayClients.{Unleased}
use Rattle.hs_words.specs.Buffers.{buffer_of}
use Rattle.hs_words.specs.Pages.{Sheet}
use Rattle.hs_check_follow.specs.declared.keeping.Keeping.{Keeping}

-- The chunks have the pages of these items, one after another, in buffers of this size.
abbrev pub HavePages : (size : ℕ) → List (Sent Sheet) → List Unleased → Type 0
HavePages size [] [] = Unit {0}
HavePages size [] (chunk ∷ chunks) = ⊥
HavePages size (item ∷ items) [] = ⊥
HavePages size (item ∷ items) (chunk ∷ chunks) = (chunk.chunk.page ≡ Some item.item) × (chunk.chunk.size ≡ size) × HavePages size items chunks

-- Where chunks are kept, these are.
abbrev pub KeepsAll : (size : ℕ) → List (Sent Sheet) → Keeping → Type 0
KeepsAll size items keeping = IsTrue keeping.keeps → HavePages size items (map buffer_of keeping.chunks.items)
