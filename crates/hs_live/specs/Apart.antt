-- How the chunks that a client sends are told apart: by the number of the renewal, which is the mark of a chunk's lease, and the
-- number of the chunk's page.
use Rattle.std.specs.Prelude.{◌≡◌, ◌<◌, List, [], ◌∷◌, Some}
use Rattle.std.specs.List.{AllByRecursion}
use Rattle.hs_words.specs.declared.page.Header.{Header}
use Rattle.hs_words.specs.Chunks.{header_in}
use Rattle.hs_words.specs.Buffers.{Buffer}
use Rattle.hs_ring.specs.Parts.{Leased}

-- If both have the same mark, the later has the higher page.
abbrev pub IsPageBehind : Buffer Leased → Buffer Leased → Type 0
IsPageBehind earlier later =
    (first second : Header) → header_in earlier.chunk ≡ Some first → header_in later.chunk ≡ Some second → later.lease.mark ≡ earlier.lease.mark → first.page < second.page

-- Each chunk is told apart from all behind it.
abbrev pub AreApart : List (Buffer Leased) → Type 0
AreApart [] = Unit {0}
AreApart (buffer ∷ later) = AllByRecursion (IsPageBehind buffer) later × AreApart later
