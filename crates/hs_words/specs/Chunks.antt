-- What contracts see of a chunk: its number, its size, and the page that stands in it, if it was started. The
-- page has the pieces that were added, in order. A clear chunk has no page.
use Rattle.std.specs.Prelude.{◌≡◌, ℕ, ◌+◌, ◌<◌, ◌≤◌, List, [], ◌∷◌, map, Option, Some, None}
use Rattle.std.specs.Option.{option_map, option_map_or}
use Rattle.std.specs.List.{range_with_len}
use Rattle.hs_words.specs.declared.page.Header.{Header}
use Rattle.hs_words.specs.declared.chunk.Added.{Added}
use Rattle.hs_words.specs.declared.chunk.Added.TheVariants as answers
use Rattle.hs_words.specs.Pages.{Piece, Sheet, with_piece, cost_of, used_by}

pub record Contents : Type 0 where
  pub number : ℕ
  pub size : ℕ
  pub page : Option Sheet

-- a chunk without a page
abbrev pub clear_chunk : ℕ → ℕ → Contents
clear_chunk size number = record { number = number; size = size; page = None }

-- clear chunks of one size, numbered from 0
abbrev pub clear_chunks : ℕ → ℕ → List Contents
clear_chunks count size = map (clear_chunk size) (range_with_len 0 count)

abbrev pub header_of : Sheet → Header
header_of sheet = sheet.header

-- the header, where there is one
abbrev pub header_in : Contents → Option Header
header_in chunk = option_map header_of chunk.page

-- the used bytes of a page
abbrev pub used_of : Sheet → ℕ
used_of sheet = used_by sheet.pieces

-- the used bytes, or 0 where the chunk is clear
abbrev pub used_in : Contents → ℕ
used_in chunk = option_map_or used_of chunk.page 0

-- the chunk with this page
abbrev pub with_page : Contents → Option Sheet → Contents
with_page chunk page = record { number = chunk.number; size = chunk.size; page = page }

-- A piece is added exactly where its cost and the used bytes do not exceed the size; else nothing changes.
abbrev pub Adds : Contents → Piece → Added → Contents → Type 0
Adds old piece answers.Added new = (used_in old + cost_of piece ≤ old.size) × (new ≡ with_page old (option_map (λ sheet. with_piece sheet piece) old.page))
Adds old piece answers.NoRoom new = (old.size < used_in old + cost_of piece) × (new ≡ old)

-- The pieces are added one after another, each where there is room.
abbrev pub Fills : Contents → List Piece → Contents → Type 0
Fills old [] new = new ≡ old
Fills old (piece ∷ pieces) new = (middle : Contents) × Adds old piece answers.Added middle × Fills middle pieces new

-- A page that was started in the old chunk and filled with the pieces stands in the new one.
abbrev pub Writes : Contents → Header → List Piece → Contents → Type 0
Writes old header pieces new = Fills (with_page old (Some (record { header = header; pieces = [] }))) pieces new
