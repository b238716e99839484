-- What C is told of a page that lies in a buffer, and of its pieces.
use Rattle.std.specs.Prelude.{◌≡◌, List, [], ◌∷◌, ◌++◌, length, map, take, drop, refl}
use Rattle.hs_words.specs.Pages.{Piece, Sheet, header_bytes, counts_bytes, piece_bytes, page_bytes}
use Rattle.hs_c.specs.Hubs.{trace_out}
use Rattle.hs_c.specs.declared.pages.HindPage.{HindPage}
use Rattle.hs_c.specs.declared.pages.HindPiece.{HindPiece}

-- a piece as C sees it, without its payload
abbrev pub piece_out : Piece → HindPiece
piece_out piece = record { moment = piece.moment; len = length piece.payload }

-- A page as C sees it, without its pieces. Its bytes are the first ones of its buffer.
abbrev pub page_out : Sheet → HindPage
page_out sheet =
    record {
      trace = trace_out sheet.header.trace;
      page = sheet.header.page;
      «record» = sheet.header.first;
      node = sheet.header.client.node;
      client = sheet.header.client.number;
      pieces = length sheet.pieces;
      len = length (page_bytes sheet);
    }

-- `old` with these pieces at its front, as far as there is room
abbrev pub with_pieces : List Piece → List HindPiece → List HindPiece
with_pieces pieces old = take (length old) (map piece_out pieces) ++ drop (length pieces) old

-- ---- examples

abbrev example : Sheet
example =
    record {
      header = record { trace = record { 0 = 0x0a1b }; client = record { node = 3; number = 4 }; page = 7; first = 6 };
      pieces = record { moment = 5; payload = 0xaa ∷ [] } ∷ record { moment = 9; payload = [] } ∷ [];
    }

-- 32 bytes of the header, 11 and 10 of two pieces
page_of_example : page_out example
    ≡ record {
      trace = record { bytes = 0 ∷ 0 ∷ 0 ∷ 0 ∷ 0 ∷ 0 ∷ 0 ∷ 0 ∷ 0 ∷ 0 ∷ 0 ∷ 0 ∷ 0 ∷ 0 ∷ 0x0a ∷ 0x1b ∷ [] };
      page = 7;
      «record» = 6;
      node = 3;
      client = 4;
      pieces = 2;
      len = 53;
    }
unfolding header_bytes counts_bytes piece_bytes
page_of_example = refl

-- where there is room for one of two pieces, it is the first that is written
room_for_one : (old : HindPiece) → with_pieces example.pieces (old ∷ []) ≡ record { moment = 5; len = 1 } ∷ []
room_for_one old = refl

-- what lies behind the pieces stays
room_for_three : (a b c : HindPiece) → with_pieces example.pieces (a ∷ b ∷ c ∷ []) ≡ record { moment = 5; len = 1 } ∷ record { moment = 9; len = 0 } ∷ c ∷ []
room_for_three a b c = refl
