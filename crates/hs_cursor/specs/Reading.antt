-- What stands at a place among the bytes of a page (`docs/FORMATS.md`, "The page"): the number of its first record, and a piece.
use Rattle.std.specs.Prelude.{◌≡◌, ℕ, ◌+◌, List, [], ◌∷◌, length, take, drop, nat_lt, Option, Some, None, if◌then◌else◌, refl}
use Rattle.hs_base.specs.declared.limits.TheConstants.{PIECE_COST}
use Rattle.byteorder.specs.Endian.{big_number}
use Rattle.hs_words.specs.Pages.{Piece}

-- the number of the record that a page's first piece is of
abbrev pub first_of : List ℕ → ℕ
first_of bytes = big_number 4 (drop 24 bytes)

-- how many bytes the payload has of the piece in front
abbrev pub len_of : List ℕ → ℕ
len_of bytes = big_number 2 bytes

abbrev pub moment_of : List ℕ → ℕ
moment_of bytes = big_number 8 (drop 2 bytes)

abbrev pub payload_of : List ℕ → List ℕ
payload_of bytes = take (len_of bytes) (drop PIECE_COST bytes)

-- the piece in front, where there is a whole one
abbrev pub front_piece : List ℕ → Option Piece
front_piece bytes =
    if nat_lt (length bytes) PIECE_COST then None
    else if nat_lt (length bytes) (PIECE_COST + len_of bytes) then None
    else Some (record { moment = moment_of bytes; payload = payload_of bytes })

-- the piece that begins at this place
abbrev pub piece_at : List ℕ → ℕ → Option Piece
piece_at bytes at = front_piece (drop at bytes)

-- ---- worked examples

abbrev a_piece : Piece
a_piece = record { moment = 258; payload = 7 ∷ 8 ∷ [] }

found : (front_piece (0 ∷ 2 ∷ 0 ∷ 0 ∷ 0 ∷ 0 ∷ 0 ∷ 0 ∷ 1 ∷ 2 ∷ 7 ∷ 8 ∷ 9 ∷ []) ≡ Some a_piece)
    × (piece_at (5 ∷ 0 ∷ 2 ∷ 0 ∷ 0 ∷ 0 ∷ 0 ∷ 0 ∷ 0 ∷ 1 ∷ 2 ∷ 7 ∷ 8 ∷ []) 1 ≡ Some a_piece)
found = (refl, refl)

cut_off : (front_piece (0 ∷ 2 ∷ 0 ∷ 0 ∷ 0 ∷ 0 ∷ 0 ∷ 0 ∷ 1 ∷ 2 ∷ 7 ∷ []) ≡ None) × (front_piece [] ≡ None)
cut_off = (refl, refl)
