-- What stands in front of the bytes of pieces, and of a page.
use Rattle.std.proofs.Common.{◌≡◌, ℕ, ◌+◌, ◌^◌, ◌<◌, ◌≤◌, false, List, [], ◌∷◌, ◌++◌, length, take, drop, nat_lt, Some, None, refl, sym, ap, ◌∙◌, append_assoc, arith}
use Rattle.std.specs.Prelude.{if◌then◌else◌}
use Rattle.std.specs.List.{AllByRecursion}
use Rattle.std.specs.Int.{w64, to_be_bytes}
use Rattle.std.proofs.lemmas.List.{take_at, drop_at, drop-drop, length-append}
use Rattle.byteorder.specs.Endian.{big_number}
use Rattle.byteorder.specs.Numbers.{big_number-reads_back}
use Rattle.hs_words.specs.declared.page.Header.{Header}
use Rattle.hs_words.specs.Pages.{Piece, Sheet, FitsPiece, piece_bytes, pieces_bytes, used_by, header_bytes, counts_bytes}
use Rattle.hs_words.specs.Reading.{Spells}
use Rattle.hs_words.proofs.Layouts.{length-piece_bytes}
use Rattle.hs_words.proofs.Readings.{fields_of_page}
use Rattle.hs_cursor.specs.Reading.{first_of, len_of, moment_of, payload_of, front_piece, piece_at}

lens : (p : Piece) (rest : List ℕ) → length p.payload < 2 ^ 16 → len_of (piece_bytes p ++ rest) ≡ length p.payload
unfolding piece_bytes
lens p rest fits = big_number-reads_back 2 (length p.payload) (to_be_bytes w64 p.moment ++ (p.payload ++ rest)) fits

moments : (p : Piece) (rest : List ℕ) → p.moment < 2 ^ 64 → moment_of (piece_bytes p ++ rest) ≡ p.moment
unfolding piece_bytes
moments p rest fits = big_number-reads_back 8 p.moment (p.payload ++ rest) fits

behind_fields : (p : Piece) (rest : List ℕ) → drop 10 (piece_bytes p ++ rest) ≡ p.payload ++ rest
unfolding piece_bytes
behind_fields p rest = refl

payloads : (p : Piece) (rest : List ℕ) → length p.payload < 2 ^ 16 → payload_of (piece_bytes p ++ rest) ≡ p.payload
payloads p rest fits =
    ap (λ n. take n (drop 10 (piece_bytes p ++ rest))) (lens p rest fits) ∙ ap (take (length p.payload)) (behind_fields p rest) ∙ take_at p.payload rest (length p.payload) refl

not_less : (m n : ℕ) → n ≤ m → nat_lt m n ≡ false
not_less m n h = grind (arith, h)

pub front-piece : (p : Piece) (rest : List ℕ) → FitsPiece p → front_piece (piece_bytes p ++ rest) ≡ Some p
front-piece p rest fits =
    let bytes = piece_bytes p ++ rest in
    let long : 10 + length p.payload ≤ length bytes = omega (arith, length-append (piece_bytes p) rest, length-piece_bytes p) in
    let len = lens p rest fits.len in
    let found : Piece = record { moment = moment_of bytes; payload = payload_of bytes } in
    ap (λ b. if b then None else if nat_lt (length bytes) (10 + len_of bytes) then None else Some found) (not_less (length bytes) 10 (omega (arith, long)))
    ∙ ap (λ b. if b then None else Some found) (not_less (length bytes) (10 + len_of bytes) (omega (arith, long, len)))
    ∙ (λ i. Some (record { moment = moments p rest fits.moment i; payload = payloads p rest fits.len i }))

-- ---- at a place from which pieces stand

pub piece-there : (bytes : List ℕ) (at : ℕ) (p : Piece) (ps : List Piece) → AllByRecursion FitsPiece (p ∷ ps) → drop at bytes ≡ pieces_bytes (p ∷ ps) → piece_at bytes at ≡ Some p
piece-there bytes at p ps fits stands = ap front_piece stands ∙ front-piece p (pieces_bytes ps) fits.0

pub piece-behind : (bytes : List ℕ) (at : ℕ) (p : Piece) (ps : List Piece) → drop at bytes ≡ pieces_bytes (p ∷ ps) → drop (at + (10 + length p.payload)) bytes ≡ pieces_bytes ps
piece-behind bytes at p ps stands =
    sym (drop-drop (10 + length p.payload) at bytes) ∙ ap (drop (10 + length p.payload)) stands ∙ drop_at (piece_bytes p) (pieces_bytes ps) (10 + length p.payload) (length-piece_bytes p)

pub piece-none : (bytes : List ℕ) (at : ℕ) → drop at bytes ≡ [] → piece_at bytes at ≡ None
piece-none bytes at none = ap front_piece none

-- ---- at the front of a page

first_field : (h : Header) (x : List ℕ) → h.first < 2 ^ 32 → big_number 4 (drop 24 (header_bytes h ++ x)) ≡ h.first
unfolding header_bytes
first_field h x fits = big_number-reads_back 4 h.first x fits

pub first-of : (sheet : Sheet) (bytes : List ℕ) → Spells sheet bytes → first_of bytes ≡ sheet.header.first
first-of sheet bytes spells =
    let h = header_bytes sheet.header in
    let counts = counts_bytes (length sheet.pieces) (used_by sheet.pieces) in
    let pieces = pieces_bytes sheet.pieces in
    ap first_of (spells.bytes_are ∙ append_assoc h counts pieces) ∙ first_field sheet.header (counts ++ pieces) spells.valid.header.first

pub pieces-of : (sheet : Sheet) (bytes : List ℕ) → Spells sheet bytes → drop 32 bytes ≡ pieces_bytes sheet.pieces
pieces-of sheet bytes spells = (fields_of_page sheet bytes spells).rest_is
