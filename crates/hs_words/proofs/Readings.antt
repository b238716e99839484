-- A page's bytes are read in one way: two spellings that begin alike are of the same things.
use Rattle.std.proofs.Common.{◌≡◌, ℕ, ◌+◌, ◌^◌, ◌<◌, ◌↔◌, List, [], ◌∷◌, ◌++◌, length, take, drop, refl, sym, ap, ◌∙◌, append_assoc, arith}
use Rattle.std.specs.List.{AllByRecursion}
use Rattle.std.specs.Int.{w16, w32, w64, w128, to_be_bytes, from_be_bytes}
use Rattle.std.proofs.lemmas.List.{take_at, drop_at, length-append}
use Rattle.std.proofs.lemmas.Nat.{from_be_bytes-to_be_bytes_2, from_be_bytes-to_be_bytes_4, from_be_bytes-to_be_bytes_8}
use Rattle.hs_words.specs.Pages.{Piece, Sheet, FitsHeader, FitsPiece, IsPage, used_by, header_bytes, counts_bytes, piece_bytes, pieces_bytes, page_bytes}
use Rattle.hs_words.specs.declared.page.Header.{Header}
use Rattle.hs_words.specs.Reading.{BeginsWithPiece, HasPieces, Spells, count_field, used_field}
use Rattle.hs_words.proofs.Numbers.{again_128}
use Rattle.hs_words.proofs.Layouts.{length-piece_bytes, costs_at_least}

-- numbers with the same bytes are the same
same_16 : (m n : ℕ) → m < 2 ^ 16 → n < 2 ^ 16 → to_be_bytes w16 m ≡ to_be_bytes w16 n → m ≡ n
same_16 m n fits fits' same = sym (from_be_bytes-to_be_bytes_2 m fits) ∙ ap (from_be_bytes w16) same ∙ from_be_bytes-to_be_bytes_2 n fits'

same_32 : (m n : ℕ) → m < 2 ^ 32 → n < 2 ^ 32 → to_be_bytes w32 m ≡ to_be_bytes w32 n → m ≡ n
same_32 m n fits fits' same = sym (from_be_bytes-to_be_bytes_4 m fits) ∙ ap (from_be_bytes w32) same ∙ from_be_bytes-to_be_bytes_4 n fits'

same_64 : (m n : ℕ) → m < 2 ^ 64 → n < 2 ^ 64 → to_be_bytes w64 m ≡ to_be_bytes w64 n → m ≡ n
same_64 m n fits fits' same = sym (from_be_bytes-to_be_bytes_8 m fits) ∙ ap (from_be_bytes w64) same ∙ from_be_bytes-to_be_bytes_8 n fits'

same_128 : (m n : ℕ) → m < 2 ^ 128 → n < 2 ^ 128 → to_be_bytes w128 m ≡ to_be_bytes w128 n → m ≡ n
same_128 m n fits fits' same = sym (again_128 m fits) ∙ ap (from_be_bytes w128) same ∙ again_128 n fits'

-- ---- pieces

-- fewer bytes than a piece's fields have begin with none
pub too_short : (bytes : List ℕ) → length bytes < 10 → BeginsWithPiece bytes → ⊥
too_short bytes few (piece, rest, fits, begins) =
    absurd (omega (arith, few, ap length begins, length-append (piece_bytes piece) rest, length-piece_bytes piece))

-- what stands in a piece's fields
len_field : (piece : Piece) (x : List ℕ) → take 2 (piece_bytes piece ++ x) ≡ to_be_bytes w16 (length piece.payload)
unfolding piece_bytes
len_field piece x = refl

moment_field : (piece : Piece) (x : List ℕ) → take 8 (drop 2 (piece_bytes piece ++ x)) ≡ to_be_bytes w64 piece.moment
unfolding piece_bytes
moment_field piece x = refl

behind_fields : (piece : Piece) (x : List ℕ) → drop 10 (piece_bytes piece ++ x) ≡ piece.payload ++ x
unfolding piece_bytes
behind_fields piece x = refl

pub fields_are_piece : (moment : ℕ) (payload rest : List ℕ) → to_be_bytes w16 (length payload) ++ (to_be_bytes w64 moment ++ (payload ++ rest)) ≡ piece_bytes (record { moment = moment; payload = payload }) ++ rest
unfolding piece_bytes
fields_are_piece moment payload rest = refl

-- a payload cut off
pub cut_off : (bytes rest behind : List ℕ) (len moment : ℕ) → len < 2 ^ 16 → bytes ≡ to_be_bytes w16 len ++ rest → rest ≡ to_be_bytes w64 moment ++ behind → length behind < len → BeginsWithPiece bytes → ⊥
cut_off bytes rest behind len moment small bytes_are rest_is few (piece, more, fits, begins) =
    let whole : bytes ≡ to_be_bytes w16 len ++ (to_be_bytes w64 moment ++ behind) = bytes_are ∙ ap (λ xs. to_be_bytes w16 len ++ xs) rest_is in
    let field : to_be_bytes w16 len ≡ to_be_bytes w16 (length piece.payload) = sym (ap (take 2) whole) ∙ ap (take 2) begins ∙ len_field piece more in
    let same : len ≡ length piece.payload = same_16 len (length piece.payload) small fits.len field in
    let behinds : behind ≡ piece.payload ++ more = sym (ap (drop 10) whole) ∙ ap (drop 10) begins ∙ behind_fields piece more in
    absurd (omega (arith, same, few, ap length behinds, length-append piece.payload more))

-- the same piece, and the same behind it
pub piece_same : (p q : Piece) (x y : List ℕ) → FitsPiece p → FitsPiece q → piece_bytes p ++ x ≡ piece_bytes q ++ y → (p ≡ q) × (x ≡ y)
piece_same p q x y fits fits' same =
    let len : length p.payload ≡ length q.payload = same_16 _ _ fits.len fits'.len (sym (len_field p x) ∙ ap (take 2) same ∙ len_field q y) in
    let moment : p.moment ≡ q.moment = same_64 _ _ fits.moment fits'.moment (sym (moment_field p x) ∙ ap (λ xs. take 8 (drop 2 xs)) same ∙ moment_field q y) in
    let behind : p.payload ++ x ≡ q.payload ++ y = sym (behind_fields p x) ∙ ap (drop 10) same ∙ behind_fields q y in
    let payload : p.payload ≡ q.payload = sym (take_at p.payload x (length p.payload) refl) ∙ ap (take (length p.payload)) behind ∙ take_at q.payload y (length p.payload) (sym len) in
    let rest : x ≡ y = sym (drop_at p.payload x (length p.payload) refl) ∙ ap (drop (length p.payload)) behind ∙ drop_at q.payload y (length p.payload) (sym len) in
    (λ i. record { moment = moment i; payload = payload i }, rest)

-- behind a piece there is one fewer
pub one_fewer : (n m : ℕ) (bytes rest : List ℕ) (p : Piece) → n ≡ m + 1 → FitsPiece p → bytes ≡ piece_bytes p ++ rest → HasPieces n bytes → HasPieces m rest
one_fewer n m bytes rest p next fits begins ([], fits', many, spelled) = absurd (omega (arith, many, next))
one_fewer n m bytes rest p next fits begins (q ∷ qs, fits', many, spelled) =
    (qs, fits'.1, omega (arith, many, next), (piece_same p q rest (pieces_bytes qs) fits fits'.0 (sym begins ∙ spelled)).1)

pub one_more : (n m : ℕ) (bytes rest : List ℕ) (p : Piece) → n ≡ m + 1 → FitsPiece p → bytes ≡ piece_bytes p ++ rest → HasPieces m rest → HasPieces n bytes
one_more n m bytes rest p next fits begins (ps, fits', many, spelled) =
    (p ∷ ps, (fits, fits'), omega (arith, many, next), begins ∙ ap (λ xs. piece_bytes p ++ xs) spelled)

pub begins_with_one : (n : ℕ) (bytes : List ℕ) → 0 < n → HasPieces n bytes → BeginsWithPiece bytes
begins_with_one n bytes some ([], fits, many, spelled) = absurd (omega (arith, many, some))
begins_with_one n bytes some (p ∷ ps, fits, many, spelled) = (p, pieces_bytes ps, fits.0, spelled)

pub none_left : (n : ℕ) (bytes : List ℕ) → n ≡ 0 → HasPieces n bytes ↔ (bytes ≡ [])
none_left n bytes zero_is = (none, λ is. ([], tt, sym zero_is, is))
  where
    none : HasPieces n bytes → bytes ≡ []
    none ([], fits, many, spelled) = spelled
    none (p ∷ ps, fits, many, spelled) = absurd (omega (arith, many, zero_is))

-- as many pieces with the same bytes are the same
pub pieces_same : (ps qs : List Piece) → AllByRecursion FitsPiece ps → AllByRecursion FitsPiece qs → length ps ≡ length qs → pieces_bytes ps ≡ pieces_bytes qs → ps ≡ qs
pieces_same [] [] fits fits' many same = refl
pieces_same [] (q ∷ qs) fits fits' many same = absurd (omega (arith, many))
pieces_same (p ∷ ps) [] fits fits' many same = absurd (omega (arith, many))
pieces_same (p ∷ ps) (q ∷ qs) fits fits' many same =
    let first = piece_same p q (pieces_bytes ps) (pieces_bytes qs) fits.0 fits'.0 same in
    let rest = pieces_same ps qs fits.1 fits'.1 (omega (arith, many)) first.1 in
    λ i. first.0 i ∷ rest i

-- ---- whole pages

trace_field : (h : Header) (x : List ℕ) → take 16 (header_bytes h ++ x) ≡ to_be_bytes w128 h.trace.0
unfolding header_bytes
trace_field h x = refl

node_field : (h : Header) (x : List ℕ) → take 2 (drop 16 (header_bytes h ++ x)) ≡ to_be_bytes w16 h.client.node
unfolding header_bytes
node_field h x = refl

client_field : (h : Header) (x : List ℕ) → take 2 (drop 18 (header_bytes h ++ x)) ≡ to_be_bytes w16 h.client.number
unfolding header_bytes
client_field h x = refl

page_field : (h : Header) (x : List ℕ) → take 4 (drop 20 (header_bytes h ++ x)) ≡ to_be_bytes w32 h.page
unfolding header_bytes
page_field h x = refl

first_field : (h : Header) (x : List ℕ) → take 4 (drop 24 (header_bytes h ++ x)) ≡ to_be_bytes w32 h.first
unfolding header_bytes
first_field h x = refl

pub header_same : (h k : Header) (x y : List ℕ) → FitsHeader h → FitsHeader k → header_bytes h ++ x ≡ header_bytes k ++ y → h ≡ k
header_same h k x y fits fits' same =
    let trace : h.trace.0 ≡ k.trace.0 = same_128 _ _ fits.trace fits'.trace (sym (trace_field h x) ∙ ap (take 16) same ∙ trace_field k y) in
    let node : h.client.node ≡ k.client.node = same_16 _ _ fits.node fits'.node (sym (node_field h x) ∙ ap (λ xs. take 2 (drop 16 xs)) same ∙ node_field k y) in
    let client : h.client.number ≡ k.client.number = same_16 _ _ fits.client fits'.client (sym (client_field h x) ∙ ap (λ xs. take 2 (drop 18 xs)) same ∙ client_field k y) in
    let page : h.page ≡ k.page = same_32 _ _ fits.page fits'.page (sym (page_field h x) ∙ ap (λ xs. take 4 (drop 20 xs)) same ∙ page_field k y) in
    let first : h.first ≡ k.first = same_32 _ _ fits.first fits'.first (sym (first_field h x) ∙ ap (λ xs. take 4 (drop 24 xs)) same ∙ first_field k y) in
    λ i. record { trace = record { 0 = trace i }; client = record { node = node i; number = client i }; page = page i; first = first i }

-- what the counts say, and what stands behind them
pub record Fields (bytes rest : List ℕ) (count used : ℕ) : Type 0 where
  pub count_is : count_field bytes ≡ count
  pub used_is : used_field bytes ≡ used
  pub rest_is : drop 32 bytes ≡ rest
  pub long : length bytes ≡ 32 + length rest

pub fields_of : (h : Header) (count used : ℕ) (bytes rest : List ℕ) → bytes ≡ header_bytes h ++ counts_bytes count used ++ rest → count < 2 ^ 16 → used < 2 ^ 16 → Fields bytes rest count used
unfolding header_bytes counts_bytes
fields_of h count used bytes rest bytes_are few small =
    record {
      count_is = ap count_field bytes_are ∙ omega arith;
      used_is = ap used_field bytes_are ∙ omega arith;
      rest_is = ap (drop 32) bytes_are;
      long = ap length bytes_are ∙ omega arith;
    }

pub count_small : (sheet : Sheet) → IsPage sheet → length sheet.pieces < 2 ^ 16
count_small sheet valid = omega (arith, costs_at_least sheet.pieces, valid.used)

pub fields_of_page : (sheet : Sheet) (bytes : List ℕ) → Spells sheet bytes → Fields bytes (pieces_bytes sheet.pieces) (length sheet.pieces) (used_by sheet.pieces)
fields_of_page sheet bytes spells =
    fields_of sheet.header (length sheet.pieces) (used_by sheet.pieces) bytes (pieces_bytes sheet.pieces) spells.bytes_are (count_small sheet spells.valid) spells.valid.used

-- No two pages have the same bytes.
pub page_same : (p q : Sheet) → IsPage p → IsPage q → page_bytes p ≡ page_bytes q → p ≡ q
page_same p q valid valid' same =
    let here = fields_of_page p (page_bytes p) (record { valid = valid; bytes_are = refl }) in
    let there = fields_of_page q (page_bytes p) (record { valid = valid'; bytes_are = same }) in
    let grouped : header_bytes p.header ++ (counts_bytes (length p.pieces) (used_by p.pieces) ++ pieces_bytes p.pieces) ≡ header_bytes q.header ++ (counts_bytes (length q.pieces) (used_by q.pieces) ++ pieces_bytes q.pieces) =
    sym (append_assoc (header_bytes p.header) (counts_bytes (length p.pieces) (used_by p.pieces)) (pieces_bytes p.pieces)) ∙ same
    ∙ append_assoc (header_bytes q.header) (counts_bytes (length q.pieces) (used_by q.pieces)) (pieces_bytes q.pieces) in
    let header : p.header ≡ q.header = header_same p.header q.header _ _ valid.header valid'.header grouped in
    let many : length p.pieces ≡ length q.pieces = sym here.count_is ∙ there.count_is in
    let pieces : p.pieces ≡ q.pieces = pieces_same p.pieces q.pieces valid.pieces valid'.pieces many (sym here.rest_is ∙ there.rest_is) in
    λ i. record { header = header i; pieces = pieces i }
