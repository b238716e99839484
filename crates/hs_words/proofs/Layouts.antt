-- The parts of a page's bytes: how long they are, and that a page's pieces stand where they are read.
use Rattle.std.proofs.Common.{◌≡◌, ℕ, zero, suc, ◌+◌, ◌*◌, ◌≤◌, List, [], ◌∷◌, ◌++◌, length, take, drop, replicate, Option, Some, None, MatchOption, refl, sym, ap, subst, ◌∙◌, append_assoc, arith}
use Rattle.std.specs.List.{sum_by, AllByRecursion}
use Rattle.std.specs.Option.{option_map}
use Rattle.std.proofs.lemmas.List.{take_at, drop_at, length-append, append-nil, take-append-drop, length-drop, length-take-le, length-replicate, get_or-append_right, get_or-drop, get_or-replicate}
use Rattle.std.proofs.lemmas.List.Sums.{sum_by-cons, sum_by-append}
use Rattle.std.proofs.lemmas.List.Concat.{flat_map-append}
use Rattle.std.proofs.lemmas.Nat.{from_be_bytes-to_be_bytes_2, from_be_bytes-to_be_bytes_8}
use Rattle.hs_base.proofs.Alls.{all_push}
use Rattle.hs_words.specs.declared.page.Header.{Header}
use Rattle.hs_words.specs.declared.layout.Front.{Front}
use Rattle.hs_words.specs.Pages.{Piece, Sheet, with_piece, FitsHeader, FitsPiece, cost_of, used_by, header_bytes, counts_bytes, piece_bytes, pieces_bytes, page_bytes}
use Rattle.hs_words.specs.Reading.{used_field}
use Rattle.hs_words.specs.Shown.{Shows, ShowsPage, ShowsNothing, IsBehind}
use Rattle.hs_words.specs.ChunkLayout.{pieces_in, sheet_in, Holds}

-- ---- lengths

pub length-header_bytes : (h : Header) → length (header_bytes h) ≡ 28
unfolding header_bytes
length-header_bytes h = refl

pub length-counts_bytes : (count used : ℕ) → length (counts_bytes count used) ≡ 4
unfolding counts_bytes
length-counts_bytes count used = refl

pub length-piece_bytes : (piece : Piece) → length (piece_bytes piece) ≡ cost_of piece
unfolding piece_bytes
length-piece_bytes piece = omega arith

pub length-pieces_bytes : (pieces : List Piece) → length (pieces_bytes pieces) ≡ sum_by cost_of pieces
length-pieces_bytes [] = refl
length-pieces_bytes (piece ∷ pieces) =
    omega (arith, length-append (piece_bytes piece) (pieces_bytes pieces), length-piece_bytes piece, length-pieces_bytes pieces, sum_by-cons cost_of piece pieces)

pub length-page_bytes : (sheet : Sheet) → length (page_bytes sheet) ≡ used_by sheet.pieces + 8
length-page_bytes sheet =
    let h = header_bytes sheet.header in
    let counts = counts_bytes (length sheet.pieces) (used_by sheet.pieces) in
    let pieces = pieces_bytes sheet.pieces in
    omega (
      arith,
      length-append (h ++ counts) pieces,
      length-append h counts,
      length-header_bytes sheet.header,
      length-counts_bytes (length sheet.pieces) (used_by sheet.pieces),
      length-pieces_bytes sheet.pieces,
    )

-- a piece costs 10 at least
pub costs_at_least : (pieces : List Piece) → 10 * length pieces ≤ sum_by cost_of pieces
costs_at_least [] = omega arith
costs_at_least (piece ∷ pieces) = omega (arith, sum_by-cons cost_of piece pieces, costs_at_least pieces)

pub used_by-push : (pieces : List Piece) (piece : Piece) → used_by (pieces ++ piece ∷ []) ≡ used_by pieces + cost_of piece
used_by-push pieces piece = omega (arith, sum_by-append cost_of pieces (piece ∷ []))

-- ---- the pieces in a buffer

pub length-pieces_in : (count : ℕ) (bytes : List ℕ) → length (pieces_in count bytes) ≡ count
unfolding pieces_in
length-pieces_in zero bytes = refl
length-pieces_in (suc count) bytes = ap suc (length-pieces_in count _)

-- the first piece is read again, and then the others
first_piece : (piece : Piece) (count : ℕ) (rest : List ℕ) → FitsPiece piece → pieces_in (suc count) (piece_bytes piece ++ rest) ≡ piece ∷ pieces_in count rest
unfolding pieces_in piece_bytes
first_piece piece count rest fits =
    let len = from_be_bytes-to_be_bytes_2 (length piece.payload) fits.len in
    let moment = from_be_bytes-to_be_bytes_8 piece.moment fits.moment in
    rw (len, moment, take_at piece.payload rest (length piece.payload) refl, drop_at piece.payload rest (length piece.payload) refl) refl

pub pieces_again : (pieces : List Piece) (rest : List ℕ) → AllByRecursion FitsPiece pieces → pieces_in (length pieces) (pieces_bytes pieces ++ rest) ≡ pieces
unfolding pieces_in
pieces_again [] rest fits = refl
pieces_again (piece ∷ pieces) rest fits =
    ap (pieces_in (suc (length pieces))) (append_assoc (piece_bytes piece) (pieces_bytes pieces) rest)
    ∙ first_piece piece (length pieces) (pieces_bytes pieces ++ rest) fits.0
    ∙ ap (λ (ps : List Piece). piece ∷ ps) (pieces_again pieces rest fits.1)

-- what stands behind a page's header
pub behind_header : (sheet : Sheet) (rest : List ℕ) → drop 32 (page_bytes sheet ++ rest) ≡ pieces_bytes sheet.pieces ++ rest
behind_header sheet rest =
    let h = header_bytes sheet.header in
    let counts = counts_bytes (length sheet.pieces) (used_by sheet.pieces) in
    let pieces = pieces_bytes sheet.pieces in
    ap (drop 32) (append_assoc (h ++ counts) pieces rest)
    ∙ drop_at (h ++ counts) (pieces ++ rest) 32 (omega (arith, length-append h counts, length-header_bytes sheet.header, length-counts_bytes (length sheet.pieces) (used_by sheet.pieces)))

-- A buffer that begins with a page's bytes holds that page.
pub holds_page : (h : Header) (pieces : List Piece) (count used : ℕ) (bytes rest : List ℕ) → FitsHeader h → AllByRecursion FitsPiece pieces → count ≡ length pieces → used ≡ used_by pieces
    → bytes ≡ page_bytes (record { header = h; pieces = pieces }) ++ rest
    → Holds bytes (record { header = h; count = count; used = used }) × (sheet_in bytes (record { header = h; count = count; used = used }) ≡ record { header = h; pieces = pieces })
holds_page h pieces count used bytes rest fits_header fits count_is used_is bytes_are =
    let sheet : Sheet = record { header = h; pieces = pieces } in
    let read : pieces_in count (drop 32 bytes) ≡ pieces =
    ap (λ n. pieces_in n (drop 32 bytes)) count_is ∙ ap (pieces_in (length pieces)) (ap (drop 32) bytes_are ∙ behind_header sheet rest) ∙ pieces_again pieces rest fits in
    let long : length (page_bytes sheet) ≡ used + 8 = omega (arith, length-page_bytes sheet) in
    let spelled : take (used + 8) bytes ≡ page_bytes sheet = ap (take (used + 8)) bytes_are ∙ take_at (page_bytes sheet) rest (used + 8) long in
    let back = sym read in (
      record {
        header = fits_header;
        pieces = subst (λ (ps : List Piece). AllByRecursion FitsPiece ps) back fits;
        used = subst (λ (ps : List Piece). used ≡ used_by ps) back used_is;
        room = omega (arith, ap length bytes_are, length-append (page_bytes sheet) rest, long);
        spelled = subst (λ (ps : List Piece). take (used + 8) bytes ≡ page_bytes (record { header = h; pieces = ps })) back spelled;
      },
      ap (λ (ps : List Piece). record { header = h; pieces = ps }) read,
    )

-- ---- a piece more

pub empty_page : (h : Header) (rest : List ℕ) → header_bytes h ++ (counts_bytes 0 24 ++ rest) ≡ page_bytes (record { header = h; pieces = [] }) ++ rest
empty_page h rest =
    sym (append_assoc (header_bytes h) (counts_bytes 0 24) rest) ∙ ap (λ xs. xs ++ rest) (sym (append-nil (header_bytes h ++ counts_bytes 0 24)))

longer_page : (sheet : Sheet) (piece : Piece) (count used : ℕ) (rest : List ℕ) → count ≡ length sheet.pieces + 1 → used ≡ used_by sheet.pieces + cost_of piece
    → header_bytes sheet.header ++ (counts_bytes count used ++ (pieces_bytes sheet.pieces ++ (piece_bytes piece ++ rest))) ≡ page_bytes (with_piece sheet piece) ++ rest
longer_page sheet piece count used rest count_is used_is =
    let h = header_bytes sheet.header in
    let pieces = sheet.pieces ++ piece ∷ [] in
    let many : count ≡ length pieces = omega (arith, length-append sheet.pieces (piece ∷ [])) in
    let counts : counts_bytes count used ≡ counts_bytes (length pieces) (used_by pieces) =
    ap (λ n. counts_bytes n used) many ∙ ap (counts_bytes (length pieces)) (used_is ∙ sym (used_by-push sheet.pieces piece)) in
    let more : pieces_bytes sheet.pieces ++ piece_bytes piece ≡ pieces_bytes pieces =
    ap (λ (xs : List ℕ). pieces_bytes sheet.pieces ++ xs) (sym (append-nil (piece_bytes piece))) ∙ sym (flat_map-append piece_bytes sheet.pieces (piece ∷ [])) in
    let behind : pieces_bytes sheet.pieces ++ (piece_bytes piece ++ rest) ≡ pieces_bytes pieces ++ rest =
    sym (append_assoc (pieces_bytes sheet.pieces) (piece_bytes piece) rest) ∙ ap (λ xs. xs ++ rest) more in
    ap (λ xs. h ++ (counts_bytes count used ++ xs)) behind
    ∙ ap (λ xs. h ++ (xs ++ (pieces_bytes pieces ++ rest))) counts
    ∙ sym (append_assoc h (counts_bytes (length pieces) (used_by pieces)) (pieces_bytes pieces ++ rest))
    ∙ sym (append_assoc (h ++ counts_bytes (length pieces) (used_by pieces)) (pieces_bytes pieces) rest)

-- a buffer begins with the page that it holds
pub begins_with : (page : Front) (bytes : List ℕ) → Holds bytes page → bytes ≡ page_bytes (sheet_in bytes page) ++ drop (page.used + 8) bytes
begins_with page bytes holds = sym (take-append-drop (page.used + 8) bytes) ∙ ap (λ xs. xs ++ drop (page.used + 8) bytes) holds.spelled

-- what is written behind a page leaves the page
pub keeps : (page : Front) (old new more : List ℕ) (at : ℕ) → Holds old page → at ≡ page.used + 8 → new ≡ take at old ++ more → Holds new page × (sheet_in new page ≡ sheet_in old page)
keeps page old new more at holds at_is new_is =
    let sheet = sheet_in old page in
    holds_page page.header sheet.pieces page.count page.used new more holds.header holds.pieces (sym (length-pieces_in page.count (drop 32 old))) holds.used
    (new_is ∙ ap (λ n. take n old ++ more) at_is ∙ ap (λ xs. xs ++ more) holds.spelled)

-- the counts of a piece that stands behind a page
pub counts : (page : Front) (piece : Piece) (old new : List ℕ) (cost count used : ℕ) → Holds old page → IsBehind page.used piece old → cost_of piece ≡ cost → count ≡ page.count + 1 → used ≡ page.used + cost
    → new ≡ take 28 old ++ (counts_bytes count used ++ drop 32 old)
    → Holds new (record { header = page.header; count = count; used = used })
    × (sheet_in new (record { header = page.header; count = count; used = used }) ≡ with_piece (sheet_in old page) piece)
counts page piece old new cost count used holds behind cost_is count_is used_is new_is =
    let sheet = sheet_in old page in
    let h = header_bytes sheet.header in
    let before = counts_bytes (length sheet.pieces) (used_by sheet.pieces) in
    let more = piece_bytes piece ++ behind.rest in
    let many : count ≡ length sheet.pieces + 1 = omega (arith, length-pieces_in page.count (drop 32 old), count_is) in
    let costs : used ≡ used_by sheet.pieces + cost_of piece = omega (arith, holds.used, cost_is, used_is) in
    let begins : old ≡ page_bytes sheet ++ more = begins_with page old holds ∙ ap (λ xs. page_bytes sheet ++ xs) behind.stands in
    let grouped : old ≡ h ++ (before ++ (pieces_bytes sheet.pieces ++ more)) =
    begins ∙ append_assoc (h ++ before) (pieces_bytes sheet.pieces) more ∙ append_assoc h before (pieces_bytes sheet.pieces ++ more) in
    let head : take 28 old ≡ h = ap (take 28) grouped ∙ take_at h (before ++ (pieces_bytes sheet.pieces ++ more)) 28 (length-header_bytes sheet.header) in
    let tail : drop 32 old ≡ pieces_bytes sheet.pieces ++ more = ap (drop 32) begins ∙ behind_header sheet more in
    let new_are : new ≡ page_bytes (with_piece sheet piece) ++ behind.rest =
    new_is ∙ ap (λ xs. xs ++ (counts_bytes count used ++ drop 32 old)) head ∙ ap (λ xs. h ++ (counts_bytes count used ++ xs)) tail ∙ longer_page sheet piece count used behind.rest many costs in
    holds_page page.header (sheet.pieces ++ piece ∷ []) count used new behind.rest holds.header (all_push FitsPiece sheet.pieces piece holds.pieces behind.fits)
    (omega (arith, many, length-append sheet.pieces (piece ∷ []))) (costs ∙ sym (used_by-push sheet.pieces piece)) new_are

-- a page that is held is shown
pub holds_shows : (page : Front) (bytes : List ℕ) → Holds bytes page → length bytes ≤ 32776 → ShowsPage bytes (sheet_in bytes page)
holds_shows page bytes holds small =
    record { header = holds.header; pieces = holds.pieces; used = omega (arith, holds.used, holds.room, small); rest = drop (page.used + 8) bytes; begins = begins_with page bytes holds }

-- the memory of a chunk shows its page
pub memory_shows : (page : Option Front) (bytes : List ℕ) → MatchOption page (ShowsNothing bytes) (Holds bytes) → length bytes ≤ 32776 → Shows bytes (option_map (sheet_in bytes) page)
memory_shows None bytes nothing small = nothing
memory_shows (Some page) bytes holds small = holds_shows page bytes holds small

-- ---- the used field

-- what the counts say behind the 28 bytes of a header's fields
pub used_of_zeros : (front rest : List ℕ) → length front ≡ 28 → used_field (front ++ (counts_bytes 0 0 ++ rest)) ≡ 0
unfolding counts_bytes
used_of_zeros front rest long =
    omega (arith, get_or-append_right front (0 ∷ 0 ∷ 0 ∷ 0 ∷ rest) 28 30 0 long (omega arith), get_or-append_right front (0 ∷ 0 ∷ 0 ∷ 0 ∷ rest) 28 31 0 long (omega arith))

-- a header's fields leave it as it was
pub used_behind : (h : Header) (old : List ℕ) → used_field (header_bytes h ++ drop 28 old) ≡ used_field old
used_behind h old =
    omega (
      arith,
      get_or-append_right (header_bytes h) (drop 28 old) 28 30 0 (length-header_bytes h) (omega arith),
      get_or-append_right (header_bytes h) (drop 28 old) 28 31 0 (length-header_bytes h) (omega arith),
      get_or-drop 28 old 2 0,
      get_or-drop 28 old 3 0,
    )

-- a header's fields in a buffer that shows nothing
pub still_nothing : (h : Header) (old new : List ℕ) → new ≡ header_bytes h ++ drop 28 old → ShowsNothing old → ShowsNothing new
still_nothing h old new new_is nothing =
    record {
      whole = omega (arith, ap length new_is, length-append (header_bytes h) (drop 28 old), length-header_bytes h, length-drop 28 old, nothing.whole);
      none = ap used_field new_is ∙ used_behind h old ∙ nothing.none;
    }

pub length_counted : (old new : List ℕ) (count used : ℕ) → 32 ≤ length old → new ≡ take 28 old ++ (counts_bytes count used ++ drop 32 old) → length new ≡ length old
length_counted old new count used long new_is =
    omega (
      arith,
      ap length new_is,
      length-append (take 28 old) (counts_bytes count used ++ drop 32 old),
      length-append (counts_bytes count used) (drop 32 old),
      length-counts_bytes count used,
      length-drop 32 old,
      length-take-le 28 old (omega (arith, long)),
      long,
    )

-- empty counts
pub nothing_left : (old new : List ℕ) → 32 ≤ length old → new ≡ take 28 old ++ (counts_bytes 0 0 ++ drop 32 old) → ShowsNothing new
nothing_left old new long new_is =
    record { whole = omega (arith, length_counted old new 0 0 long new_is, long); none = ap used_field new_is ∙ used_of_zeros (take 28 old) (drop 32 old) (length-take-le 28 old (omega (arith, long))) }

-- memory that was just taken
pub zeros_show_nothing : (bytes : List ℕ) (n : ℕ) → 32 ≤ n → bytes ≡ replicate n 0 → ShowsNothing bytes
zeros_show_nothing bytes n long bytes_are =
    record {
      whole = omega (arith, ap length bytes_are, length-replicate {A = ℕ} n 0, long);
      none = ap used_field bytes_are ∙ omega (arith, get_or-replicate {A = ℕ} n 30 0 0 (omega (arith, long)), get_or-replicate {A = ℕ} n 31 0 0 (omega (arith, long)));
    }

-- ---- how large the counts are

pub fits_behind : (page : Front) (piece : Piece) (bytes : List ℕ) → Holds bytes page → IsBehind page.used piece bytes → page.used + 8 + cost_of piece ≤ length bytes
fits_behind page piece bytes holds behind =
    omega (arith, holds.room, ap length behind.stands, length-drop (page.used + 8) bytes, length-append (piece_bytes piece) behind.rest, length-piece_bytes piece)

pub few_pieces : (page : Front) (bytes : List ℕ) → Holds bytes page → length bytes ≤ 32776 → page.count ≤ 3276
few_pieces page bytes holds small =
    omega (arith, costs_at_least (sheet_in bytes page).pieces, length-pieces_in page.count (drop 32 bytes), holds.used, holds.room, small)
