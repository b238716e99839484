-- What reading a buffer by its counts may answer, from what the steps found.
use Rattle.std.proofs.Common.{◌≡◌, ℕ, ◌+◌, ◌-◌, ◌^◌, ◌<◌, ◌≤◌, List, ◌++◌, length, take, drop, Result, Ok, Err, refl, sym, ap, ◌∙◌, append_assoc, arith}
use Rattle.std.specs.List.{AllByRecursion, sum_by}
use Rattle.std.proofs.lemmas.List.{take_at, take-append-drop, length-append, length-take-le}
use Rattle.std.proofs.lemmas.Result.{MatchResult-at_err}
use Rattle.hs_words.specs.declared.page.Header.{Header}
use Rattle.hs_words.specs.declared.page.Page.{Page}
use Rattle.hs_words.specs.declared.page.PrefixFault.{PrefixFault}
use Rattle.hs_words.specs.declared.page.PrefixFault.TheVariants.{Short, Empty, Torn, Memory}
use Rattle.hs_words.specs.Pages.{Piece, Sheet, FitsHeader, FitsPiece, cost_of, used_by, header_bytes, counts_bytes, pieces_bytes, page_bytes, sheet_of}
use Rattle.hs_words.specs.Reading.{HasPieces, Spells, used_field}
use Rattle.hs_words.specs.Shown.{ShowsPage, ShowsNothing, IsTorn, HasPrefixFault, AnswersShown, GivesShown}
use Rattle.hs_words.proofs.Layouts.{length-pieces_bytes, length-page_bytes, costs_at_least}
use Rattle.hs_words.proofs.Readings.{Fields, fields_of, header_same, pieces_same}

-- ---- the fields of a page that is shown

grouped : (sheet : Sheet) (rest : List ℕ) → page_bytes sheet ++ rest ≡ header_bytes sheet.header ++ counts_bytes (length sheet.pieces) (used_by sheet.pieces) ++ (pieces_bytes sheet.pieces ++ rest)
grouped sheet rest = append_assoc (header_bytes sheet.header ++ counts_bytes (length sheet.pieces) (used_by sheet.pieces)) (pieces_bytes sheet.pieces) rest

pub fields_shown : (sheet : Sheet) (bytes : List ℕ) (shows : ShowsPage bytes sheet) → Fields bytes (pieces_bytes sheet.pieces ++ shows.rest) (length sheet.pieces) (used_by sheet.pieces)
fields_shown sheet bytes shows =
    fields_of sheet.header (length sheet.pieces) (used_by sheet.pieces) bytes (pieces_bytes sheet.pieces ++ shows.rest) (shows.begins ∙ grouped sheet shows.rest)
    (omega (arith, costs_at_least sheet.pieces, shows.used)) shows.used

used_shown : (sheet : Sheet) (bytes : List ℕ) → ShowsPage bytes sheet → used_field bytes ≡ 24 + sum_by cost_of sheet.pieces
used_shown sheet bytes shows = (fields_shown sheet bytes shows).used_is

long_shown : (sheet : Sheet) (bytes : List ℕ) → ShowsPage bytes sheet → used_field bytes + 8 ≤ length bytes
long_shown sheet bytes shows =
    omega (arith, (fields_shown sheet bytes shows).used_is, ap length shows.begins, length-append (page_bytes sheet) shows.rest, length-page_bytes sheet)

whole_shown : (sheet : Sheet) (bytes : List ℕ) → ShowsPage bytes sheet → 32 ≤ length bytes
whole_shown sheet bytes shows = omega (arith, (fields_shown sheet bytes shows).long)

-- ---- at most one page

pub none_shown : (bytes : List ℕ) (sheet : Sheet) → ShowsNothing bytes → ShowsPage bytes sheet → ⊥
none_shown bytes sheet nothing shows = absurd (omega (arith, nothing.none, used_shown sheet bytes shows))

pub shown_same : (bytes : List ℕ) (a b : Sheet) → ShowsPage bytes a → ShowsPage bytes b → a ≡ b
shown_same bytes a b here there =
    let f = fields_shown a bytes here in
    let g = fields_shown b bytes there in
    let one : header_bytes a.header ++ (counts_bytes (length a.pieces) (used_by a.pieces) ++ (pieces_bytes a.pieces ++ here.rest)) ≡ header_bytes b.header ++ (counts_bytes (length b.pieces) (used_by b.pieces) ++ (pieces_bytes b.pieces ++ there.rest)) =
    sym (append_assoc (header_bytes a.header) (counts_bytes (length a.pieces) (used_by a.pieces)) (pieces_bytes a.pieces ++ here.rest))
    ∙ sym (grouped a here.rest) ∙ sym here.begins ∙ there.begins ∙ grouped b there.rest
    ∙ append_assoc (header_bytes b.header) (counts_bytes (length b.pieces) (used_by b.pieces)) (pieces_bytes b.pieces ++ there.rest) in
    let header : a.header ≡ b.header = header_same a.header b.header _ _ here.header there.header one in
    let many : length a.pieces ≡ length b.pieces = sym f.count_is ∙ g.count_is in
    let used : sum_by cost_of a.pieces ≡ sum_by cost_of b.pieces = omega (arith, f.used_is, g.used_is) in
    let behind : pieces_bytes a.pieces ++ here.rest ≡ pieces_bytes b.pieces ++ there.rest = sym f.rest_is ∙ g.rest_is in
    let bytes_same : pieces_bytes a.pieces ≡ pieces_bytes b.pieces =
    sym (take_at (pieces_bytes a.pieces) here.rest (sum_by cost_of a.pieces) (length-pieces_bytes a.pieces)) ∙ ap (take (sum_by cost_of a.pieces)) behind
    ∙ take_at (pieces_bytes b.pieces) there.rest (sum_by cost_of a.pieces) (length-pieces_bytes b.pieces ∙ sym used) in
    let pieces : a.pieces ≡ b.pieces = pieces_same a.pieces b.pieces here.pieces there.pieces many bytes_same in
    λ i. record { header = header i; pieces = pieces i }

-- the bytes of a page show it
pub spelled_shows : (sheet : Sheet) (bytes rest : List ℕ) → Spells sheet bytes → ShowsPage (bytes ++ rest) sheet
spelled_shows sheet bytes rest spells =
    record { header = spells.valid.header; pieces = spells.valid.pieces; used = spells.valid.used; rest = rest; begins = ap (λ xs. xs ++ rest) spells.bytes_are }

-- ---- the clauses

pub gives_shown : (bytes : List ℕ) (r : Result Page PrefixFault) → AnswersShown bytes r → (sheet : Sheet) → ShowsPage bytes sheet → GivesShown sheet r
gives_shown bytes (Ok page) found sheet shows = shown_same bytes (sheet_of page) sheet found shows
gives_shown bytes (Err Short) found sheet shows = absurd (omega (arith, found, whole_shown sheet bytes shows))
gives_shown bytes (Err Empty) found sheet shows = absurd (none_shown bytes sheet found shows)
gives_shown bytes (Err Torn) found sheet shows = absurd (found.none sheet shows)
gives_shown bytes (Err Memory) found sheet shows = refl

pub short_shown : (bytes : List ℕ) (r : Result Page PrefixFault) → AnswersShown bytes r → HasPrefixFault bytes Short → r ≡ Err Short
short_shown bytes (Ok page) found short = absurd (omega (arith, short, whole_shown (sheet_of page) bytes found))
short_shown bytes (Err Short) found short = refl
short_shown bytes (Err Empty) found short = absurd (omega (arith, short, found.whole))
short_shown bytes (Err Torn) found short = absurd (omega (arith, short, found.whole))
short_shown bytes (Err Memory) found short = absurd (omega (arith, short, whole_shown found.0 bytes found.1))

pub empty_shown : (bytes : List ℕ) (r : Result Page PrefixFault) → AnswersShown bytes r → HasPrefixFault bytes Empty → r ≡ Err Empty
empty_shown bytes (Ok page) found nothing = absurd (none_shown bytes (sheet_of page) nothing found)
empty_shown bytes (Err Short) found nothing = absurd (omega (arith, found, nothing.whole))
empty_shown bytes (Err Empty) found nothing = refl
empty_shown bytes (Err Torn) found nothing = absurd (found.used nothing.none)
empty_shown bytes (Err Memory) found nothing = absurd (none_shown bytes found.0 nothing found.1)

pub torn_shown : (bytes : List ℕ) (r : Result Page PrefixFault) → AnswersShown bytes r → HasPrefixFault bytes Torn → r ≡ Err Torn
torn_shown bytes (Ok page) found torn = absurd (torn.none (sheet_of page) found)
torn_shown bytes (Err Short) found torn = absurd (omega (arith, found, torn.whole))
torn_shown bytes (Err Empty) found torn = absurd (torn.used found.none)
torn_shown bytes (Err Torn) found torn = refl
torn_shown bytes (Err Memory) found torn = absurd (torn.none found.0 found.1)

pub prefix_fault_of : (bytes : List ℕ) (r : Result Page PrefixFault) (fault : PrefixFault) → AnswersShown bytes r → r ≡ Err fault → HasPrefixFault bytes fault
prefix_fault_of bytes r fault found is = MatchResult-at_err (λ page. ShowsPage bytes (sheet_of page)) (HasPrefixFault bytes) fault is found

-- ---- the exits

pub nothing_used : (bytes rest : List ℕ) (count used : ℕ) → Fields bytes rest count used → used ≡ 0 → ShowsNothing bytes
nothing_used bytes rest count used fields none = record { whole = omega (arith, fields.long); none = fields.used_is ∙ none }

-- the used field is too small for a header, or too large for the bytes
pub torn_used : (bytes rest : List ℕ) (count used : ℕ) → Fields bytes rest count used → (used ≡ 0 → ⊥) → (24 ≤ used → used + 8 ≤ length bytes → ⊥) → IsTorn bytes
torn_used bytes rest count used fields some wrong =
    record {
      whole = omega (arith, fields.long);
      used = λ none. some (sym fields.used_is ∙ none);
      none = λ sheet shows. wrong (omega (arith, fields.used_is, used_shown sheet bytes shows)) (omega (arith, fields.used_is, long_shown sheet bytes shows));
    }

-- the used bytes are not so many pieces
pub torn_pieces : (bytes rest : List ℕ) (count used : ℕ) → Fields bytes rest count used → (used ≡ 0 → ⊥) → (HasPieces count (take (used - 24) rest) → ⊥) → IsTorn bytes
torn_pieces bytes rest count used fields some lacks =
    record {
      whole = omega (arith, fields.long);
      used = λ none. some (sym fields.used_is ∙ none);
      none = λ sheet shows.
          let f = fields_shown sheet bytes shows in
          let long : length (pieces_bytes sheet.pieces) ≡ used - 24 = omega (arith, length-pieces_bytes sheet.pieces, f.used_is, fields.used_is) in
          let behind : rest ≡ pieces_bytes sheet.pieces ++ shows.rest = sym fields.rest_is ∙ f.rest_is in
          lacks (sheet.pieces, shows.pieces, sym f.count_is ∙ fields.count_is, ap (take (used - 24)) behind ∙ take_at (pieces_bytes sheet.pieces) shows.rest (used - 24) long);
    }

-- all was read
pub found_shown : (h : Header) (pieces : List Piece) (bytes rest : List ℕ) (count used : ℕ) → Fields bytes rest count used → FitsHeader h → used < 2 ^ 16 → 24 ≤ used → used + 8 ≤ length bytes
    → bytes ≡ header_bytes h ++ counts_bytes count used ++ rest → AllByRecursion FitsPiece pieces → length pieces ≡ count → take (used - 24) rest ≡ pieces_bytes pieces → ShowsPage bytes (record { header = h; pieces = pieces })
found_shown h pieces bytes rest count used fields fits_header small least room bytes_are fits many pieces_are =
    let long : length (take (used - 24) rest) ≡ used - 24 = length-take-le (used - 24) rest (omega (arith, room, fields.long, least)) in
    let costs : used_by pieces ≡ used = omega (arith, ap length pieces_are, length-pieces_bytes pieces, long, least) in
    let behind : rest ≡ pieces_bytes pieces ++ drop (used - 24) rest = sym (take-append-drop (used - 24) rest) ∙ ap (λ xs. xs ++ drop (used - 24) rest) pieces_are in
    let sheet : Sheet = record { header = h; pieces = pieces } in
    record {
      header = fits_header;
      pieces = fits;
      used = omega (arith, costs, small);
      rest = drop (used - 24) rest;
      begins =
          bytes_are
          ∙ ap (λ (xs : List ℕ). header_bytes h ++ counts_bytes count used ++ xs) behind
          ∙ ap (λ n. header_bytes h ++ counts_bytes n used ++ (pieces_bytes pieces ++ drop (used - 24) rest)) (sym many)
          ∙ ap (λ n. header_bytes h ++ counts_bytes (length pieces) n ++ (pieces_bytes pieces ++ drop (used - 24) rest)) (sym costs)
          ∙ sym (grouped sheet (drop (used - 24) rest));
    }
