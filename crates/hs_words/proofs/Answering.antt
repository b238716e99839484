-- What reading may answer, from what the steps found.
use Rattle.std.proofs.Common.{◌≡◌, ℕ, zero, suc, ◌+◌, ◌^◌, ◌<◌, ◌≤◌, List, ◌++◌, length, Result, Ok, Err, refl, sym, ap, ◌∙◌, arith}
use Rattle.std.specs.List.{AllByRecursion}
use Rattle.std.proofs.lemmas.Result.{MatchResult-at_err}
use Rattle.hs_words.specs.declared.page.Header.{Header}
use Rattle.hs_words.specs.declared.page.Page.{Page}
use Rattle.hs_words.specs.declared.page.PageFault.{PageFault}
use Rattle.hs_words.specs.declared.page.PageFault.TheVariants.{Short, Used, Count, Memory}
use Rattle.hs_words.specs.Pages.{Piece, Sheet, FitsHeader, FitsPiece, used_by, header_bytes, counts_bytes, pieces_bytes, sheet_of}
use Rattle.hs_words.specs.Reading.{Answers, HasFault, HasPieces, Spells, Gives, used_field}
use Rattle.hs_words.proofs.Layouts.{length-pieces_bytes, length-page_bytes}
use Rattle.hs_words.proofs.Readings.{Fields, fields_of_page, page_same}

-- ---- a page has no fault

page_is_long : (sheet : Sheet) (bytes : List ℕ) → Spells sheet bytes → 32 ≤ length bytes
page_is_long sheet bytes spells = omega (arith, (fields_of_page sheet bytes spells).long)

page_used : (sheet : Sheet) (bytes : List ℕ) → Spells sheet bytes → used_field bytes + 8 ≡ length bytes
page_used sheet bytes spells =
    omega (arith, (fields_of_page sheet bytes spells).used_is, length-page_bytes sheet, ap length spells.bytes_are)

page_count : (sheet : Sheet) (bytes : List ℕ) → Spells sheet bytes → HasFault bytes Count → ⊥
page_count sheet bytes spells fault =
    let fields = fields_of_page sheet bytes spells in
    fault.count (omega (arith, fields.count_is, spells.valid.some)) (sheet.pieces, spells.valid.pieces, sym fields.count_is, fields.rest_is)

-- ---- the clauses

-- a page is read from its bytes
pub gives : (bytes : List ℕ) (r : Result Page PageFault) → Answers bytes r → (sheet : Sheet) → Spells sheet bytes → Gives sheet r
gives bytes (Ok found_page) found sheet spells =
    page_same (sheet_of found_page) sheet found.valid spells.valid (sym found.bytes_are ∙ spells.bytes_are)
gives bytes (Err Short) found sheet spells = absurd (omega (arith, found, page_is_long sheet bytes spells))
gives bytes (Err Used) found sheet spells = absurd (found.used (page_used sheet bytes spells))
gives bytes (Err Count) found sheet spells = absurd (page_count sheet bytes spells found)
gives bytes (Err Memory) found sheet spells = refl

pub short_comes : (bytes : List ℕ) (r : Result Page PageFault) → Answers bytes r → HasFault bytes Short → r ≡ Err Short
short_comes bytes (Ok found_page) found short = absurd (omega (arith, short, page_is_long (sheet_of found_page) bytes found))
short_comes bytes (Err Short) found short = refl
short_comes bytes (Err Used) found short = absurd (omega (arith, short, found.whole))
short_comes bytes (Err Count) found short = absurd (omega (arith, short, found.whole))
short_comes bytes (Err Memory) found short = absurd (omega (arith, short, page_is_long found.0 bytes found.1))

pub used_comes : (bytes : List ℕ) (r : Result Page PageFault) → Answers bytes r → HasFault bytes Used → r ≡ Err Used
used_comes bytes (Ok found_page) found wrong = absurd (wrong.used (page_used (sheet_of found_page) bytes found))
used_comes bytes (Err Short) found wrong = absurd (omega (arith, found, wrong.whole))
used_comes bytes (Err Used) found wrong = refl
used_comes bytes (Err Count) found wrong = absurd (wrong.used found.used)
used_comes bytes (Err Memory) found wrong = absurd (wrong.used (page_used found.0 bytes found.1))

pub count_comes : (bytes : List ℕ) (r : Result Page PageFault) → Answers bytes r → HasFault bytes Count → r ≡ Err Count
count_comes bytes (Ok found_page) found wrong = absurd (page_count (sheet_of found_page) bytes found wrong)
count_comes bytes (Err Short) found wrong = absurd (omega (arith, found, wrong.whole))
count_comes bytes (Err Used) found wrong = absurd (found.used wrong.used)
count_comes bytes (Err Count) found wrong = refl
count_comes bytes (Err Memory) found wrong = absurd (page_count found.0 bytes found.1 wrong)

pub fault_of : (bytes : List ℕ) (r : Result Page PageFault) (fault : PageFault) → Answers bytes r → r ≡ Err fault → HasFault bytes fault
fault_of bytes r fault found is = MatchResult-at_err (λ page. Spells (sheet_of page) bytes) (HasFault bytes) fault is found

-- ---- the exits

-- the used field is wrong
pub found_used : (bytes rest : List ℕ) (count used : ℕ) → Fields bytes rest count used → (used + 8 ≡ length bytes → ⊥) → HasFault bytes Used
found_used bytes rest count used fields wrong =
    record { whole = omega (arith, fields.long); used = λ right. wrong (omega (arith, fields.used_is, right)) }

-- the count field is 0
pub found_zero : (bytes rest : List ℕ) (count used : ℕ) → Fields bytes rest count used → used + 8 ≡ length bytes → count ≡ 0 → HasFault bytes Count
found_zero bytes rest count used fields right none =
    record { whole = omega (arith, fields.long); used = omega (arith, fields.used_is, right); count = λ some has. absurd (omega (arith, fields.count_is, none, some)) }

-- there are not so many pieces
pub found_lack : (bytes rest : List ℕ) (count used : ℕ) → Fields bytes rest count used → used + 8 ≡ length bytes → (HasPieces count rest → ⊥) → HasFault bytes Count
found_lack bytes rest count used fields right lacks =
    record {
      whole = omega (arith, fields.long);
      used = omega (arith, fields.used_is, right);
      count = λ some (pieces, fits, many, spelled). lacks (pieces, fits, many ∙ fields.count_is, sym fields.rest_is ∙ spelled);
    }

-- all was read
pub found_page : (h : Header) (pieces : List Piece) (bytes rest : List ℕ) (count used : ℕ) → Fields bytes rest count used → FitsHeader h → used < 2 ^ 16 → used + 8 ≡ length bytes → (count ≡ 0 → ⊥)
    → bytes ≡ header_bytes h ++ counts_bytes count used ++ rest → AllByRecursion FitsPiece pieces → length pieces ≡ count → rest ≡ pieces_bytes pieces → Spells (record { header = h; pieces = pieces }) bytes
found_page h pieces bytes rest count used fields fits_header small right some bytes_are fits many rest_is =
    let costs : used_by pieces ≡ used = omega (arith, ap length rest_is, length-pieces_bytes pieces, fields.long, right) in
    record {
      valid = record { header = fits_header; pieces = fits; used = omega (arith, costs, small); some = positive count many some };
      bytes_are =
          bytes_are
          ∙ ap (λ (xs : List ℕ). header_bytes h ++ counts_bytes count used ++ xs) rest_is
          ∙ ap (λ n. header_bytes h ++ counts_bytes n used ++ pieces_bytes pieces) (sym many)
          ∙ ap (λ n. header_bytes h ++ counts_bytes (length pieces) n ++ pieces_bytes pieces) (sym costs);
    }
  where
    positive : (n : ℕ) → length pieces ≡ n → (n ≡ 0 → ⊥) → 0 < length pieces
    positive zero is some = absurd (some refl)
    positive (suc n) is some = omega (arith, is)
