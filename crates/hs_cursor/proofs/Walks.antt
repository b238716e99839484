-- The steps of a cursor, page by page.
use Rattle.std.proofs.Common.{◌≡◌, ℕ, zero, suc, ◌+◌, List, [], ◌∷◌, ◌++◌, length, take, drop, Some, None, refl, sym, ap, subst, ◌∙◌, append_assoc, arith}
use Rattle.std.specs.Prelude.{option_map}
use Rattle.std.specs.List.{AllByRecursion}
use Rattle.std.specs.Option.{option_and_then}
use Rattle.hs_words.specs.Pages.{Piece, Sheet, FitsPiece, pieces_bytes}
use Rattle.hs_words.specs.Reading.{Spells}
use Rattle.hs_traces.specs.declared.key.PageKey.{PageKey}
use Rattle.hs_traces.specs.Parts.{Pages, page_with, next_page}
use Rattle.hs_cursor.specs.Rows.{plain_row, first_row, rows_from, page_rows, rows_behind, rows_of}
use Rattle.hs_cursor.specs.Reading.{first_of}
use Rattle.hs_cursor.specs.Walking.{PlainCursor, start, end_at, behind, inside, entered, or_found, step_inside, step_on, step, and_then, walked, AreInOrder, AreSheets}
use Rattle.hs_cursor.proofs.Fronts.{piece-there, piece-behind, piece-none, first-of, pieces-of}
use Rattle.hs_cursor.proofs.Finds.{bytes-found, next-found}

abbrev at_page : PageKey → (at number : ℕ) → PlainCursor
at_page key at number = record { page = Some key; at = at; number = number }

-- the first row of a page behind
entering : (place : PlainCursor) (key : PageKey) (bytes : List ℕ) (sheet : Sheet) (p : Piece) (ps : List Piece) → Spells sheet bytes → sheet.pieces ≡ p ∷ ps
    → entered place key bytes ≡ Some (first_row (end_at place) key sheet.header.first p, behind key 32 sheet.header.first p)
entering place key bytes sheet p ps spells pieces =
    let stands : drop 32 bytes ≡ pieces_bytes (p ∷ ps) = pieces-of sheet bytes spells ∙ ap pieces_bytes pieces in
    let fits : AllByRecursion FitsPiece (p ∷ ps) = subst (AllByRecursion FitsPiece) pieces spells.valid.pieces in
    ap (option_map (λ piece. (first_row (end_at place) key (first_of bytes) piece, behind key 32 (first_of bytes) piece))) (piece-there bytes 32 p ps fits stands)
    ∙ ap (λ n. Some (first_row (end_at place) key n p, behind key 32 n p)) (first-of sheet bytes spells)

module _ (pages : Pages) (sorted : AreInOrder pages) where
  -- what is left of a page with these pieces, and of the pages behind it
  abbrev Left : (steps : ℕ) (key : PageKey) (bytes : List ℕ) (sheets : List (PageKey × Sheet)) → Type 0
  Left steps key bytes sheets = (at number : ℕ) (pieces : List Piece) → AllByRecursion FitsPiece pieces → drop at bytes ≡ pieces_bytes pieces
      → walked pages steps (at_page key at number) ≡ take steps (rows_from key number pieces ++ rows_behind (Some (key, number + length pieces)) sheets)

  -- the next page is entered
  enters : (steps : ℕ) (place : PlainCursor) (key : PageKey) (bytes : List ℕ) (sheet : Sheet) (sheets : List (PageKey × Sheet)) (pieces : List Piece) → sheet.pieces ≡ pieces → Spells sheet bytes
      → step_inside pages place ≡ None → next_page place.page pages ≡ Some (key, bytes) → Left steps key bytes sheets
      → walked pages (suc steps) place ≡ take (suc steps) (rows_behind (end_at place) ((key, sheet) ∷ sheets))
  enters steps place key bytes sheet sheets [] pieces spells none next left = absurd (omega (arith, spells.valid.some, ap length pieces))
  enters steps place key bytes sheet sheets (p ∷ ps) pieces spells none next left =
      let first = sheet.header.first in
      let row = first_row (end_at place) key first p in
      let at = 32 + (10 + length p.payload) in
      let stands : drop 32 bytes ≡ pieces_bytes (p ∷ ps) = pieces-of sheet bytes spells ∙ ap pieces_bytes pieces in
      let fits : AllByRecursion FitsPiece (p ∷ ps) = subst (AllByRecursion FitsPiece) pieces spells.valid.pieces in
      let on : step_on pages place ≡ Some (row, behind key 32 first p) =
      ap (option_and_then (λ (page : PageKey × List ℕ). entered place page.0 page.1)) next ∙ entering place key bytes sheet p ps spells pieces in
      let steps_to : step pages place ≡ Some (row, behind key 32 first p) = ap (λ f. or_found f (step_on pages place)) none ∙ on in
      let more = left at (first + 1) ps fits.1 (piece-behind bytes 32 p ps stands) in
      let end : first + 1 + length ps ≡ first + length (p ∷ ps) = omega arith in
      ap (λ f. and_then f (walked pages steps)) steps_to
      ∙ (λ i. row ∷ more i)
      ∙ ap (λ n. row ∷ take steps (rows_from key (first + 1) ps ++ rows_behind (Some (key, n)) sheets)) end
      ∙ sym (ap (λ qs. take (suc steps) (page_rows (end_at place) key first qs ++ rows_behind (Some (key, first + length qs)) sheets)) pieces)

  nothing_inside : (done : Pages) (key : PageKey) (bytes : List ℕ) (todo : Pages) (at number : ℕ) → pages ≡ done ++ (key, bytes) ∷ todo → drop at bytes ≡ []
      → step_inside pages (at_page key at number) ≡ None
  nothing_inside done key bytes todo at number whole stands =
      let place = at_page key at number in
      let found : page_with pages key ≡ Some bytes = ap (λ (ps : Pages). page_with ps key) whole ∙ bytes-found done key bytes todo (subst AreInOrder whole sorted) in
      ap (option_and_then (inside place key)) found ∙ ap (option_map (λ piece. (plain_row key number piece, behind key at number piece))) (piece-none bytes at stands)

  walks_in : (steps : ℕ) (done : Pages) (key : PageKey) (bytes : List ℕ) (todo : Pages) (sheets : List (PageKey × Sheet)) → pages ≡ done ++ (key, bytes) ∷ todo → AreSheets sheets todo → Left steps key bytes sheets
  walks_in zero done key bytes todo sheets whole are at number pieces fits stands = refl
  walks_in (suc steps) done key bytes todo sheets whole are at number (p ∷ ps) fits stands =
      let place = at_page key at number in
      let row = plain_row key number p in
      let found : page_with pages key ≡ Some bytes = ap (λ (ps : Pages). page_with ps key) whole ∙ bytes-found done key bytes todo (subst AreInOrder whole sorted) in
      let here : step_inside pages place ≡ Some (row, behind key at number p) =
      ap (option_and_then (inside place key)) found ∙ ap (option_map (λ piece. (plain_row key number piece, behind key at number piece))) (piece-there bytes at p ps fits stands) in
      let end : number + 1 + length ps ≡ number + length (p ∷ ps) = omega arith in
      let more = walks_in steps done key bytes todo sheets whole are (at + (10 + length p.payload)) (number + 1) ps fits.1 (piece-behind bytes at p ps stands) in
      ap (λ f. and_then (or_found f (step_on pages place)) (walked pages steps)) here
      ∙ (λ i. row ∷ more i)
      ∙ ap (λ n. row ∷ take steps (rows_from key (number + 1) ps ++ rows_behind (Some (key, n)) sheets)) end
  walks_in (suc steps) done key bytes [] [] whole are at number [] fits stands =
      let place = at_page key at number in
      let next : next_page (Some key) pages ≡ None = ap (next_page (Some key)) whole ∙ next-found done key bytes [] (subst AreInOrder whole sorted) in
      ap (λ f. and_then (or_found f (step_on pages place)) (walked pages steps)) (nothing_inside done key bytes [] at number whole stands)
      ∙ ap (λ o. and_then (option_and_then (λ (page : PageKey × List ℕ). entered place page.0 page.1) o) (walked pages steps)) next
  walks_in (suc steps) done key bytes [] (s ∷ sheets) whole are at number [] fits stands = absurd are
  walks_in (suc steps) done key bytes (y ∷ todo) [] whole are at number [] fits stands = absurd are
  walks_in (suc steps) done key bytes (y ∷ todo) (s ∷ sheets) whole are at number [] fits stands =
      let place = at_page key at number in
      let next : next_page (Some key) pages ≡ Some y = ap (next_page (Some key)) whole ∙ next-found done key bytes (y ∷ todo) (subst AreInOrder whole sorted) in
      let apart : pages ≡ (done ++ (key, bytes) ∷ []) ++ y ∷ todo = whole ∙ sym (append_assoc done ((key, bytes) ∷ []) (y ∷ todo)) in
      let end : number ≡ number + length {A = Piece} [] = omega arith in
      enters steps place y.0 y.1 s.1 sheets s.1.pieces refl are.0.1 (nothing_inside done key bytes (y ∷ todo) at number whole stands) next
      (walks_in steps (done ++ (key, bytes) ∷ []) y.0 y.1 todo sheets apart are.1)
      ∙ ap (λ (k : PageKey). take (suc steps) (rows_behind (Some (key, number)) ((k, s.1) ∷ sheets))) (sym are.0.0)
      ∙ ap (λ n. take (suc steps) (rows_behind (Some (key, n)) (s ∷ sheets))) end

  walks_first : (steps : ℕ) (sheets : List (PageKey × Sheet)) (todo : Pages) → pages ≡ todo → AreSheets sheets todo → walked pages steps start ≡ take steps (rows_of sheets)
  walks_first zero sheets todo whole are = refl
  walks_first (suc steps) [] [] whole are = ap (λ (ps : Pages). and_then (option_and_then (λ (page : PageKey × List ℕ). entered start page.0 page.1) (next_page None ps)) (walked pages steps)) whole
  walks_first (suc steps) [] (y ∷ todo) whole are = absurd are
  walks_first (suc steps) (s ∷ sheets) [] whole are = absurd are
  walks_first (suc steps) (s ∷ sheets) (y ∷ todo) whole are =
      enters steps start y.0 y.1 s.1 sheets s.1.pieces refl are.0.1 refl (ap (next_page None) whole) (walks_in steps [] y.0 y.1 todo sheets whole are.1)
      ∙ ap (λ (k : PageKey). take (suc steps) (rows_behind None ((k, s.1) ∷ sheets))) (sym are.0.0)

pub walks : (pages : Pages) (sheets : List (PageKey × Sheet)) (steps : ℕ) → AreInOrder pages → AreSheets sheets pages → walked pages steps start ≡ take steps (rows_of sheets)
walks pages sheets steps sorted are = walks_first pages sorted steps sheets pages refl are
