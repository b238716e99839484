-- Pages of one client that are added one behind another.
use Rattle.std.proofs.Common.{◌≡◌, ℕ, ◌+◌, ◌<◌, ◌≤◌, ◌^◌, List, [], ◌∷◌, ◌++◌, All, Option, Some, IfSome, length, length-append, refl, ap, subst, ◌∙◌, inl, arith}
use Rattle.std.specs.Option.{option_map}
use Rattle.std.proofs.lemmas.List.Quantifiers.{all_pairs_push}
use Rattle.std.proofs.lemmas.List.Elements.{All-nil, All-push}
use Rattle.hs_words.specs.declared.page.Header.{Header}
use Rattle.hs_words.specs.Pages.{Piece, Sheet, IsPage, with_piece, page_bytes}
use Rattle.hs_words.specs.Reading.{Spells}
use Rattle.hs_words.specs.Chunks.{Contents, with_page}
use Rattle.hs_collect.specs.Collected.{AreCollected, CanPrecede, CanBeAdded, end_of}
use Rattle.hs_collect.specs.Views.{Collection}
use Rattle.tests_with.specs.Pages.{HasSheet, HasAdded, IsBefore}

-- a page to which no piece was added yet
pub started : (chunk : Contents) (header : Header) → chunk.page ≡ Some (record { header = header; pieces = [] }) → HasSheet chunk header.page header.first 0
started chunk header is = record { sheet = record { header = header; pieces = [] }; is = is; page_is = refl; first_is = refl; count_is = refl }

-- and one to which a piece was
pub one_more : (old new : Contents) (page first count : ℕ) (piece : Piece) → HasSheet old page first count → new ≡ with_page old (option_map (λ sheet. with_piece sheet piece) old.page) → HasSheet new page first (count + 1)
one_more old new page first count piece has is =
    record {
      sheet = with_piece has.sheet piece;
      is = ap (λ (k : Contents). k.page) is ∙ ap (λ (p : Option Sheet). option_map (λ sheet. with_piece sheet piece) p) has.is;
      page_is = has.page_is;
      first_is = has.first_is;
      count_is = simp (length-append has.sheet.pieces (piece ∷ [])) (ap (λ n. n + 1) has.count_is);
    }

-- none was added
pub none_added : (page first : ℕ) (collection : Collection) → AreCollected [] collection → HasAdded collection page first
none_added page first collection are = record {
  sheets = [];
  are = are;
  can = record { pairs = λ i j d lt within. absurd (omega arith); fits = All-nil (λ s. end_of s ≤ 2 ^ 32) };
  before = All-nil (IsBefore page first);
}

precedes : (sheet before : Sheet) (page first : ℕ) → sheet.header.page ≡ page → sheet.header.first ≡ first → IsBefore page first before → CanPrecede before sheet
precedes sheet before page first pages firsts is =
    record {
      differ = λ client same. absurd (omega (arith, same, is.0));
      rise = λ client trace. (omega (arith, is.0), inl (omega (arith, is.1)));
    }

pub can_come : (sheets : List Sheet) (chunk : Contents) (page first count : ℕ) → CanBeAdded sheets → All (IsBefore page first) sheets → (has : HasSheet chunk page first count) → first + count ≤ 2 ^ 32
    → CanBeAdded (sheets ++ has.sheet ∷ [])
can_come sheets chunk page first count can before has few =
    record {
      pairs = all_pairs_push CanPrecede sheets has.sheet can.pairs (λ k d within. precedes has.sheet _ page first has.page_is has.first_is (before k d within));
      fits = All-push (λ s. end_of s ≤ 2 ^ 32) sheets has.sheet can.fits (omega (arith, has.first_is, has.count_is));
    }

-- the bytes of a chunk's page
pub spells : (page : Option Sheet) (sheet : Sheet) (bytes : List ℕ) → page ≡ Some sheet → IfSome page (λ s. bytes ≡ page_bytes s) → IfSome page (λ s. 0 < length s.pieces → IsPage s) → 0 < length sheet.pieces → Spells sheet bytes
spells page sheet bytes is spelled valid some =
    let V : Option Sheet → Type 0 = λ p. IfSome p (λ s. 0 < length s.pieces → IsPage s) in
    let B : Option Sheet → Type 0 = λ p. IfSome p (λ s. bytes ≡ page_bytes s) in
    record { valid = (subst V is valid) some; bytes_are = subst B is spelled }

later : (sheets : List Sheet) (page first page' first' : ℕ) → page ≤ page' → first ≤ first' → All (IsBefore page first) sheets → All (IsBefore page' first') sheets
later sheets page first page' first' pages firsts before = λ k d within. (omega (arith, (before k d within).0), omega (arith, (before k d within).1))

pub all_before : (sheets : List Sheet) (chunk : Contents) (page first count : ℕ) (has : HasSheet chunk page first count) → All (IsBefore page first) sheets
    → All (IsBefore (page + 1) (first + count)) (sheets ++ has.sheet ∷ [])
all_before sheets chunk page first count has before =
    All-push (IsBefore (page + 1) (first + count)) sheets has.sheet (later sheets page first (page + 1) (first + count) (omega arith) (omega arith) before)
    (omega (arith, has.page_is), omega (arith, has.first_is, has.count_is))
