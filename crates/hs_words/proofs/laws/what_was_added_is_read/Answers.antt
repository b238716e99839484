use Rattle.std.proofs.Common.{◌≡◌, ◌≢◌, ◌<◌, ◌≤◌, List, [], ◌∷◌, ◌++◌, length, Some, refl, sym, ap, subst, ◌∙◌, append_assoc, arith}
use Rattle.std.proofs.lemmas.List.{append-nil}
use Rattle.hs_words.specs.declared.page.Header.{Header}
use Rattle.hs_words.specs.Pages.{Piece, Sheet, IsPage, used_by, page_bytes}
use Rattle.hs_words.specs.Chunks.{Contents, with_page, Fills}
use Rattle.hs_words.proofs.Layouts.{used_by-push}
use Rattle.hs_words.proofs.Answering.{gives}
use Rattle.hs_words.proofs.laws.what_was_added_is_read.Goals as goal

abbrev sheet : Header → List Piece → Sheet
sheet header pieces = record { header = header; pieces = pieces }

-- the chunk that was filled has the pieces behind those from before, and they have room
filled : (old new : Contents) (header : Header) (before pieces : List Piece) → Fills (with_page old (Some (sheet header before))) pieces new → used_by before ≤ old.size
    → (new.page ≡ Some (sheet header (before ++ pieces))) × (used_by (before ++ pieces) ≤ old.size)
filled old new header before [] fills room =
    (ap (λ (c : Contents). c.page) fills ∙ ap (λ (ps : List Piece). Some (sheet header ps)) (sym (append-nil before)), subst (λ (ps : List Piece). used_by ps ≤ old.size) (sym (append-nil before)) room)
filled old new header before (piece ∷ pieces) (middle, adds, fills) room =
    let next = before ++ piece ∷ [] in
    let rest : Fills (with_page old (Some (sheet header next))) pieces new = subst (λ (c : Contents). Fills c pieces new) adds.1 fills in
    let more = filled old new header next pieces rest (omega (arith, adds.0, used_by-push before piece)) in
    let same : next ++ pieces ≡ before ++ piece ∷ pieces = append_assoc before (piece ∷ []) pieces in
    (more.0 ∙ ap (λ (ps : List Piece). Some (sheet header ps)) same, subst (λ (ps : List Piece). used_by ps ≤ old.size) same more.1)

-- a first piece that was added had room, and so had the header
has_room : (old new : Contents) (header : Header) (pieces : List Piece) → pieces ≢ [] → Fills (with_page old (Some (sheet header []))) pieces new → used_by [] ≤ old.size
has_room old new header [] some fills = absurd (some refl)
has_room old new header (piece ∷ pieces) some (middle, adds, fills) = omega (arith, adds.0)

some_pieces : (pieces : List Piece) → pieces ≢ [] → 0 < length pieces
some_pieces [] some = absurd (some refl)
some_pieces (piece ∷ pieces) some = omega arith

pub returns : goal.returns
returns c = λ old new header pieces answer small fits_header fits some writes.
    let last = filled old new header [] pieces writes (has_room old new header pieces some writes) in
    let valid : IsPage (sheet header pieces) = record { header = fits_header; pieces = fits; used = omega (arith, last.1, small); some = some_pieces pieces some } in
    rw last.0 (λ answers. gives (page_bytes (sheet header pieces)) answer answers (sheet header pieces) (record { valid = valid; bytes_are = refl }))
