-- A page that can be added goes behind the records of its client.
use Rattle.std.proofs.Common.{◌≡◌, ℕ, ◌+◌, ◌≤◌, Bool, true, false, cond, List, [], ◌∷◌, ◌++◌, length, filter, All, Some, option_map, inl, inr, refl, sym, ap, subst, arith, ◌^◌}
use Rattle.hs_collect.proofs.Prelude.{find, flat_map, All-nil, All-cons, All-head, All-tail, All-append, nat_tests, TraceId, ClientId, RecordId, Piece, Sheet, Placed, is_of, is_piece_of, pieces_from, page_pieces, pieces_of, end_of, GoesOn, CanPrecede, CanBeAdded, AreWholes, GoesBehind}
use Rattle.hs_collect.proofs.Listed.{all_middle, pairs_before}
use Rattle.hs_collect.proofs.Ids.{same_ids}

-- no higher number than this, if it is of this client
abbrev IsLow : ClientId → ℕ → Placed → Type 0
IsLow client number piece = piece.id.client ≡ client → piece.id.number ≤ number

low_from : (client : ClientId) (number : ℕ) (of : ClientId) (first : ℕ) (pieces : List Piece) → (of ≡ client → first + length pieces ≤ number + 1) → All (IsLow client number) (pieces_from of first pieces)
low_from client number of first [] end = All-nil (IsLow client number)
low_from client number of first (piece ∷ pieces) end =
    All-cons (IsLow client number) (record { id = record { client = of; number = first }; moment = piece.moment; payload = piece.payload }) (pieces_from of (first + 1) pieces)
    (λ same. let here : first + length (piece ∷ pieces) ≤ number + 1 = end same in omega arith)
    (low_from client number of (first + 1) pieces (λ same. let here : first + length (piece ∷ pieces) ≤ number + 1 = end same in omega arith))

end_below : (before sheet : Sheet) → GoesOn before sheet → end_of before ≤ sheet.header.first + 1
end_below before sheet (inl later) = omega arith
end_below before sheet (inr (joins, moments)) = omega (arith, joins)

abbrev trace_of : ℕ → TraceId
trace_of n = record { 0 = n }

low_page : (before sheet : Sheet) → CanPrecede before sheet → is_of sheet.header.trace before ≡ true → All (IsLow sheet.header.client sheet.header.first) (page_pieces before)
low_page before sheet can its =
    let number : before.header.trace.0 ≡ sheet.header.trace.0 = grind (arith, nat_tests) in
    let trace : before.header.trace ≡ sheet.header.trace = ap (λ n. trace_of n) number in
    low_from sheet.header.client sheet.header.first before.header.client before.header.first before.pieces (λ client. end_below before sheet (can.rise client trace).1)

low_pieces : (sheets : List Sheet) (sheet : Sheet) → All (λ before. CanPrecede before sheet) sheets → All (IsLow sheet.header.client sheet.header.first) (pieces_of sheet.header.trace sheets)
low_pieces [] sheet can = All-nil (IsLow sheet.header.client sheet.header.first)
low_pieces (before ∷ sheets) sheet can =
    by_test (is_of sheet.header.trace before) refl (low_pieces sheets sheet (All-tail (λ b. CanPrecede b sheet) before sheets can))
  where
    by_test : (b : Bool) → is_of sheet.header.trace before ≡ b → All (IsLow sheet.header.client sheet.header.first) (pieces_of sheet.header.trace sheets)
        → All (IsLow sheet.header.client sheet.header.first) (flat_map page_pieces (cond b (before ∷ filter (is_of sheet.header.trace) sheets) (filter (is_of sheet.header.trace) sheets)))
    by_test true its later =
        All-append (IsLow sheet.header.client sheet.header.first) (page_pieces before) (pieces_of sheet.header.trace sheets)
        (low_page before sheet (All-head (λ b. CanPrecede b sheet) before sheets can) its) later
    by_test false apart later = later

-- the piece that is found has the record's id
pub found_holds : (P : RecordId → Type 0) (id : RecordId) (pieces : List Placed) (moment : ℕ) → All (λ piece. P piece.id) pieces → option_map (λ (first : Placed). first.moment) (find (is_piece_of id) pieces) ≡ Some moment → P id
found_holds P id [] moment holds found = absurd (cc)
found_holds P id (piece ∷ pieces) moment holds found =
    by_test (is_piece_of id piece) refl found (found_holds P id pieces moment (All-tail (λ p. P p.id) piece pieces holds))
  where
    by_test : (b : Bool) → is_piece_of id piece ≡ b → option_map (λ (first : Placed). first.moment) (cond b (Some piece) (find (is_piece_of id) pieces)) ≡ Some moment
        → (option_map (λ (first : Placed). first.moment) (find (is_piece_of id) pieces) ≡ Some moment → P id) → P id
    by_test true same here later = subst P (sym (same_ids id piece.id same)) (All-head (λ p. P p.id) piece pieces holds)
    by_test false apart there later = later there

pub goes_behind : (sheets : List Sheet) (sheet : Sheet) (wholes : List Placed) → CanBeAdded (sheets ++ sheet ∷ []) → AreWholes (pieces_of sheet.header.trace sheets) wholes → GoesBehind sheet.header wholes
goes_behind sheets sheet wholes can are = λ k d lt.
    found_holds (λ id. id.client ≡ sheet.header.client → id.number ≤ sheet.header.first) _ (pieces_of sheet.header.trace sheets) _
    (low_pieces sheets sheet (pairs_before CanPrecede sheets sheet [] can.pairs)) (are.each k d lt).moment

pub fits_last : (sheets : List Sheet) (sheet : Sheet) → CanBeAdded (sheets ++ sheet ∷ []) → end_of sheet ≤ 2 ^ 32
fits_last sheets sheet can = all_middle (λ s. end_of s ≤ 2 ^ 32) sheets sheet [] can.fits
