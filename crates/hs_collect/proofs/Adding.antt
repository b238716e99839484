-- What the pieces of a page make of the records that are there: the first may join the last record before their place,
-- and the others stand at it, one behind another.
use Rattle.std.proofs.Common.{◌≡◌, ℕ, ◌+◌, true, false, List, [], ◌∷◌, ◌++◌, All, filter, cond, refl, sym, ap, ◌∙◌, subst, arith}
use Rattle.hs_collect.proofs.Prelude.{Any, append-nil, append_assoc, All-head, All-tail, All-append, All-push, All-weaker, ClientId, RecordId, Piece, is_behind, Placed, is_same, is_piece_of, pieces_from, Precedes, IsWhole, AreWholes}
use Rattle.hs_collect.proofs.Listed.{all_into, all_out, all_middle, pairs_into, pairs_out, pairs_before, pairs_behind, any_here, any_into, any_changed, all_at_any}
use Rattle.hs_collect.proofs.Ids.{same_itself, earlier_apart, later_apart, precedes_next, next_number, behind_after}
use Rattle.hs_collect.proofs.Wholes.{whole-other, whole-joined, whole-new}

-- the order of records, by their ids
abbrev pub InOrder : Placed → Placed → Type 0
InOrder a b = Precedes a.id b.id

-- a record whose id none of these has, has no piece
none_found : (id : RecordId) (pieces : List Placed) → All (λ piece. is_same id piece.id ≡ false) pieces → filter (is_piece_of id) pieces ≡ []
none_found id [] h = refl
none_found id (piece ∷ pieces) h =
    ap (λ b. cond b (piece ∷ filter (is_piece_of id) pieces) (filter (is_piece_of id) pieces)) (All-head (λ p. is_same id p.id ≡ false) piece pieces h)
    ∙ none_found id pieces (All-tail (λ p. is_same id p.id ≡ false) piece pieces h)

-- pieces of these records have none of an id that these records have not
apart_from : (id : RecordId) (pieces wholes : List Placed) → All (λ whole. is_same id whole.id ≡ false) wholes → All (λ piece. Any (λ whole. whole.id ≡ piece.id) wholes) pieces
    → All (λ piece. is_same id piece.id ≡ false) pieces
apart_from id pieces wholes apart all = λ k d lt.
    let found = all_at_any (λ whole. is_same id whole.id ≡ false) _ wholes apart (all k d lt) in
    subst (λ (other : RecordId). is_same id other ≡ false) found.2 found.1

-- a piece that begins a record, at its place
pub new_record : (pieces : List Placed) (piece : Placed) (front back : List Placed) → AreWholes pieces (front ++ back) → All (λ f. InOrder f piece) front → All (InOrder piece) back
    → AreWholes (pieces ++ piece ∷ []) (front ++ piece ∷ back)
new_record pieces piece front back are before behind =
    let apart : All (λ w. is_same w.id piece.id ≡ false) (front ++ back) =
    All-append (λ w. is_same w.id piece.id ≡ false) front back
    (All-weaker (λ f. InOrder f piece) (λ w. is_same w.id piece.id ≡ false) (λ f. earlier_apart f.id piece.id) front before)
    (All-weaker (InOrder piece) (λ w. is_same w.id piece.id ≡ false) (λ b. later_apart piece.id b.id) back behind) in
    let none : All (λ w. is_same piece.id w.id ≡ false) (front ++ back) =
    All-append (λ w. is_same piece.id w.id ≡ false) front back
    (All-weaker (λ f. InOrder f piece) (λ w. is_same piece.id w.id ≡ false) (λ f. later_apart f.id piece.id) front before)
    (All-weaker (InOrder piece) (λ w. is_same piece.id w.id ≡ false) (λ b. earlier_apart piece.id b.id) back behind) in
    record {
      ordered = pairs_into InOrder front piece back are.ordered before behind;
      each =
          all_into (IsWhole (pieces ++ piece ∷ [])) front piece back
          (whole-new pieces piece (same_itself piece.id) (none_found piece.id pieces (apart_from piece.id pieces (front ++ back) none are.all)))
          (λ k d lt. whole-other pieces _ piece (apart k d lt) (are.each k d lt));
      all =
          All-push (λ p. Any (λ whole. whole.id ≡ p.id) (front ++ piece ∷ back)) pieces piece (λ k d lt. any_into _ front piece back (are.all k d lt))
          (any_here (λ whole. whole.id ≡ piece.id) front piece back refl);
    }

-- a record with a piece more at its end
abbrev pub grown : Placed → List ℕ → Placed
grown whole bytes = record { id = whole.id; moment = whole.moment; payload = whole.payload ++ bytes }

-- a piece that joins its record
pub joined_record : (pieces : List Placed) (piece : Placed) (front : List Placed) (whole : Placed) (back : List Placed) → whole.id ≡ piece.id → AreWholes pieces (front ++ whole ∷ back)
    → AreWholes (pieces ++ piece ∷ []) (front ++ grown whole piece.payload ∷ back)
joined_record pieces piece front whole back its are =
    let before : All (λ f. InOrder f whole) front = pairs_before InOrder front whole back are.ordered in
    let behind : All (InOrder whole) back = pairs_behind InOrder front whole back are.ordered in
    let apart : All (λ w. is_same w.id piece.id ≡ false) (front ++ back) =
    subst (λ (id : RecordId). All (λ (w : Placed). is_same w.id id ≡ false) (front ++ back)) its
    (All-append (λ w. is_same w.id whole.id ≡ false) front back
    (All-weaker (λ f. InOrder f whole) (λ w. is_same w.id whole.id ≡ false) (λ f. earlier_apart f.id whole.id) front before)
    (All-weaker (InOrder whole) (λ w. is_same w.id whole.id ≡ false) (λ b. later_apart whole.id b.id) back behind)) in
    let kept : All (IsWhole pieces) (front ++ back) = all_out (IsWhole pieces) front whole back are.each in
    record {
      ordered = pairs_into InOrder front (grown whole piece.payload) back (pairs_out InOrder front whole back are.ordered) before behind;
      each =
          all_into (IsWhole (pieces ++ piece ∷ [])) front (grown whole piece.payload) back
          (whole-joined pieces whole piece (subst (λ (id : RecordId). is_same whole.id id ≡ true) its (same_itself whole.id)) (all_middle (IsWhole pieces) front whole back are.each))
          (λ k d lt. whole-other pieces _ piece (apart k d lt) (kept k d lt));
      all =
          All-push (λ p. Any (λ w. w.id ≡ p.id) (front ++ grown whole piece.payload ∷ back)) pieces piece
          (λ k d lt. any_changed _ front whole (grown whole piece.payload) back (λ h. h) (are.all k d lt))
          (any_here (λ w. w.id ≡ piece.id) front (grown whole piece.payload) back its);
    }

-- the id of a client's record
abbrev pub id_of : ClientId → ℕ → RecordId
id_of client number = record { client = client; number = number }

abbrev pub AreBefore : ClientId → ℕ → List Placed → Type 0
AreBefore client number wholes = All (λ whole. Precedes whole.id (id_of client number)) wholes

abbrev pub AreBehind : ClientId → List Placed → Type 0
AreBehind client wholes = All (λ whole. is_behind whole.id.client client ≡ true) wholes

-- pieces that each begin a record
pub new_records : (pieces : List Placed) (client : ClientId) (number : ℕ) (more : List Piece) (front back : List Placed) → AreWholes pieces (front ++ back) → AreBefore client number front → AreBehind client back
    → AreWholes (pieces ++ pieces_from client number more) (front ++ pieces_from client number more ++ back)
new_records pieces client number [] front back are before behind =
    subst (λ (ps : List Placed). AreWholes ps (front ++ [] ++ back)) (sym (append-nil pieces)) (subst (λ (f : List Placed). AreWholes pieces (f ++ back)) (sym (append-nil front)) are)
new_records pieces client number (first ∷ more) front back are before behind =
    let piece : Placed = record { id = id_of client number; moment = first.moment; payload = first.payload } in
    let rest : List Placed = pieces_from client (number + 1) more in
    let one : AreWholes (pieces ++ piece ∷ []) (front ++ piece ∷ back) =
    new_record pieces piece front back are before (All-weaker (λ b. is_behind b.id.client client ≡ true) (InOrder piece) (λ b h. behind_after b.id client number h) back behind) in
    let here : AreWholes (pieces ++ piece ∷ []) ((front ++ piece ∷ []) ++ back) = subst (AreWholes (pieces ++ piece ∷ [])) (sym (append_assoc front (piece ∷ []) back)) one in
    let next : AreBefore client (number + 1) (front ++ piece ∷ []) =
    All-push (λ whole. Precedes whole.id (id_of client (number + 1))) front piece
    (All-weaker (λ whole. Precedes whole.id (id_of client number)) (λ whole. Precedes whole.id (id_of client (number + 1))) (λ w h. precedes_next w.id client number (number + 1) (omega arith) h) front before)
    (next_number client number) in
    let all : AreWholes ((pieces ++ piece ∷ []) ++ rest) ((front ++ piece ∷ []) ++ rest ++ back) = new_records (pieces ++ piece ∷ []) client (number + 1) more (front ++ piece ∷ []) back here next behind in
    subst (λ (ps : List Placed). AreWholes ps (front ++ (piece ∷ rest) ++ back)) (append_assoc pieces (piece ∷ []) rest)
    (subst (λ (f : List Placed). AreWholes ((pieces ++ piece ∷ []) ++ rest) (f ++ back)) (append_assoc front (piece ∷ []) rest) all)
