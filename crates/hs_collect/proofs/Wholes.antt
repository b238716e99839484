-- What one more piece makes of the records that are joined of pieces: it joins its own record at the end, begins a new
-- one, and leaves the others as they are.
use Rattle.std.proofs.Common.{◌≡◌, ℕ, Bool, true, false, cond, List, [], ◌∷◌, ◌++◌, filter, Option, Some, None, option_map, sym, ap, ◌∙◌}
use Rattle.hs_collect.proofs.Prelude.{find, flat_map, append-nil, filter-append, flat_map-append, Placed, is_piece_of, IsWhole}

abbrev moment_in : (Placed → Bool) → List Placed → Option ℕ
moment_in test pieces = option_map (λ (first : Placed). first.moment) (find test pieces)

abbrev payload_in : (Placed → Bool) → List Placed → List ℕ
payload_in test pieces = flat_map (λ (piece : Placed). piece.payload) (filter test pieces)

-- the first piece stays the first
moment-kept : (test : Placed → Bool) (pieces more : List Placed) (moment : ℕ) → moment_in test pieces ≡ Some moment → moment_in test (pieces ++ more) ≡ Some moment
moment-kept test [] more moment is = absurd (cc)
moment-kept test (piece ∷ pieces) more moment is = by_test (test piece) is (moment-kept test pieces more moment)
  where
    by_test : (b : Bool) → option_map (λ (first : Placed). first.moment) (cond b (Some piece) (find test pieces)) ≡ Some moment
        → (moment_in test pieces ≡ Some moment → moment_in test (pieces ++ more) ≡ Some moment)
        → option_map (λ (first : Placed). first.moment) (cond b (Some piece) (find test (pieces ++ more))) ≡ Some moment
    by_test true here later = here
    by_test false there later = later there

-- the first piece of a new record
moment-new : (test : Placed → Bool) (pieces : List Placed) (piece : Placed) → test piece ≡ true → filter test pieces ≡ [] → moment_in test (pieces ++ piece ∷ []) ≡ Some piece.moment
moment-new test [] piece passes none = ap (λ b. option_map (λ (first : Placed). first.moment) (cond b (Some piece) None)) passes
moment-new test (other ∷ pieces) piece passes none = by_test (test other) none (moment-new test pieces piece passes)
  where
    by_test : (b : Bool) → cond b (other ∷ filter test pieces) (filter test pieces) ≡ [] → (filter test pieces ≡ [] → moment_in test (pieces ++ piece ∷ []) ≡ Some piece.moment)
        → option_map (λ (first : Placed). first.moment) (cond b (Some other) (find test (pieces ++ piece ∷ []))) ≡ Some piece.moment
    by_test true some later = absurd (cc)
    by_test false rest later = later rest

payload-with : (test : Placed → Bool) (pieces : List Placed) (piece : Placed) → test piece ≡ true → payload_in test (pieces ++ piece ∷ []) ≡ payload_in test pieces ++ piece.payload
payload-with test pieces piece passes =
    ap (flat_map (λ (p : Placed). p.payload)) (filter-append test pieces (piece ∷ []) ∙ ap (λ b. filter test pieces ++ cond b (piece ∷ []) []) passes)
    ∙ flat_map-append (λ (p : Placed). p.payload) (filter test pieces) (piece ∷ [])
    ∙ ap (λ bytes. payload_in test pieces ++ bytes) (append-nil piece.payload)

payload-without : (test : Placed → Bool) (pieces : List Placed) (piece : Placed) → test piece ≡ false → payload_in test (pieces ++ piece ∷ []) ≡ payload_in test pieces
payload-without test pieces piece fails =
    ap (flat_map (λ (p : Placed). p.payload))
    (filter-append test pieces (piece ∷ []) ∙ ap (λ b. filter test pieces ++ cond b (piece ∷ []) []) fails ∙ append-nil (filter test pieces))

-- another record
pub whole-other : (pieces : List Placed) (whole piece : Placed) → is_piece_of whole.id piece ≡ false → IsWhole pieces whole → IsWhole (pieces ++ piece ∷ []) whole
whole-other pieces whole piece apart is =
    record {
      moment = moment-kept (is_piece_of whole.id) pieces (piece ∷ []) whole.moment is.moment;
      payload = is.payload ∙ sym (payload-without (is_piece_of whole.id) pieces piece apart);
    }

-- the piece's record, which has pieces already
pub whole-joined : (pieces : List Placed) (whole piece : Placed) → is_piece_of whole.id piece ≡ true → IsWhole pieces whole
    → IsWhole (pieces ++ piece ∷ []) (record { id = whole.id; moment = whole.moment; payload = whole.payload ++ piece.payload })
whole-joined pieces whole piece its is =
    record {
      moment = moment-kept (is_piece_of whole.id) pieces (piece ∷ []) whole.moment is.moment;
      payload = ap (λ bytes. bytes ++ piece.payload) is.payload ∙ sym (payload-with (is_piece_of whole.id) pieces piece its);
    }

-- the piece's record, which begins with it
pub whole-new : (pieces : List Placed) (piece : Placed) → is_piece_of piece.id piece ≡ true → filter (is_piece_of piece.id) pieces ≡ [] → IsWhole (pieces ++ piece ∷ []) piece
whole-new pieces piece its none =
    record {
      moment = moment-new (is_piece_of piece.id) pieces piece its none;
      payload = sym (payload-with (is_piece_of piece.id) pieces piece its ∙ ap (λ found. flat_map (λ (p : Placed). p.payload) found ++ piece.payload) none);
    }
