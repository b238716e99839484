-- What the first piece of a page did to the records that were there.
use Rattle.std.proofs.Common.{◌≡◌, ℕ, zero, suc, ◌-◌, Bool, true, false, cond, List, [], ◌∷◌, map, length, Some, None, Result, Ok, Err, IfOk, refl, ap, ◌∙◌}
use Rattle.hs_collect.proofs.Prelude.{slice_get, Header, Point, Piece, piece_of, Placed, is_before, join_at, Joins}
use Rattle.hs_base.specs.declared.ids.Memory.{Memory}
use Rattle.hs_collect.proofs.Adding.{id_of}

pub joins_none : (header : Header) (place : ℕ) (old : List Placed) (points : List Point) → None ≡ slice_get points 0 → Joins header place old (map piece_of points) false old
joins_none header place old [] h = (refl, refl)
joins_none header place old (point ∷ points) h = absurd (cc)

joins_first : (header : Header) (place : ℕ) (old : List Placed) (points : List Point) (first : Point) (joined : Bool) (new : List Placed) → Some first ≡ slice_get points 0
    → joined ≡ is_before place (id_of header.client header.first) old → new ≡ cond joined (join_at (place - 1) first.payload.items old) old
    → Joins header place old (map piece_of points) joined new
joins_first header place old [] first joined new here its now = absurd (cc)
joins_first header place old (point ∷ points) first joined new here its now =
    let same : first ≡ point = cc in
    (its, now ∙ ap (λ (p : Point). cond joined (join_at (place - 1) p.payload.items old) old) same)

pub if_joins : (result : Result Bool Memory) (header : Header) (place : ℕ) (old : List Placed) (points : List Point) (first : Point) (new : List Placed) → Some first ≡ slice_get points 0
    → IfOk result (λ joined. joined ≡ is_before place (id_of header.client header.first) old) → IfOk result (λ joined. new ≡ cond joined (join_at (place - 1) first.payload.items old) old)
    → IfOk result (λ joined. Joins header place old (map piece_of points) joined new)
if_joins (Ok joined) header place old points first new here its now = joins_first header place old points first joined new here its now
if_joins (Err memory) header place old points first new here its now = tt

length-join_at : (place : ℕ) (bytes : List ℕ) (wholes : List Placed) → length (join_at place bytes wholes) ≡ length wholes
length-join_at place bytes [] = refl
length-join_at zero bytes (whole ∷ wholes) = refl
length-join_at (suc place) bytes (whole ∷ wholes) = ap suc (length-join_at place bytes wholes)

-- there are as many records
pub length-joined : (header : Header) (place : ℕ) (old : List Placed) (pieces : List Piece) (joined : Bool) (new : List Placed) → Joins header place old pieces joined new → length new ≡ length old
length-joined header place old [] joined new joins = ap length joins.1
length-joined header place old (piece ∷ pieces) true new joins = ap length joins.1 ∙ length-join_at (place - 1) piece.payload old
length-joined header place old (piece ∷ pieces) false new joins = ap length joins.1
