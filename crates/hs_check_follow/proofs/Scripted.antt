-- What draws of a script come to: they get buffers where the script says so, one for one.
use Rattle.std.proofs.Common.{◌≡◌, ◌≤◌, Bool, List, [], ◌∷◌, ◌++◌, length, map, refl, sym, ap, ap₂, ◌∙◌, arith}
use Rattle.hs_check_follow.proofs.Prelude.{Draw, DrawsAll, has_buffer, DrawScript, script_way}
use Rattle.hs_check_follow.specs.Scripts.{FollowsNext}

pub size_stays : (draws : List Draw) (old new : DrawScript) → DrawsAll script_way draws old new → new.size ≡ old.size
size_stays [] old new h = ap (λ (s : DrawScript). s.size) (sym h)
size_stays (draw ∷ draws) old new h = size_stays draws h.0 new h.2 ∙ h.1.size_is

fewer_left : (left : List Draw) (draw : Draw) (left' : List Draw) → FollowsNext left draw left' → length left' ≤ length left
fewer_left [] draw left' h = let none = ap length h in omega (arith, none)
fewer_left (next ∷ rest) draw left' h = let same = ap length h.0 in omega (arith, same)

pub left_falls : (draws : List Draw) (old new : DrawScript) → DrawsAll script_way draws old new → length new.left.items ≤ length old.left.items
left_falls [] old new h = let same = ap (λ (s : DrawScript). length s.left.items) h in omega (arith, same)
left_falls (draw ∷ draws) old new h =
    let first = fewer_left old.left.items draw h.0.left.items h.1.next in
    let rest = left_falls draws h.0 new h.2 in
    omega (arith, first, rest)

-- the kinds of what was drawn and of what is left are those of what was left
pub kinds_are : (draws : List Draw) (old new : DrawScript) → DrawsAll script_way draws old new → length draws ≤ length old.left.items
    → map has_buffer draws ++ map has_buffer new.left.items ≡ map has_buffer old.left.items
kinds_are [] old new h few = ap (λ (s : DrawScript). map has_buffer s.left.items) (sym h)
kinds_are (draw ∷ draws) old new h few = step old.left.items refl few (h.1.next) (kinds_are draws h.0 new h.2)
  where
    step : (left : List Draw) → old.left.items ≡ left → length (draw ∷ draws) ≤ length left → FollowsNext left draw h.0.left.items
        → (length draws ≤ length h.0.left.items → map has_buffer draws ++ map has_buffer new.left.items ≡ map has_buffer h.0.left.items)
        → has_buffer draw ∷ (map has_buffer draws ++ map has_buffer new.left.items) ≡ map has_buffer left
    step [] e few next rest = absurd (omega (arith, few))
    step (first ∷ left) e few next rest =
        let same = ap length next.0 in
        ap₂ (λ (b : Bool) (l : List Bool). b ∷ l) next.1 (rest (omega (arith, few, same)) ∙ ap (map has_buffer) next.0)
