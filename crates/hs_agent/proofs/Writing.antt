-- The first of a list, and the others.
use Rattle.std.proofs.Common.{◌≡◌, List, [], ◌∷◌, drop, Some, slice_get}

-- the first of a list, and the others
pub first-rest : {X : Type 0} (xs ys : List X) (x : X) → Some x ≡ slice_get xs 0 → ys ≡ drop 1 xs → xs ≡ x ∷ ys
first-rest [] ys x e r = cc
first-rest (z ∷ zs) ys x e r = cc
