-- How many drawers a new ring has.
use Rattle.std.proofs.Common.{◌≡◌, ℕ, suc, List, [], ◌∷◌, length, refl, ap}
use Rattle.hs_ring.proofs.Prelude.{PoolName, new_drawers}

pub new_drawers_length : (pool : PoolName) (buffers size number : ℕ) (lefts : List ℕ) → length (new_drawers pool buffers size number lefts) ≡ length lefts
new_drawers_length pool buffers size number [] = refl
new_drawers_length pool buffers size number (x ∷ xs) = ap suc (new_drawers_length pool buffers size (suc number) xs)
