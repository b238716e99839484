-- Lists of views with one changed.
use Rattle.std.proofs.Common.{◌≡◌, ℕ, zero, suc, ◌+◌, List, [], ◌∷◌, ◌++◌, set, sym, ap, arith}
use Rattle.hs_locked.proofs.Prelude.{some, some-injective, some-ne-none, get_elem?, View, left_in, all_left}
pub use Rattle.hs_base.proofs.Updates.{put, put_cases, put_here, put_else}
pub use Rattle.hs_ring.proofs.Updates.{ap₃}

-- one view is another
pub left_set : (views : List View) (id : ℕ) (v w : View) → get_elem? views id ≡ some v → all_left (set views id w) + left_in v ≡ all_left views + left_in w
left_set [] id v w at = absurd (some-ne-none v (sym at))
left_set (x ∷ xs) zero v w at = let e : left_in x ≡ left_in v = ap left_in (some-injective x v at) in omega arith
left_set (x ∷ xs) (suc id) v w at = let e = left_set xs id v w at in omega arith

pub left_and : (views : List View) (w : View) → all_left (views ++ w ∷ []) ≡ all_left views + left_in w
left_and [] w = omega arith
left_and (x ∷ xs) w = let e = left_and xs w in omega arith
