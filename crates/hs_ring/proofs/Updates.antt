-- Lists of views with one changed, and what the drawers may still draw.
use Rattle.std.proofs.Common.{◌≡◌, ℕ, zero, suc, ◌+◌, ◌≤◌, List, [], ◌∷◌, ◌++◌, set, refl, sym, ap, arith}
use Rattle.hs_ring.proofs.Prelude.{some, some-injective, some-ne-none, get_elem?, View, Deed, Plan, Allowed, left_in, most_in, all_left, all_most}

-- one view is another
pub left_set : (views : List View) (id : ℕ) (v w : View) → get_elem? views id ≡ some v → all_left (set views id w) + left_in v ≡ all_left views + left_in w
left_set [] id v w at = absurd (some-ne-none v (sym at))
left_set (x ∷ xs) zero v w at = let e : left_in x ≡ left_in v = ap left_in (some-injective x v at) in omega arith
left_set (x ∷ xs) (suc id) v w at = let e = left_set xs id v w at in omega arith

pub most_set : (views : List View) (id : ℕ) (v w : View) → get_elem? views id ≡ some v → all_most (set views id w) + most_in v ≡ all_most views + most_in w
most_set [] id v w at = absurd (some-ne-none v (sym at))
most_set (x ∷ xs) zero v w at = let e : most_in x ≡ most_in v = ap most_in (some-injective x v at) in omega arith
most_set (x ∷ xs) (suc id) v w at = let e = most_set xs id v w at in omega arith

pub left_and : (views : List View) (w : View) → all_left (views ++ w ∷ []) ≡ all_left views + left_in w
left_and [] w = omega arith
left_and (x ∷ xs) w = let e = left_and xs w in omega arith

pub most_and : (views : List View) (w : View) → all_most (views ++ w ∷ []) ≡ all_most views + most_in w
most_and [] w = omega arith
most_and (x ∷ xs) w = let e = most_and xs w in omega arith

-- a seat has no more than all have
pub left_low : (views : List View) (id : ℕ) (v : View) → get_elem? views id ≡ some v → left_in v ≤ all_left views
left_low [] id v at = absurd (some-ne-none v (sym at))
left_low (x ∷ xs) zero v at = let e : left_in x ≡ left_in v = ap left_in (some-injective x v at) in omega arith
left_low (x ∷ xs) (suc id) v at = let e = left_low xs id v at in omega arith

-- each seat has at most its whole allowance, and so have all
pub left_within : (views : List View) → ((j : ℕ) (v : View) → get_elem? views j ≡ some v → left_in v ≤ most_in v) → all_left views ≤ all_most views
left_within [] each = omega arith
left_within (x ∷ xs) each = omega (arith, each 0 x refl, left_within xs (λ j v seen. each (suc j) v seen))

module _ (plan : Plan) (log : List Deed) (views : List View) where
  -- one view is another with no more to draw
  pub allowed_less : (id : ℕ) (v w : View) → get_elem? views id ≡ some v → left_in w ≤ left_in v → most_in w ≤ most_in v → Allowed plan log views → Allowed plan log (set views id w)
  allowed_less id v w at left most ok =
      let l = left_set views id v w at in
      let m = most_set views id v w at in
      record { ahead = omega (arith, ok.ahead); life = omega (arith, ok.life); most = omega (arith, ok.most) }

  pub allowed_set : (id : ℕ) (v w : View) → get_elem? views id ≡ some v → left_in w ≡ left_in v → most_in w ≡ most_in v → Allowed plan log views → Allowed plan log (set views id w)
  allowed_set id v w at left most ok = allowed_less id v w at (omega arith) (omega arith) ok

  -- one more view has nothing to draw
  pub allowed_and : (w : View) → left_in w ≡ 0 → most_in w ≡ 0 → Allowed plan log views → Allowed plan log (views ++ w ∷ [])
  allowed_and w left most ok =
      let l = left_and views w in
      let m = most_and views w in
      record { ahead = omega (arith, ok.ahead); life = omega (arith, ok.life); most = omega (arith, ok.most) }

pub ap₃ : {A B C D : Type 0} (f : A → B → C → D) {x y : A} {u v : B} {w z : C} → x ≡ y → u ≡ v → w ≡ z → f x u w ≡ f y v z
ap₃ f p q r i = f (p i) (q i) (r i)
