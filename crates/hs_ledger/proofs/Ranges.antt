-- What is made from the numbers of a range, one list for each.
use Rattle.std.proofs.Common.{◌≡◌, ℕ, zero, suc, ◌+◌, ◌<◌, ◌≤◌, List, ◌++◌, length, refl, sym, ap, ap₂, ◌∙◌, append_assoc, arith}
use Rattle.std.proofs.lemmas.List.{length-append}
use Rattle.std.specs.List.{flat_map, range_with_len}

-- a range in two parts
pub flat_map-split : {X : Type 0} (f : ℕ → List X) (a x y z b : ℕ) → x + y ≡ z → a + x ≡ b
    → flat_map f (range_with_len a z) ≡ flat_map f (range_with_len a x) ++ flat_map f (range_with_len b y)
flat_map-split f a zero y z b e at =
    let same : y ≡ z = omega arith in
    let from : b ≡ a = omega arith in
    ap₂ (λ n m. flat_map f (range_with_len n m)) (sym from) (sym same)
flat_map-split f a (suc x) y zero b e at = absurd (omega arith)
flat_map-split f a (suc x) y (suc z) b e at =
    ap (λ rest. f a ++ rest) (flat_map-split f (a + 1) x y z b (omega arith) (omega arith))
    ∙ sym (append_assoc (f a) (flat_map f (range_with_len (a + 1) x)) (flat_map f (range_with_len b y)))

-- two functions that agree on a range
pub flat_map-agree : {X : Type 0} (f g : ℕ → List X) (a n : ℕ) → ((k : ℕ) → a ≤ k → k < a + n → f k ≡ g k)
    → flat_map f (range_with_len a n) ≡ flat_map g (range_with_len a n)
flat_map-agree f g a zero same = refl
flat_map-agree f g a (suc n) same =
    ap₂ (λ x xs. x ++ xs) (same a (omega arith) (omega arith)) (flat_map-agree f g (a + 1) n (λ k low high. same k (omega arith) (omega arith)))

-- one for each number
pub length-flat_map_one : {X : Type 0} (f : ℕ → List X) (a n : ℕ) → ((k : ℕ) → a ≤ k → k < a + n → length (f k) ≡ 1) → length (flat_map f (range_with_len a n)) ≡ n
length-flat_map_one f a zero one = refl
length-flat_map_one f a (suc n) one =
    let here = one a (omega arith) (omega arith) in
    let later = length-flat_map_one f (a + 1) n (λ k low high. one k (omega arith) (omega arith)) in
    omega (arith, here, later, length-append (f a) (flat_map f (range_with_len (a + 1) n)))
