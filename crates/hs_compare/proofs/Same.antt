-- Lists with the same items in another order, by exchanges of neighbours.
use Rattle.std.proofs.Common.{◌≡◌, Bool, true, false, not, cond, List, [], ◌∷◌, ◌++◌, refl, sym, subst, filter, append_assoc, append-nil}
use Rattle.hs_compare.proofs.Prelude.{IsPermutation, flat_map}
use Rattle.std.proofs.lemmas.List.Sorted.{IsPermutation-refl, IsPermutation-cons, IsPermutation-append_left, IsPermutation-append_comm, IsPermutation-trans}

pub data Same {X : Type 0} : List X → List X → Type 0 where
  Stays : (xs : List X) → Same xs xs
  Skips : (x : X) (xs ys : List X) → Same xs ys → Same (x ∷ xs) (x ∷ ys)
  Turns : (x y : X) (xs : List X) → Same (x ∷ y ∷ xs) (y ∷ x ∷ xs)
  Joins : (xs ys zs : List X) → Same xs ys → Same ys zs → Same xs zs

module _ {X : Type 0} where
  pub same_from : (xs ys : List X) → xs ≡ ys → Same xs ys
  same_from xs ys e = subst (Same xs) e (Stays xs)

  pub turned_round : (xs ys : List X) → Same xs ys → Same ys xs
  turned_round xs ys (Stays zs) = Stays zs
  turned_round xs ys (Skips x us vs s) = Skips x vs us (turned_round us vs s)
  turned_round xs ys (Turns x y us) = Turns y x us
  turned_round xs ys (Joins us vs ws s t) = Joins ws vs us (turned_round vs ws t) (turned_round us vs s)

  pub behind : (front xs ys : List X) → Same xs ys → Same (front ++ xs) (front ++ ys)
  behind [] xs ys s = s
  behind (x ∷ front) xs ys s = Skips x (front ++ xs) (front ++ ys) (behind front xs ys s)

  pub before : (back xs ys : List X) → Same xs ys → Same (xs ++ back) (ys ++ back)
  before back xs ys (Stays zs) = Stays (zs ++ back)
  before back xs ys (Skips x us vs s) = Skips x (us ++ back) (vs ++ back) (before back us vs s)
  before back xs ys (Turns x y us) = Turns x y (us ++ back)
  before back xs ys (Joins us vs ws s t) = Joins (us ++ back) (vs ++ back) (ws ++ back) (before back us vs s) (before back vs ws t)

  pub both : (us vs xs ys : List X) → Same us vs → Same xs ys → Same (us ++ xs) (vs ++ ys)
  both us vs xs ys s t = Joins (us ++ xs) (vs ++ xs) (vs ++ ys) (before xs us vs s) (behind vs xs ys t)

  pub into : (x : X) (xs ys : List X) → Same (x ∷ (xs ++ ys)) (xs ++ x ∷ ys)
  into x [] ys = Stays (x ∷ ys)
  into x (y ∷ xs) ys = Joins (x ∷ y ∷ (xs ++ ys)) (y ∷ x ∷ (xs ++ ys)) (y ∷ (xs ++ x ∷ ys)) (Turns x y (xs ++ ys)) (Skips y (x ∷ (xs ++ ys)) (xs ++ x ∷ ys) (into x xs ys))

  pub crossed : (xs ys : List X) → Same (xs ++ ys) (ys ++ xs)
  crossed [] ys = same_from ys (ys ++ []) (sym (append-nil ys))
  crossed (x ∷ xs) ys = Joins (x ∷ (xs ++ ys)) (x ∷ (ys ++ xs)) (ys ++ x ∷ xs) (Skips x (xs ++ ys) (ys ++ xs) (crossed xs ys)) (into x ys xs)

  -- the inner two of four are exchanged
  pub exchanged : (a b c d : List X) → Same ((a ++ b) ++ (c ++ d)) ((a ++ c) ++ (b ++ d))
  exchanged a b c d =
      Joins ((a ++ b) ++ (c ++ d)) (a ++ (b ++ (c ++ d))) ((a ++ c) ++ (b ++ d)) (same_from _ _ (append_assoc a b (c ++ d)))
      (Joins (a ++ (b ++ (c ++ d))) (a ++ (c ++ (b ++ d))) ((a ++ c) ++ (b ++ d))
      (behind a (b ++ (c ++ d)) (c ++ (b ++ d))
      (Joins (b ++ (c ++ d)) ((b ++ c) ++ d) (c ++ (b ++ d)) (same_from _ _ (sym (append_assoc b c d)))
      (Joins ((b ++ c) ++ d) ((c ++ b) ++ d) (c ++ (b ++ d)) (before d (b ++ c) (c ++ b) (crossed b c)) (same_from _ _ (append_assoc c b d)))))
      (same_from _ _ (sym (append_assoc a c (b ++ d)))))

  -- ---- filters

  module _ (p : X → Bool) where
    skip_case : (x : X) (xs ys : List X) (b : Bool) → Same xs ys → Same (cond b (x ∷ xs) xs) (cond b (x ∷ ys) ys)
    skip_case x xs ys true s = Skips x xs ys s
    skip_case x xs ys false s = s

    turn_case : (x y : X) (xs : List X) (a b : Bool) → Same (cond a (x ∷ cond b (y ∷ xs) xs) (cond b (y ∷ xs) xs)) (cond b (y ∷ cond a (x ∷ xs) xs) (cond a (x ∷ xs) xs))
    turn_case x y xs true true = Turns x y xs
    turn_case x y xs true false = Stays (x ∷ xs)
    turn_case x y xs false true = Stays (y ∷ xs)
    turn_case x y xs false false = Stays xs

    pub filtered : (xs ys : List X) → Same xs ys → Same (filter p xs) (filter p ys)
    filtered xs ys (Stays zs) = Stays (filter p zs)
    filtered xs ys (Skips x us vs s) = skip_case x (filter p us) (filter p vs) (p x) (filtered us vs s)
    filtered xs ys (Turns x y us) = turn_case x y (filter p us) (p x) (p y)
    filtered xs ys (Joins us vs ws s t) = Joins (filter p us) (filter p vs) (filter p ws) (filtered us vs s) (filtered vs ws t)

    part_case : (x : X) (xs in_it out_of_it : List X) (b : Bool) → Same xs (out_of_it ++ in_it) → Same (x ∷ xs) (cond (not b) (x ∷ out_of_it) out_of_it ++ cond b (x ∷ in_it) in_it)
    part_case x xs in_it out_of_it true s = Joins (x ∷ xs) (x ∷ (out_of_it ++ in_it)) (out_of_it ++ x ∷ in_it) (Skips x xs (out_of_it ++ in_it) s) (into x out_of_it in_it)
    part_case x xs in_it out_of_it false s = Skips x xs (out_of_it ++ in_it) s

    pub in_parts : (xs : List X) → Same xs (filter (λ x. not (p x)) xs ++ filter p xs)
    in_parts [] = Stays []
    in_parts (x ∷ xs) = part_case x xs (filter p xs) (filter (λ x. not (p x)) xs) (p x) (in_parts xs)

  pub to_permutation : (xs ys : List X) → Same xs ys → IsPermutation xs ys
  to_permutation xs ys (Stays zs) = IsPermutation-refl zs
  to_permutation xs ys (Skips x us vs s) = IsPermutation-cons x us vs (to_permutation us vs s)
  to_permutation xs ys (Turns x y us) = IsPermutation-append_left us (x ∷ y ∷ []) (y ∷ x ∷ []) (IsPermutation-append_comm (x ∷ []) (y ∷ []))
  to_permutation xs ys (Joins us vs ws s t) = IsPermutation-trans us vs ws (to_permutation us vs s) (to_permutation vs ws t)

-- ---- joined lists

module _ {X Y : Type 0} where
  pub flat_same : (f g : Y → List X) (ys : List Y) → ((y : Y) → Same (f y) (g y)) → Same (flat_map f ys) (flat_map g ys)
  flat_same f g [] each = Stays []
  flat_same f g (y ∷ ys) each = both (f y) (g y) (flat_map f ys) (flat_map g ys) (each y) (flat_same f g ys each)

  pub flat_pairs : (f g : Y → List X) (ys : List Y) → Same (flat_map (λ y. f y ++ g y) ys) (flat_map f ys ++ flat_map g ys)
  flat_pairs f g [] = Stays []
  flat_pairs f g (y ∷ ys) =
      Joins ((f y ++ g y) ++ flat_map (λ y. f y ++ g y) ys) ((f y ++ g y) ++ (flat_map f ys ++ flat_map g ys)) ((f y ++ flat_map f ys) ++ (g y ++ flat_map g ys))
      (behind (f y ++ g y) (flat_map (λ y. f y ++ g y) ys) (flat_map f ys ++ flat_map g ys) (flat_pairs f g ys)) (exchanged (f y) (g y) (flat_map f ys) (flat_map g ys))

  pub flat_none : (ys : List Y) → flat_map (λ (y : Y). let none : List X = [] in none) ys ≡ []
  flat_none [] = refl
  flat_none (y ∷ ys) = flat_none ys

-- rows by columns, and columns by rows
module _ {X A B : Type 0} (f : A → B → List X) where
  pub by_columns : (rows : List A) (columns : List B) → Same (flat_map (λ a. flat_map (f a) columns) rows) (flat_map (λ b. flat_map (λ a. f a b) rows) columns)
  by_columns [] columns = same_from [] (flat_map (λ (b : B). let none : List X = [] in none) columns) (sym (flat_none columns))
  by_columns (a ∷ rows) columns =
      let rest = flat_map (λ a. flat_map (f a) columns) rows in
      let turned = flat_map (λ b. flat_map (λ a. f a b) rows) columns in
      Joins (flat_map (f a) columns ++ rest) (flat_map (f a) columns ++ turned) (flat_map (λ b. f a b ++ flat_map (λ a. f a b) rows) columns) (behind (flat_map (f a) columns) rest turned (by_columns rows columns))
      (turned_round (flat_map (λ b. f a b ++ flat_map (λ a. f a b) rows) columns) (flat_map (f a) columns ++ turned) (flat_pairs (f a) (λ b. flat_map (λ a. f a b) rows) columns))
