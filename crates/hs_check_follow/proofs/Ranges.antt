-- A test of each number of a range, or of each item of a list, from its front.
use Rattle.std.proofs.Common.{◌≡◌, ℕ, ◌+◌, ◌-◌, ◌<◌, ◌≤◌, Bool, true, false, List, [], ◌∷◌, ◌++◌, length, get_or, drop, sym, ap, ◌∙◌, arith}
use Rattle.hs_check_follow.proofs.Prelude.{◌&&◌, range_with_len, list_all, flat_map, drop_more, drop_all, append_assoc, append-nil, length-range_with_len, true≢false}
use Rattle.std.proofs.lemmas.List.FromFn.{get_or-range_with_len}
use Rattle.std.proofs.lemmas.List.Folds.{list_all_at}
use Rattle.std.proofs.lemmas.Bool.{true_from_ne_false}

-- what is left of a range
abbrev pub range_from : ℕ → ℕ → List ℕ
range_from i n = drop i (range_with_len 0 n)

pub range_next : (i n : ℕ) → i < n → range_from i n ≡ i ∷ range_from (i + 1) n
range_next i n less =
    let many = length-range_with_len 0 n in
    let here : get_or (range_with_len 0 n) i 0 ≡ i = get_or-range_with_len 0 n i 0 less ∙ omega arith in
    drop_more (range_with_len 0 n) i 0 (omega (arith, many)) ∙ ap (λ x. x ∷ range_from (i + 1) n) here

pub range_none : (i n : ℕ) → n ≤ i → range_from i n ≡ []
range_none i n past = let many = length-range_with_len 0 n in drop_all i (range_with_len 0 n) (omega (arith, many))

module _ (f : ℕ → Bool) (whole : Bool) (i n : ℕ) where
  pub all_more : i < n → f i ≡ true → list_all f (range_from i n) ≡ whole → list_all f (range_from (i + 1) n) ≡ whole
  all_more less passes e = sym (ap (λ b. b && list_all f (range_from (i + 1) n)) passes) ∙ sym (ap (list_all f) (range_next i n less)) ∙ e

  pub all_fails : i < n → f i ≡ false → list_all f (range_from i n) ≡ whole → false ≡ whole
  all_fails less fails e = sym (ap (λ b. b && list_all f (range_from (i + 1) n)) fails) ∙ sym (ap (list_all f) (range_next i n less)) ∙ e

  pub all_done : n ≤ i → list_all f (range_from i n) ≡ whole → true ≡ whole
  all_done past e = sym (ap (list_all f) (range_none i n past)) ∙ e

module _ {A : Type 0} (f : A → Bool) (whole : Bool) (xs : List A) (i : ℕ) where
  pub each_more : (x : A) → i < length xs → x ≡ get_or xs i x → f x ≡ true → list_all f (drop i xs) ≡ whole → list_all f (drop (i + 1) xs) ≡ whole
  each_more x less is passes e =
      sym (ap (λ b. b && list_all f (drop (i + 1) xs)) passes) ∙ ap (λ (y : A). f y && list_all f (drop (i + 1) xs)) is ∙ sym (ap (list_all f) (drop_more xs i x less)) ∙ e

  pub each_fails : (x : A) → i < length xs → x ≡ get_or xs i x → f x ≡ false → list_all f (drop i xs) ≡ whole → false ≡ whole
  each_fails x less is fails e =
      sym (ap (λ b. b && list_all f (drop (i + 1) xs)) fails) ∙ ap (λ (y : A). f y && list_all f (drop (i + 1) xs)) is ∙ sym (ap (list_all f) (drop_more xs i x less)) ∙ e

  pub each_done : length xs ≤ i → list_all f (drop i xs) ≡ whole → true ≡ whole
  each_done past e = sym (ap (list_all f) (drop_all i xs past)) ∙ e

-- what is told over a range, one number more told
module _ {A : Type 0} (f : ℕ → List A) (whole : List A) (i n : ℕ) where
  pub told_more : (before : List A) → i < n → before ++ flat_map f (range_from i n) ≡ whole → (before ++ f i) ++ flat_map f (range_from (i + 1) n) ≡ whole
  told_more before less e = append_assoc before (f i) (flat_map f (range_from (i + 1) n)) ∙ sym (ap (λ (l : List ℕ). before ++ flat_map f l) (range_next i n less)) ∙ e

  pub told_all : (before : List A) → n ≤ i → before ++ flat_map f (range_from i n) ≡ whole → before ≡ whole
  told_all before past e = sym (append-nil before) ∙ sym (ap (λ (l : List ℕ). before ++ flat_map f l) (range_none i n past)) ∙ e

pub one_fails : (p : ℕ → Bool) (n i : ℕ) → i < n → p i ≡ false → list_all p (range_with_len 0 n) ≡ false
one_fails p n i less fails =
    list_all_at p (range_with_len 0 n) i 0 (let e = length-range_with_len 0 n in omega (arith, e))
    (ap p (get_or-range_with_len 0 n i 0 less ∙ omega arith) ∙ fails)

pub each_holds : (p : ℕ → Bool) (n i : ℕ) → list_all p (range_with_len 0 n) ≡ true → i < n → p i ≡ true
each_holds p n i all less = true_from_ne_false (p i) (λ fails. true≢false (sym all ∙ one_fails p n i less fails))

-- a test of what stands at a place of a list that no code holds
module _ {A : Type 0} (f : A → Bool) (whole : Bool) (xs : List A) (i : ℕ) where
  pub step_more : (x : A) → drop i xs ≡ x ∷ drop (i + 1) xs → f x ≡ true → list_all f (drop i xs) ≡ whole → list_all f (drop (i + 1) xs) ≡ whole
  step_more x here passes e = sym (ap (λ b. b && list_all f (drop (i + 1) xs)) passes) ∙ sym (ap (list_all f) here) ∙ e

  pub step_fails : (x : A) → drop i xs ≡ x ∷ drop (i + 1) xs → f x ≡ false → list_all f (drop i xs) ≡ whole → false ≡ whole
  step_fails x here fails e = sym (ap (λ b. b && list_all f (drop (i + 1) xs)) fails) ∙ sym (ap (list_all f) here) ∙ e
