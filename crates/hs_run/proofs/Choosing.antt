-- One value for each item of a list, where one is known to be for each.
use Rattle.std.proofs.Common.{◌≡◌, ℕ, zero, suc, ◌≤◌, List, [], ◌∷◌, length, Some, None, refl, subst, arith, slice_get}
use Rattle.hs_run.proofs.Prelude.{same_Some}

abbrev first_then : {B : Type 0} → B → (ℕ → B) → ℕ → B
first_then b f zero = b
first_then b f (suc n) = f n

module _ {A B : Type 0} where
  -- the value of each place, and behind the list the default ones
  pub record Chosen (P : ℕ → A → B → Type 0) (default : ℕ → B) (xs : List A) : Type 0 where
    pub value : ℕ → B
    pub each : (n : ℕ) (x : A) → slice_get xs n ≡ Some x → P n x (value n)
    pub past : (n : ℕ) → length xs ≤ n → value n ≡ default n

  pub choose : (P : ℕ → A → B → Type 0) (default : ℕ → B) (xs : List A) → ((n : ℕ) (x : A) → slice_get xs n ≡ Some x → (b : B) × P n x b) → Chosen P default xs
  choose P default [] h = record { value = default; each = λ n x at. let none : None ≡ Some x = at in absurd cc; past = λ n high. refl }
  choose P default (x ∷ xs) h =
      let rest = choose (λ n. P (suc n)) (λ n. default (suc n)) xs (λ n y at. h (suc n) y at) in
      let first = h 0 x refl in
      record {
        value = first_then first.0 rest.value;
        each = λ n y at. each n y at first rest;
        past = λ n high. past n high first rest;
      }
    where
      each : (n : ℕ) (y : A) → slice_get (x ∷ xs) n ≡ Some y → (first : (b : B) × P 0 x b) (rest : Chosen (λ n. P (suc n)) (λ n. default (suc n)) xs) → P n y (first_then first.0 rest.value n)
      each zero y at first rest = subst (λ (z : A). P 0 z first.0) (same_Some x y at) first.1
      each (suc n) y at first rest = rest.each n y at

      past : (n : ℕ) → length (x ∷ xs) ≤ n → (first : (b : B) × P 0 x b) (rest : Chosen (λ n. P (suc n)) (λ n. default (suc n)) xs) → first_then first.0 rest.value n ≡ default n
      past zero high first rest = absurd (omega (arith, high))
      past (suc n) high first rest = rest.past n (omega (arith, high))
