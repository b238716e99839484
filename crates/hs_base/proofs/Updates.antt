-- A function with one value changed.
use Rattle.std.proofs.Common.{◌≡◌, ◌≢◌, ℕ, refl}
use native.Mathlib.Decide.{ℕ_discrete}

abbrev pick : {A P : Type 0} → Dec P → A → A → A
pick (yes _) a b = a
pick (no _) a b = b

-- the function with this value at i
pub put : {A : Type 0} → (ℕ → A) → ℕ → A → ℕ → A
put f i x j = pick (ℕ_discrete j i) x (f j)

module _ {A : Type 0} where
  -- what holds of the new value at i, and of each other value, holds after
  pub put_cases : (P : A → Type 0) (f : ℕ → A) (i : ℕ) (x : A) (j : ℕ) → (j ≡ i → P x) → (j ≢ i → P (f j)) → P (put f i x j)
  unfolding put
  put_cases P f i x j here other = go (ℕ_discrete j i)
    where
      go : (d : Dec (j ≡ i)) → P (pick d x (f j))
      go (yes e) = here e
      go (no n) = other n

  pub put_here : (f : ℕ → A) (i : ℕ) (x : A) → put f i x i ≡ x
  put_here f i x = put_cases (λ y. y ≡ x) f i x i (λ _. refl) (λ n. absurd (n refl))

  pub put_else : (f : ℕ → A) (i : ℕ) (x : A) (j : ℕ) → j ≢ i → put f i x j ≡ f j
  put_else f i x j n = put_cases (λ y. y ≡ f j) f i x j (λ e. absurd (n e)) (λ _. refl)
