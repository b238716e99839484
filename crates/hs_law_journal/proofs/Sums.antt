-- Sums of numbered terms.
use Rattle.std.proofs.Common.{◌≡◌, ◌⊎◌, inl, inr, ℕ, zero, suc, ◌+◌, ◌<◌, ◌≤◌, refl, ap, subst, arith}

abbrev pub sum_to : (ℕ → ℕ) → ℕ → ℕ
sum_to f zero = 0
sum_to f (suc n) = sum_to f n + f n

pub sum_le : (f g : ℕ → ℕ) (n : ℕ) → ((i : ℕ) → i < n → f i ≤ g i) → sum_to f n ≤ sum_to g n
sum_le f g zero each = omega arith
sum_le f g (suc n) each = let rest = sum_le f g n (λ i low. each i (omega (arith, low))) in let here = each n (omega arith) in omega (arith, rest, here)

same_or_less : (i n : ℕ) → i < suc n → (i ≡ n) ⊎ (i < n)
same_or_less zero zero low = inl refl
same_or_less zero (suc n) low = inr (omega arith)
same_or_less (suc i) zero low = absurd (omega (arith, low))
same_or_less (suc i) (suc n) low = elim (same_or_less i n (omega (arith, low))) as (λ _. (suc i ≡ suc n) ⊎ (suc i < suc n)) [ inl e ↦ inl (ap suc e) | inr l ↦ inr (omega (arith, l)) ]

less_case : (f g : ℕ → ℕ) (n i : ℕ) → (i ≡ n) ⊎ (i < n) → sum_to f n ≤ sum_to g n → f n ≤ g n → f i < g i → (i < n → sum_to f n < sum_to g n) → sum_to f n + f n < sum_to g n + g n
less_case f g n i (inl e) rest here less on = let same = subst (λ (k : ℕ). f k < g k) e less in omega (arith, rest, same)
less_case f g n i (inr l) rest here less on = let more = on l in omega (arith, here, more)

-- one that is greater makes the sum greater
pub sum_lt : (f g : ℕ → ℕ) (n i : ℕ) → ((i : ℕ) → i < n → f i ≤ g i) → i < n → f i < g i → sum_to f n < sum_to g n
sum_lt f g zero i each low less = absurd (omega (arith, low))
sum_lt f g (suc n) i each low less =
    less_case f g n i (same_or_less i n low) (sum_le f g n (λ i low. each i (omega (arith, low)))) (each n (omega arith)) less (λ l. sum_lt f g n i (λ i low. each i (omega (arith, low))) l less)
