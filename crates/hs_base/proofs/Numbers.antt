-- Numbers that are compared.
use Rattle.std.proofs.Common.{◌≡◌, ◌⊎◌, inl, inr, ℕ, zero, suc, ◌+◌, ◌*◌, ◌<◌, ◌≤◌, max, eqb, nat_eq, nat_le, ◌==◌, true, false, ◌&&◌, not, refl, arith, ap, is_lt, nat_cmp}
use Rattle.std.proofs.Math.Nat.{suc-mul}
use Rattle.std.proofs.lemmas.Bool.Decides.{nat_tests}

pub same_or_less : (k n : ℕ) → k < suc n → (k < n) ⊎ (k ≡ n)
same_or_less zero zero low = inr refl
same_or_less zero (suc n) low = inl (omega arith)
same_or_less (suc k) zero low = absurd (omega arith)
same_or_less (suc k) (suc n) low = elim (same_or_less k n (omega arith)) [ inl h ↦ inl (omega (arith, h)) | inr h ↦ inr (ap suc h) ]

pub suc_le : (a b : ℕ) → a < b → suc a ≤ b
suc_le a b low = omega (arith, low)

pub max_le : (a b c : ℕ) → a ≤ c → b ≤ c → max a b ≤ c
max_le a b c p q = omega arith

pub nat_eq_itself : (n : ℕ) → (n == n) ≡ true
nat_eq_itself n = grind arith

pub nat_eq_below : (a b : ℕ) → a < b → nat_eq a b ≡ false
nat_eq_below a b less = grind (arith, nat_tests)

pub nat_eq_above : (a b : ℕ) → b < a → nat_eq a b ≡ false
nat_eq_above a b less = grind (arith, nat_tests)

pub nat_eq_from : (a b : ℕ) → not (nat_eq a b) ≡ false → a ≡ b
nat_eq_from a b is = grind arith

pub nat_le_false : (a b : ℕ) → b < a → nat_le a b ≡ false
nat_le_false a b less = grind (arith, nat_tests)

pub nat_le_past : (a b : ℕ) → nat_le a b ≡ false → b < a
nat_le_past a b is = grind arith

pub nat_cmp_tie : (a b : ℕ) → (not (is_lt (nat_cmp a b)) && not (is_lt (nat_cmp b a))) ≡ eqb b a
nat_cmp_tie a b = grind (arith, nat_tests)

-- a factor is no more than a product whose other factor is at least 1
pub mul_at_least : (m n : ℕ) → 1 ≤ m → n ≤ m * n
mul_at_least zero n one = absurd (omega (arith, one))
mul_at_least (suc m) n one = let product = suc-mul m n in omega (arith, product)
