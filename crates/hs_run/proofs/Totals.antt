-- Totals over nodes and over clients.
use Rattle.std.proofs.Common.{◌≡◌, ℕ, zero, suc, ◌+◌, ◌*◌, ◌<◌, ◌≤◌, refl, arith}
use Rattle.hs_run.proofs.Prelude.{mul-le-mul_right, suc-mul}
use Rattle.hs_law_journal.proofs.Sums.{sum_to, sum_le, sum_lt}
use Rattle.hs_law_run.proofs.Closing.{sum_both}
use Rattle.hs_run.specs.Accounts.{total}

total_is : (f : ℕ → ℕ) (n : ℕ) → total f n ≡ sum_to f n
total_is f zero = refl
total_is f (suc n) = let rest = total_is f n in omega (arith, rest)

pub total_both : (f g : ℕ → ℕ) (n : ℕ) → total (λ i. f i + g i) n ≡ total f n + total g n
total_both f g n = let both = total_is (λ i. f i + g i) n in let a = total_is f n in let b = total_is g n in let all = sum_both f g n in omega (arith, both, a, b, all)

pub total_le : (f g : ℕ → ℕ) (n : ℕ) → ((i : ℕ) → i < n → f i ≤ g i) → total f n ≤ total g n
total_le f g n each = let a = total_is f n in let b = total_is g n in let all = sum_le f g n each in omega (arith, a, b, all)

pub total_lt : (f g : ℕ → ℕ) (n i : ℕ) → ((i : ℕ) → i < n → f i ≤ g i) → i < n → f i < g i → total f n < total g n
total_lt f g n i each low less = let a = total_is f n in let b = total_is g n in let all = sum_lt f g n i each low less in omega (arith, a, b, all)

-- so many terms, none of which is greater than this
pub total_most : (f : ℕ → ℕ) (most n : ℕ) → ((i : ℕ) → i < n → f i ≤ most) → total f n ≤ n * most
total_most f most zero each = omega arith
total_most f most (suc n) each =
    let rest = total_most f most n (λ i low. each i (omega (arith, low))) in let here = each n (omega arith) in let product = suc-mul n most in omega (arith, rest, here, product)

pub total_few : (f : ℕ → ℕ) (most n k : ℕ) → n ≤ k → ((i : ℕ) → i < n → f i ≤ most) → total f n ≤ k * most
total_few f most n k few each = let all = total_most f most n each in let product = mul-le-mul_right most few in omega (arith, all, product)
