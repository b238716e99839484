-- The first number that passes a test: where it stands one test later, and where two tests are passed that stay passed.
use Rattle.std.proofs.Common.{◌≡◌, ℕ, zero, suc, ◌+◌, ◌≤◌, Bool, true, false, cond, max, Option, Some, refl, sym, ap, ◌∙◌, arith}
use Rattle.hs_check.proofs.Prelude.{◌&&◌, range_with_len, and-true}
use Rattle.std.specs.Prelude.{unwrap_or}
use Rattle.std.specs.List.{find}
use Rattle.std.proofs.Math.Nat.{suc-max-suc, max-zero}

-- the first number below n that passes, or n
abbrev pub first_of : (ℕ → Bool) → ℕ → ℕ
first_of p n = unwrap_or (find p (range_with_len 0 n)) n

-- ---- one test later

abbrev from : (ℕ → Bool) → ℕ → ℕ → ℕ
from p a n = unwrap_or (find p (range_with_len a n)) (a + n)

picks : (b : Bool) (o : Option ℕ) (x d : ℕ) → unwrap_or (cond b (Some x) o) d ≡ cond b x (unwrap_or o d)
picks true o x d = refl
picks false o x d = refl

both_later : (b : Bool) (x y : ℕ) → cond b (suc x) (suc y) ≡ suc (cond b x y)
both_later true x y = refl
both_later false x y = refl

step : (p : ℕ → Bool) (a n : ℕ) → from p a (suc n) ≡ cond (p a) a (from p (a + 1) n)
step p a n =
    let same : a + suc n ≡ a + 1 + n = omega arith in
    picks (p a) (find p (range_with_len (a + 1) n)) a (a + suc n) ∙ ap (λ d. cond (p a) a (unwrap_or (find p (range_with_len (a + 1) n)) d)) same

shift : (p : ℕ → Bool) (a n : ℕ) → from p (a + 1) n ≡ suc (from (λ k. p (suc k)) a n)
shift p a zero = let same : a + 1 + 0 ≡ suc (a + 0) = omega arith in same
shift p a (suc n) =
    let one : a + 1 ≡ suc a = omega arith in
    step p (a + 1) n ∙ ap (λ x. cond (p x) x (from p (a + 1 + 1) n)) one ∙ ap (λ y. cond (p (suc a)) (suc a) y) (shift p (a + 1) n)
    ∙ both_later (p (suc a)) a (from (λ k. p (suc k)) (a + 1) n) ∙ ap suc (sym (step (λ k. p (suc k)) a n))

is_from : (p : ℕ → Bool) (n : ℕ) → first_of p n ≡ from p 0 n
is_from p n = let same : n ≡ 0 + n = omega arith in ap (unwrap_or (find p (range_with_len 0 n))) same

pub first_next : (p : ℕ → Bool) (n : ℕ) → first_of p (suc n) ≡ cond (p 0) 0 (suc (first_of (λ k. p (suc k)) n))
first_next p n = is_from p (suc n) ∙ step p 0 n ∙ ap (λ y. cond (p 0) 0 y) (shift p 0 n) ∙ ap (λ y. cond (p 0) 0 (suc y)) (sym (is_from (λ k. p (suc k)) n))

pub first_congr : (p q : ℕ → Bool) (n : ℕ) → ((k : ℕ) → p k ≡ q k) → first_of p n ≡ first_of q n
first_congr p q zero same = refl
first_congr p q (suc n) same =
    first_next p n ∙ ap (λ b. cond b 0 (suc (first_of (λ k. p (suc k)) n))) (same 0)
    ∙ ap (λ x. cond (q 0) 0 (suc x)) (first_congr (λ k. p (suc k)) (λ k. q (suc k)) n (λ k. same (suc k))) ∙ sym (first_next q n)

pub first_le : (p : ℕ → Bool) (n : ℕ) → first_of p n ≤ n
first_le p zero = omega arith
first_le p (suc n) = let e = first_next p n in let few = at (p 0) (first_of (λ k. p (suc k)) n) (first_le (λ k. p (suc k)) n) in omega (arith, e, few)
  where
    at : (b : Bool) (m : ℕ) → m ≤ n → cond b 0 (suc m) ≤ suc n
    at true m few = omega arith
    at false m few = omega arith

pub first_always : (n : ℕ) → first_of (λ k. true) n ≡ 0
first_always zero = refl
first_always (suc n) = first_next (λ k. true) n

-- ---- two tests

-- once passed, always passed
abbrev pub Rises : (ℕ → Bool) → Type 0
Rises p = (k : ℕ) → p k ≡ true → p (suc k) ≡ true

stays : (p : ℕ → Bool) → Rises p → p 0 ≡ true → (k : ℕ) → p k ≡ true
stays p rises start zero = start
stays p rises start (suc k) = rises k (stays p rises start k)

pub first_both : (p q : ℕ → Bool) (n : ℕ) → Rises p → Rises q → first_of (λ k. p k && q k) n ≡ max (first_of p n) (first_of q n)
first_both p q zero up also = refl
first_both p q (suc n) up also =
    first_next (λ k. p k && q k) n ∙ at (p 0) (q 0) refl refl (first_both (λ k. p (suc k)) (λ k. q (suc k)) n (λ k. up (suc k)) (λ k. also (suc k)))
    ∙ sym (ap (λ x. max x (cond (q 0) 0 (suc (first_of (λ k. q (suc k)) n)))) (first_next p n)) ∙ sym (ap (λ x. max (first_of p (suc n)) x) (first_next q n))
  where
    at : (a b : Bool) → p 0 ≡ a → q 0 ≡ b → first_of (λ k. p (suc k) && q (suc k)) n ≡ max (first_of (λ k. p (suc k)) n) (first_of (λ k. q (suc k)) n)
        → cond (a && b) 0 (suc (first_of (λ k. p (suc k) && q (suc k)) n)) ≡ max (cond a 0 (suc (first_of (λ k. p (suc k)) n))) (cond b 0 (suc (first_of (λ k. q (suc k)) n)))
    at true true e f both = refl
    at true false e f both =
        let later = suc (first_of (λ k. q (suc k)) n) in
        let most : later ≡ max 0 later = omega arith in
        ap suc (first_congr (λ k. p (suc k) && q (suc k)) (λ k. q (suc k)) n (λ k. ap (λ b. b && q (suc k)) (stays p up e (suc k)))) ∙ most
    at false true e f both =
        ap suc (first_congr (λ k. p (suc k) && q (suc k)) (λ k. p (suc k)) n (λ k. ap (λ b. p (suc k) && b) (stays q also f (suc k)) ∙ and-true (p (suc k))))
        ∙ sym (max-zero (suc (first_of (λ k. p (suc k)) n)))
    at false false e f both = ap suc both ∙ sym (suc-max-suc (first_of (λ k. p (suc k)) n) (first_of (λ k. q (suc k)) n))
