-- Each claim is looked at before a round is over.
use Rattle.std.proofs.Common.{◌≡◌, ℕ, zero, suc, ◌+◌, ◌-◌, ◌<◌, ◌≤◌, true, false, length, refl, ap, arith, ◌∙◌}
use Rattle.std.specs.Prelude.{nat_lt, nat_le, if◌then◌else◌}
use Rattle.hs_base.proofs.Bools.{by_answer}
use Rattle.hs_claimed.specs.Claims.{PlainClaims}
use Rattle.hs_claimed.specs.Lives.{steps_on, ComesRound}

same_claims : (n : ℕ) (s : PlainClaims) → (steps_on n s).claims ≡ s.claims
same_claims zero s = refl
same_claims (suc n) s = same_claims n s

below : (m n : ℕ) → m < n → nat_lt m n ≡ true
below m n less = grind (arith, less)

above : (m n : ℕ) → n ≤ m → nat_lt m n ≡ false
above m n less = grind (arith, less)

-- the place after so many steps
next : (n : ℕ) (s : PlainClaims) → (steps_on (suc n) s).place ≡ (if nat_lt ((steps_on n s).place + 1) (length s.claims) then (steps_on n s).place + 1 else 0)
next n s = ap (λ m. if nat_lt ((steps_on n s).place + 1) m then (steps_on n s).place + 1 else 0) (ap length (same_claims n s))

-- up to the last
up : (n : ℕ) (s : PlainClaims) → s.place + n < length s.claims → (steps_on n s).place ≡ s.place + n
up zero s low = omega arith
up (suc n) s low =
    let rest = up n s (omega (arith, low)) in
    let more : nat_lt ((steps_on n s).place + 1) (length s.claims) ≡ true = below _ _ (omega (arith, rest, low)) in
    next n s ∙ ap (λ b. if b then (steps_on n s).place + 1 else 0) more ∙ (omega (arith, rest))

-- and on from the first
on : (n k : ℕ) (s : PlainClaims) → s.place + n + 1 ≡ length s.claims → k < length s.claims → (steps_on (n + 1 + k) s).place ≡ k
on n zero s last low =
    let rest = up n s (omega (arith, last)) in
    let none : nat_lt ((steps_on n s).place + 1) (length s.claims) ≡ false = above _ _ (omega (arith, rest, last)) in
    let count : n + 1 + 0 ≡ suc n = omega arith in
    ap (λ m. (steps_on m s).place) count ∙ next n s ∙ ap (λ b. if b then (steps_on n s).place + 1 else 0) none
on n (suc k) s last low =
    let rest = on n k s last (omega (arith, low)) in
    let more : nat_lt ((steps_on (n + 1 + k) s).place + 1) (length s.claims) ≡ true = below _ _ (omega (arith, rest, low)) in
    let count : n + 1 + suc k ≡ suc (n + 1 + k) = omega arith in
    ap (λ m. (steps_on m s).place) count ∙ next (n + 1 + k) s ∙ ap (λ b. if b then (steps_on (n + 1 + k) s).place + 1 else 0) more ∙ (omega (arith, rest))

pub comes_round : (s : PlainClaims) (place : ℕ) → s.place < length s.claims → place < length s.claims → ComesRound s place
comes_round s place here there =
    by_answer (nat_le s.place place)
    (λ y. let ahead : s.place ≤ place = grind (arith, y) in
    record {
      steps = place - s.place;
      few = omega (arith, ahead, there);
      there = up (place - s.place) s (omega (arith, ahead, there)) ∙ (omega (arith, ahead));
    })
    (λ n. let behind : place < s.place = grind (arith, n) in
    record {
      steps = length s.claims - s.place - 1 + 1 + place;
      few = omega (arith, behind, here);
      there = on (length s.claims - s.place - 1) place s (omega (arith, here)) there;
    })
