-- How many rounds a workload takes.
use Rattle.std.proofs.Common.{◌≡◌, ℕ, zero, suc, ◌+◌, ◌*◌, ◌-◌, ◌/◌, ◌<◌, ◌≤◌, max, Bool, true, false, nat_lt, ltb-true, ltb-false, List, [], ◌∷◌, length, map, fold, Some, None, refl, sym, ap, ◌∙◌, arith, slice_get, div-lt_iff_lt-mul}
use Rattle.hs_run.proofs.Prelude.{suc-mul, Operation, PlainWorkload, IsValid, TheseAreAllRounds}
use Rattle.hs_law_journal.specs.Ends.{rounds_for, rounds_of}
use Rattle.hs_law_journal.proofs.Logs.{rounds_few}
use Rattle.hs_records.specs.declared.setting.Setting.TheVariants as settings

-- the most of a list, from a number on
most_low : {X : Type 0} (f : X → ℕ) (xs : List X) (from r : ℕ) → from ≤ r → ((i : ℕ) (x : X) → slice_get xs i ≡ Some x → f x ≤ r) → fold max from (map f xs) ≤ r
most_low f [] from r low each = low
most_low f (x ∷ xs) from r low each = let here = each 0 x refl in most_low f xs (max from (f x)) r (omega (arith, low, here)) (λ i. each (suc i))

most_from : {X : Type 0} (f : X → ℕ) (xs : List X) (from : ℕ) → from ≤ fold max from (map f xs)
most_from f [] from = omega arith
most_from f (x ∷ xs) from = let rest = most_from f xs (max from (f x)) in omega (arith, rest)

most_high : {X : Type 0} (f : X → ℕ) (xs : List X) (from i : ℕ) (x : X) → slice_get xs i ≡ Some x → f x ≤ fold max from (map f xs)
most_high f [] from i x at = let none : None ≡ Some x = at in absurd cc
most_high f (y ∷ xs) from zero x at =
    let same : Some y ≡ Some x = at in
    let is : y ≡ x = cc in
    let rest = most_from f xs (max from (f y)) in
    let e = ap f is in
    omega (arith, rest, e)
most_high f (y ∷ xs) from (suc i) x at = most_high f xs (max from (f y)) i x at

-- ---- of one client

needed : (stride operations before : ℕ) → 1 ≤ stride → before * stride < operations → suc before ≤ rounds_for stride operations
needed stride operations before some high = either (nat_lt ((operations + (stride - 1)) / stride) (suc before)) refl
  where
    either : (b : Bool) → nat_lt ((operations + (stride - 1)) / stride) (suc before) ≡ b → suc before ≤ (operations + (stride - 1)) / stride
    either true e =
        let less = (div-lt_iff_lt-mul {k = stride} {x = operations + (stride - 1)} {y = suc before} (omega (arith, some))).0 (ltb-true ((operations + (stride - 1)) / stride) (suc before) e) in
        let next : suc before * stride ≡ before * stride + stride = suc-mul before stride in
        absurd (omega (arith, some, high, less, next))
    either false e = ltb-false ((operations + (stride - 1)) / stride) (suc before) e

pub all_rounds : TheseAreAllRounds
all_rounds W rounds valid done last =
    let stride = W.settings.stride in
    let some = (valid.head settings.Stride).0 in
    let takes : List Operation → ℕ = λ ops. rounds_for stride (length ops) in
    let low : rounds_of W ≤ rounds = most_low takes W.clients 0 rounds (omega arith) (λ i ops at. rounds_few stride (length ops) rounds some (done i ops at)) in
    let high : rounds ≤ rounds_of W = needs rounds refl in
    omega (arith, low, high)
  where
    needs : (r : ℕ) → rounds ≡ r → rounds ≤ rounds_of W
    needs zero is = omega (arith, is)
    needs (suc before) is =
        let n = last before is in
        let one = needed W.settings.stride (length n.1) before (valid.head settings.Stride).0 n.3 in
        let most = most_high (λ (ops : List Operation). rounds_for W.settings.stride (length ops)) W.clients 0 n.0 n.1 n.2 in
        omega (arith, is, one, most)
