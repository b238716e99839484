-- How many rounds a valid workload takes, at most.
use Rattle.std.proofs.Common.{◌≡◌, ℕ, zero, suc, ◌+◌, ◌-◌, ◌*◌, ◌/◌, ◌^◌, ◌<◌, ◌≤◌, List, [], ◌∷◌, length, map, sym, subst, max, fold, arith, ◌⊎◌, inl, inr}
use Rattle.hs_check_follow.proofs.Prelude.{MAX_OPERATIONS, rounds_for, rounds_of, Operation, PlainWorkload, IsValid, workload_pieces, operations_few}
use Rattle.std.proofs.Math.Nat.{div-mul-le_self, max-eq_left, max-eq_right}
use Rattle.hs_records.specs.declared.setting.Setting.TheVariants as settings

one_below : (a b : ℕ) → (a ≤ b) ⊎ (b ≤ a)
one_below zero b = inl (omega arith)
one_below (suc a) zero = inr (omega arith)
one_below (suc a) (suc b) = elim (one_below a b) [ inl h ↦ inl (omega (arith, h)) | inr h ↦ inr (omega (arith, h)) ]

max_within : (a b stride limit : ℕ) → a * stride ≤ limit → b * stride ≤ limit → max a b * stride ≤ limit
max_within a b stride limit low high = elim (one_below a b) [
  | inl below ↦ subst (λ (n : ℕ). n * stride ≤ limit) (sym (max-eq_right below)) high
  | inr above ↦ subst (λ (n : ℕ). n * stride ≤ limit) (sym (max-eq_left above)) low
]

rounds_within : (size stride limit n : ℕ) (clients : List (List Operation)) → 1 ≤ stride → workload_pieces size clients ≤ limit → n * stride ≤ limit + stride
    → fold max n (map (λ ops. rounds_for stride (length ops)) clients) * stride ≤ limit + stride
rounds_within size stride limit n [] some few low = low
rounds_within size stride limit n (ops ∷ clients) some few low =
    rounds_within size stride limit (max n (rounds_for stride (length ops))) clients some (omega (arith, few))
    (max_within n (rounds_for stride (length ops)) stride (limit + stride) low one)
  where
    one : rounds_for stride (length ops) * stride ≤ limit + stride
    one = omega (arith, operations_few size ops, few, div-mul-le_self (length ops + (stride - 1)) stride)

pub rounds_fit : (W : PlainWorkload) → IsValid W → rounds_of W * W.settings.stride < 2 ^ 64
rounds_fit W valid =
    let stride = valid.head settings.Stride in
    omega (arith, stride.0, stride.1, rounds_within W.settings.size W.settings.stride MAX_OPERATIONS 0 W.clients stride.0 valid.few (omega arith))
