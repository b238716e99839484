-- Lists whose items change one after another.
use Rattle.std.proofs.Common.{◌≡◌, ℕ, ◌+◌, ◌≤◌, List, set, length, length-set, Some, refl, sym, ap, subst, ◌∙◌, inl, inr, arith, slice_get}
use Rattle.hs_run.proofs.Prelude.{same_Some, slice_get_within, same_or_less, get_set_cases, get_other, EachChanged, FirstChanged}

module _ {A : Type 0} (Changes : ℕ → A → A → Type 0) where
  pub first_none : (xs : List A) → FirstChanged Changes 0 xs xs
  first_none xs = record { many = refl; first = λ n x y low at at'. absurd (omega (arith, low)); others = λ n high. refl }

  pub first_more : (n : ℕ) (old mid : List A) (x y : A) → FirstChanged Changes n old mid → slice_get mid n ≡ Some x → Changes n x y → FirstChanged Changes (n + 1) old (set mid n y)
  first_more n old mid x y h at changes =
      record {
        many = length-set mid n y ∙ h.many;
        first = λ k a b low was now.
            elim (get_set_cases mid n k x y b at now) [
              | inl e ↦
                  let stood : slice_get old k ≡ Some x = ap (slice_get old) (sym e.0) ∙ sym (h.others n (omega arith)) ∙ at in
                  subst (λ (z : A). Changes k a z) e.1 (subst (λ (z : A). Changes k z y) (same_Some x a (sym stood ∙ was)) (subst (λ (i : ℕ). Changes i x y) e.0 changes))
              | inr e ↦
                  elim (same_or_less k n (omega (arith, low))) [
                    | inl less ↦ h.first k a b less was e.1
                    | inr same ↦ absurd (e.0 (sym same))
                  ]
            ];
        others = λ k high. get_other mid n k y (λ e. omega (arith, e, high)) ∙ h.others k (omega (arith, high));
      }

  pub first_all : (n : ℕ) (old new : List A) → length old ≤ n → FirstChanged Changes n old new → EachChanged Changes old new
  first_all n old new high h = record { many = h.many; each = λ k x y at at'. let low = slice_get_within old k x at in h.first k x y (omega (arith, low, high)) at at' }
