-- Readers whose boards are compared one after another with what a writer showed.
use Rattle.std.proofs.Common.{◌≡◌, ℕ, ◌+◌, ◌<◌, ◌≤◌, inl, inr, List, length, length-set, set, slice_get, Some, refl, sym, ap, subst, ◌∙◌, arith}
use Rattle.std.proofs.lemmas.Option.{same_Some, slice_get_within}
use Rattle.std.specs.List.{AllByRecursion}
use Rattle.hs_base.proofs.Alls.{all_by_place}
use Rattle.hs_base.proofs.Numbers.{same_or_less}
use Rattle.hs_base.proofs.Places.{get_other, get_set_cases}
use Rattle.hs_board.specs.declared.progress.Progress.{Progress}
use Rattle.hs_board.specs.Looking.{Looking}
use Rattle.hs_board.specs.Shown.{IsFront}

-- The first so many readers knew a beginning of this, and know all of it now. The others are as they were.
pub record FirstKnow (all : List Progress) (count : ℕ) (old new : List Looking) : Type 0 where
  pub many : length new ≡ length old
  pub knew : (place : ℕ) (x : Looking) → place < count → slice_get old place ≡ Some x → IsFront x.known all
  pub know : (place : ℕ) (y : Looking) → place < count → slice_get new place ≡ Some y → y.known ≡ all
  pub others : (place : ℕ) → count ≤ place → slice_get new place ≡ slice_get old place

module _ (all : List Progress) where
  pub none_know : (old : List Looking) → FirstKnow all 0 old old
  none_know old = record { many = refl; knew = λ k x low at. absurd (omega (arith, low)); know = λ k y low at. absurd (omega (arith, low)); others = λ k high. refl }

  pub one_knows : (n : ℕ) (old mid : List Looking) (x y : Looking) → FirstKnow all n old mid → slice_get mid n ≡ Some x → IsFront x.known y.known → y.known ≡ all → FirstKnow all (n + 1) old (set mid n y)
  one_knows n old mid x y h at front same =
      record {
        many = length-set mid n y ∙ h.many;
        knew = λ k z low was.
            elim (same_or_less k n (omega (arith, low))) [
              | inl less ↦ h.knew k z less was
              | inr here ↦
                  let stood : slice_get old k ≡ Some x = ap (slice_get old) here ∙ sym (h.others n (omega arith)) ∙ at in
                  subst (λ (l : Looking). IsFront l.known all) (same_Some x z (sym stood ∙ was)) (subst (IsFront x.known) same front)
            ];
        know = λ k z low now.
            elim (get_set_cases mid n k x y z at now) [
              | inl e ↦ subst (λ (l : Looking). l.known ≡ all) e.1 same
              | inr e ↦
                  elim (same_or_less k n (omega (arith, low))) [
                    | inl less ↦ h.know k z less e.1
                    | inr here ↦ absurd (e.0 (sym here))
                  ]
            ];
        others = λ k high. get_other mid n k y (λ e. omega (arith, e, high)) ∙ h.others k (omega (arith, high));
      }

  pub all_knew : (n : ℕ) (old new : List Looking) → length old ≤ n → FirstKnow all n old new → AllByRecursion (λ (reader : Looking). IsFront reader.known all) old
  all_knew n old new high h = all_by_place (λ (reader : Looking). IsFront reader.known all) old (λ k x at. let low = slice_get_within old k x at in h.knew k x (omega (arith, low, high)) at)

  pub all_know : (n : ℕ) (old new : List Looking) → length old ≤ n → FirstKnow all n old new → AllByRecursion (λ (reader : Looking). reader.known ≡ all) new
  all_know n old new high h =
      all_by_place (λ (reader : Looking). reader.known ≡ all) new (λ k y at. let low = slice_get_within new k y at in let many = h.many in h.know k y (omega (arith, low, high, many)) at)
