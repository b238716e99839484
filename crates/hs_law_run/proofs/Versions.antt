-- No step of the schedule looks at the version.
use Rattle.std.proofs.Common.{◌≡◌, ℕ, zero, suc, Bool, true, false, refl, ap, ◌∙◌}
use Rattle.hs_law_run.proofs.Prelude.{PlainWorkload, is_bare, rounds_of, played, Machine, passes, round, rounds, closing, closing_limit, machine_start}
use Rattle.hs_law_run.specs.OneSchedule.{VersionsHaveOneSchedule}

module _ (W : PlainWorkload) (version : ℕ) where
  abbrev other : PlainWorkload
  other = record W { version = version }

  same_rounds : (n : ℕ) (m : Machine) → rounds n other m ≡ rounds n W m
  same_rounds zero m = refl
  same_rounds (suc n) m = same_rounds n (round W m)

  closing_case : (n : ℕ) (m : Machine) (b : Bool) → closing n other (passes W m) ≡ closing n W (passes W m)
      → elim b as (λ _. Machine) [ true ↦ m | false ↦ closing n other (passes W m) ] ≡ elim b as (λ _. Machine) [ true ↦ m | false ↦ closing n W (passes W m) ]
  closing_case n m true e = refl
  closing_case n m false e = e

  same_closing : (n : ℕ) (m : Machine) → closing n other m ≡ closing n W m
  same_closing zero m = refl
  same_closing (suc n) m = closing_case n m (is_bare (played W m.journal)) (same_closing n (passes W m))

pub versions_have_one_schedule : VersionsHaveOneSchedule
versions_have_one_schedule W version =
    ap (λ (m : Machine). (closing (closing_limit W) (record W { version = version }) m).journal) (same_rounds W version (rounds_of W) (machine_start W))
    ∙ ap (λ (m : Machine). m.journal) (same_closing W version (closing_limit W) (rounds (rounds_of W) W (machine_start W)))
