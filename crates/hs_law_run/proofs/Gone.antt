-- How far the clients are at each stage.
use Rattle.std.proofs.Common.{◌≡◌, ℕ, zero, suc, ◌+◌, ◌*◌, ◌<◌, ◌≤◌, min, Bool, true, false, cond, length, refl, ap, ◌∙◌, arith, nat_lt, ltb-true, ltb-false}
use Rattle.hs_law_run.proofs.Prelude.{mul-le-mul_right, PlainWorkload, operations_at, rounds_of, IsLaidOut, Known, Machine, machine_start, done_at, clients_go}
use Rattle.hs_law_run.proofs.Shapes.{all_covered, begins, rounds_go}
use Rattle.hs_law_run.proofs.Stages.{stage_is_round}
use Rattle.hs_law_run.specs.Told.{stage}

module _ (known : Known) (W : PlainWorkload) (laid : IsLaidOut W) (place : ℕ) (low : place < length W.clients) where
  abbrev all : ℕ
  all = length (operations_at W place)

  in_rounds : (p : ℕ) → p ≤ rounds_of W → done_at (stage W p) place ≡ min (p * W.settings.stride) all
  in_rounds p few =
      let zeroth : 0 + p ≡ p = omega arith in
      ap (λ (m : Machine). done_at m place) (stage_is_round W p few) ∙ (rounds_go known W laid p 0 (machine_start W) (begins known W laid)).done place low ∙ ap (λ n. min (n * W.settings.stride) all) zeroth

  behind : (p : ℕ) → rounds_of W ≤ p → done_at (stage W p) place ≡ min (p * W.settings.stride) all → done_at (stage W (suc p)) place ≡ min (suc p * W.settings.stride) all
  behind p high was =
      let cover = all_covered known W laid place low in
      let more = mul-le-mul_right W.settings.stride high in
      let next : p * W.settings.stride ≤ suc p * W.settings.stride = (let less : p ≤ suc p = omega arith in mul-le-mul_right W.settings.stride less) in
      let still = ap (λ b. done_at (cond b (clients_go W (stage W p)) (stage W p)) place) (late (nat_lt p (rounds_of W)) refl) in
      omega (arith, still, was, cover, more, next)
    where
      late : (b : Bool) → nat_lt p (rounds_of W) ≡ b → nat_lt p (rounds_of W) ≡ false
      late true e = let less = ltb-true p (rounds_of W) e in absurd (omega (arith, less, high))
      late false e = e

  pub done_is : (p : ℕ) → done_at (stage W p) place ≡ min (p * W.settings.stride) all
  done_is zero = in_rounds zero (omega arith)
  done_is (suc p) = either (nat_lt p (rounds_of W)) refl (done_is p)
    where
      either : (b : Bool) → nat_lt p (rounds_of W) ≡ b → done_at (stage W p) place ≡ min (p * W.settings.stride) all → done_at (stage W (suc p)) place ≡ min (suc p * W.settings.stride) all
      either true e was = let less = ltb-true p (rounds_of W) e in in_rounds (suc p) (omega (arith, less))
      either false e was = behind p (ltb-false p (rounds_of W) e) was
