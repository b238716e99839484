-- The trace of a round more.
use Rattle.std.proofs.Common.{◌≡◌, inl, inr, ℕ, suc, ◌<◌, refl, sym, subst, ◌∙◌, arith}
use Rattle.hs_run.proofs.Prelude.{PlainWorkload, RunState, Came}
use Rattle.hs_base.proofs.Numbers.{same_or_less}
use Rattle.hs_base.proofs.Updates.{put, put_here, put_else}
use Rattle.hs_run.specs.RunStates.{IsBegun}
use Rattle.hs_run.specs.Acting.{Acts}
use Rattle.hs_run.specs.Meeting.{AllMeet}
use Rattle.hs_run.specs.Moving.{Moves}
use Rattle.hs_run.specs.Coming.{NoRoundsCome, RoundsGoOn, RoundsKeepWhatCame}

pub no_rounds_come : NoRoundsCome
no_rounds_come W m begun =
    (record { at = λ _. m; acted = λ _. m; met = λ _. m; begun = begun; acts = λ k low. absurd (omega arith); meets = λ k low. absurd (omega arith); moves = λ k low. absurd (omega arith); last = refl }, refl)

module _ (W : PlainWorkload) (rounds : ℕ) (m acted met m' : RunState) (came : Came W rounds m) where
  at : ℕ → RunState
  at = put came.at (suc rounds) m'

  at_new : at (suc rounds) ≡ m'
  unfolding at
  at_new = put_here came.at (suc rounds) m'

  at_old : (k : ℕ) → k < suc rounds → at k ≡ came.at k
  unfolding at
  at_old k low = put_else came.at (suc rounds) m' k (λ e. omega (arith, e, low))

  at_end : at rounds ≡ m
  at_end = at_old rounds (omega arith) ∙ came.last

  acted_at : ℕ → RunState
  acted_at = put came.acted rounds acted

  met_at : ℕ → RunState
  met_at = put came.met rounds met

  acts : Acts W m acted → (k : ℕ) → k < suc rounds → Acts W (at k) (acted_at k)
  unfolding acted_at
  acts new k low =
      elim (same_or_less k rounds low) [
        | inl less ↦
            subst (λ (a : RunState). Acts W a (put came.acted rounds acted k)) (sym (at_old k low))
            (subst (Acts W (came.at k)) (sym (put_else came.acted rounds acted k (λ e. omega (arith, e, less)))) (came.acts k less))
        | inr same ↦
            subst (λ (n : ℕ). Acts W (at n) (put came.acted rounds acted n)) (sym same)
            (subst (λ (a : RunState). Acts W a (put came.acted rounds acted rounds)) (sym at_end)
            (subst (Acts W m) (sym (put_here came.acted rounds acted)) new))
      ]

  meets : AllMeet W acted met → (k : ℕ) → k < suc rounds → AllMeet W (acted_at k) (met_at k)
  unfolding acted_at met_at
  meets new k low =
      elim (same_or_less k rounds low) [
        | inl less ↦
            subst (λ (a : RunState). AllMeet W a (put came.met rounds met k)) (sym (put_else came.acted rounds acted k (λ e. omega (arith, e, less))))
            (subst (AllMeet W (came.acted k)) (sym (put_else came.met rounds met k (λ e. omega (arith, e, less)))) (came.meets k less))
        | inr same ↦
            subst (λ (n : ℕ). AllMeet W (put came.acted rounds acted n) (put came.met rounds met n)) (sym same)
            (subst (λ (a : RunState). AllMeet W a (put came.met rounds met rounds)) (sym (put_here came.acted rounds acted))
            (subst (AllMeet W acted) (sym (put_here came.met rounds met)) new))
      ]

  moves : Moves W met m' → (k : ℕ) → k < suc rounds → Moves W (met_at k) (at (suc k))
  unfolding met_at
  moves new k low =
      elim (same_or_less k rounds low) [
        | inl less ↦
            subst (λ (a : RunState). Moves W a (at (suc k))) (sym (put_else came.met rounds met k (λ e. omega (arith, e, less))))
            (subst (Moves W (came.met k)) (sym (at_old (suc k) (omega (arith, less)))) (came.moves k less))
        | inr same ↦
            subst (λ (n : ℕ). Moves W (put came.met rounds met n) (at (suc n))) (sym same)
            (subst (λ (a : RunState). Moves W a (at (suc rounds))) (sym (put_here came.met rounds met))
            (subst (Moves W met) (sym at_new) new))
      ]

  goes_on : Acts W m acted → AllMeet W acted met → Moves W met m' → (next : Came W (suc rounds) m') × (next.at 0 ≡ came.at 0)
  goes_on act meet move = (
    record {
      at = at;
      acted = acted_at;
      met = met_at;
      begun = subst (IsBegun W) (sym (at_old 0 (omega arith))) came.begun;
      acts = acts act;
      meets = meets meet;
      moves = moves move;
      last = at_new;
    },
    at_old 0 (omega arith),
  )

  keeps : Acts W m acted → AllMeet W acted met → Moves W met m' → (next : Came W (suc rounds) m') × ((k : ℕ) → k < suc rounds → next.at k ≡ came.at k)
  unfolding goes_on at
  keeps act meet move = ((goes_on act meet move).0, at_old)

pub rounds_keep_what_came : RoundsKeepWhatCame
rounds_keep_what_came W rounds m acted met m' came = keeps W rounds m acted met m' came

pub rounds_go_on : RoundsGoOn
rounds_go_on W rounds m acted met m' came = goes_on W rounds m acted met m' came
