-- A workload that is short enough is done, where neither the source nor the sink failed.
use Rattle.std.proofs.Common.{◌≡◌, ℕ, ◌≤◌, List, length, Option, Some, ◌⊎◌, inl, inr, refl, sym, subst, arith}
use Rattle.hs_base.specs.Outside.{Rose}
use Rattle.hs_base.specs.declared.limits.TheConstants.{MAX_INPUT}
use Rattle.hs_records.specs.Plain.{PlainWorkload}
use Rattle.hs_workload.specs.Input.{ReadBeyond}
use Rattle.hs_workload.specs.declared.status.Status.{Status}
use Rattle.hs_workload.specs.declared.status.Status.TheVariants.{Done, Usage, Refused, ReadFault, WriteFault, Memory, TooLong, Unlawful}
use Rattle.hs_workload.proofs.Taking.{taken_whole, taken_beyond}
use Rattle.hs_workload.specs.Grammar.{Reads}
use Rattle.replay.specs.Endings.{Ends}

module _ (left left' written written' : Option (List ℕ)) (source source' sink sink' : ℕ) (input : List ℕ) (W : PlainWorkload) (is : left ≡ Some input) (reads : Reads input W)
    (short : length input ≤ MAX_INPUT) (steady : ¬ Rose source source') (still : ¬ Rose sink sink') where
  -- no more was read of it than an input may have
  fits : (bytes : List ℕ) → ReadBeyond left left' bytes → ⊥
  fits bytes beyond =
      let most = taken_beyond left left' input bytes is beyond in
      let long = beyond.long in
      absurd (omega (arith, most, long, short))

  pub completed : (result : Status) → Ends left left' written written' source source' sink sink' result → (result ≡ Done) ⊎ (result ≡ Memory)
  completed Done ends = inl refl
  completed Memory ends = inr refl
  completed Refused (none, (text, (bytes, whole, refused), gains)) =
      absurd (refused.no_workload W (subst (λ (t : List ℕ). Reads t W) (sym (taken_whole left left' input bytes is whole)) reads))
  completed TooLong (none, (text, (bytes, beyond, told), gains)) = absurd (fits bytes beyond)
  completed ReadFault ends = absurd (steady ends.0)
  completed WriteFault ends = absurd (still ends.1)
  completed Usage ends = absurd ends
  completed Unlawful ends = absurd ends
