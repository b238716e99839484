-- What is written of an input that is not worked on: it is no workload, or it has more bytes than an input may have.
use Rattle.std.specs.Prelude.{◌≡◌, ℕ, List, [], ◌∷◌, ◌++◌, Some, codes, decimal, refl}
use Rattle.std.specs.Fmt.{digits}
use Rattle.hs_base.specs.declared.limits.TheConstants.{MAX_INPUT}
use Rattle.hs_records.specs.Plain.{PlainWorkload}
use Rattle.hs_text.specs.Text.{line_of, text_of}
use Rattle.hs_workload.specs.Faults.{first_fault}
use Rattle.hs_workload.specs.Reasons.{reason_text}
use Rattle.hs_workload.specs.Grammar.{Reads}
use Rattle.hs_workload.specs.declared.refusal.Reason.{Reason}
use Rattle.hs_workload.specs.declared.refusal.Reason.TheVariants.{NoTrace}
use Rattle.hs_workload.specs.declared.refusal.Refusal.{Refusal}

abbrev pub too_long_text : List ℕ
too_long_text = text_of (line_of (codes "refused" ∷ codes "input" ∷ codes "longer" ∷ codes "than" ∷ decimal MAX_INPUT ∷ codes "bytes" ∷ []) ∷ [])

-- what is written of an input whose first bad line is this one, for this reason
abbrev pub refusal_text : ℕ → Reason → List ℕ
refusal_text line reason = text_of (line_of (codes "refused" ∷ codes "line" ∷ decimal line ∷ reason_text reason ∷ []) ∷ [])

-- The input is no workload, and this text names its first bad line with the line's first reason.
pub record IsRefused (input text : List ℕ) : Type 0 where
  pub refusal : Refusal
  pub first : first_fault input ≡ Some refusal
  pub no_workload : (W : PlainWorkload) → Reads input W → ⊥
  pub told : text ≡ refusal_text refusal.line refusal.reason

-- worked examples
longer_than_16777216 : too_long_text ≡ codes "refused input longer than 16777216 bytes" ++ 10 ∷ []
unfolding digits
longer_than_16777216 = refl

refused_line_11 : refusal_text 11 NoTrace ≡ codes "refused line 11 NoTrace" ++ 10 ∷ []
unfolding digits
refused_line_11 = refl
