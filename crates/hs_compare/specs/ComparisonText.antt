-- The text of a comparison: a line for each sampler, one that says where the rest went, and the end.
use Rattle.std.specs.Prelude.{◌≡◌, ℕ, List, [], ◌∷◌, codes, decimal, refl}
use Rattle.std.specs.Fmt.{digits}
use Rattle.hs_compare.specs.Lines.{PlainLine, PlainComparison}
use Rattle.hs_text.specs.Text.{line_of, text_of}

-- the line of the sampler that has this name
abbrev pub sampler_line : List ℕ → PlainLine → List ℕ
sampler_line name line =
    line_of (name ∷ codes "records" ∷ decimal line.records ∷ codes "traces" ∷ decimal line.traces ∷ codes "whole" ∷ decimal line.whole ∷ codes "shipped" ∷ decimal line.shipped ∷ [])

abbrev pub rest_line : (gap limited : ℕ) → List ℕ
rest_line gap limited = line_of (codes "rest" ∷ codes "gap" ∷ decimal gap ∷ codes "limited" ∷ decimal limited ∷ [])

abbrev pub comparison_text : PlainComparison → List ℕ
comparison_text c =
    text_of (
    sampler_line (codes "head") c.head ∷ sampler_line (codes "tail") c.tail ∷ sampler_line (codes "ring") c.ring ∷ sampler_line (codes "hindsight") c.hindsight
    ∷ rest_line c.gap c.limited ∷ codes "done" ∷ []
    )

-- ---- examples

a_line : sampler_line (codes "ring") (record { records = 1; traces = 2; whole = 0; shipped = 34 }) ≡ codes "ring records 1 traces 2 whole 0 shipped 34"
unfolding digits
a_line = refl

a_rest : rest_line 12 0 ≡ codes "rest gap 12 limited 0"
unfolding digits
a_rest = refl
