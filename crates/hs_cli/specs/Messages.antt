-- The texts that are written in place of an output.
use Rattle.std.specs.Prelude.{◌≡◌, ℕ, List, [], ◌∷◌, ◌++◌, codes, decimal, refl}
use Rattle.std.specs.Fmt.{digits}
use Rattle.hs_text.specs.Text.{line_of, text_of}
use Rattle.hs_journal.specs.declared.refusal.JournalReason.{JournalReason}
use Rattle.hs_journal.specs.declared.refusal.JournalReason.TheVariants.{Truncated}
use Rattle.hs_journal.specs.Reasons.{reason_text as journal_reason_text}
use Rattle.hs_check.specs.Clauses.{clause_word}

abbrev pub usage_text : List ℕ
usage_text = text_of (codes "usage: hindsight replay [--json] | run [--json] | run --watch | make SEED SIZE | drill SEED SIZE | convert | check | compare H B" ∷ [])

-- what is written of a journal behind a workload whose first bad line is this one, for this reason; the journal's first line is line 1
abbrev pub journal_refusal_text : ℕ → JournalReason → List ℕ
journal_refusal_text line reason = text_of (line_of (codes "refused" ∷ codes "journal" ∷ codes "line" ∷ decimal line ∷ journal_reason_text reason ∷ []) ∷ [])

-- what is written of a journal where the clause of this number is the first that fails
abbrev pub unlawful_text : ℕ → List ℕ
unlawful_text number = text_of (line_of (codes "unlawful" ∷ clause_word number ∷ []) ∷ [])

refused_journal_line_1 : journal_refusal_text 1 Truncated ≡ codes "refused journal line 1 Truncated" ++ 10 ∷ []
unfolding digits
refused_journal_line_1 = refl

the_eleventh_fails : unlawful_text 11 ≡ codes "unlawful L11" ++ 10 ∷ []
unfolding digits
the_eleventh_fails = refl
