-- Worked examples of the faults of texts and of lines after the lines before them.
use Rattle.std.specs.Prelude.{◌≡◌, ℕ, List, [], ◌∷◌, ◌++◌, take, codes, Some, None, refl}
use Rattle.std.specs.Fmt.{digits}
use Rattle.hs_base.specs.declared.limits.TheConstants.{MAX_BUFFERS}
use Rattle.hs_text.specs.Text.{text_of}
use Rattle.hs_text.specs.Spelling.{spelled}
use Rattle.hs_text.specs.Judging.{first_fault_in}
use Rattle.hs_records.specs.declared.journal.Draw.TheVariants as draws
use Rattle.hs_journal.specs.declared.refusal.JournalReason.TheVariants as reasons
use Rattle.hs_journal.specs.Statements.{statement_line, draw_statement}
use Rattle.hs_journal.specs.Grammar.{second_draw_empty_lines}
use Rattle.hs_journal.specs.Faults.{fault_at, fault_of, first_fault, refusal_at}

no_fault_in_a_journal : first_fault (text_of second_draw_empty_lines) ≡ None
unfolding first_fault first_fault_in fault_at spelled
no_fault_in_a_journal = refl

-- without its last line, within that line, and with nothing
cut_off : (first_fault (text_of (take 8 second_draw_empty_lines)) ≡ Some (refusal_at 9 reasons.Truncated))
    × (first_fault (text_of (take 8 second_draw_empty_lines) ++ codes "end") ≡ Some (refusal_at 9 reasons.Truncated))
    × (first_fault [] ≡ Some (refusal_at 1 reasons.Truncated))
unfolding first_fault first_fault_in fault_at spelled
cut_off = (refl, refl, refl)

-- after `end` no line may stand, but the reasons before that one come first
after_the_end : (first_fault (text_of (second_draw_empty_lines ++ codes "end" ∷ [])) ≡ Some (refusal_at 10 reasons.Word))
    × (first_fault (text_of (second_draw_empty_lines ++ [] ∷ [])) ≡ Some (refusal_at 10 reasons.Spaces))
    × (first_fault (text_of second_draw_empty_lines ++ codes "end") ≡ Some (refusal_at 10 reasons.Truncated))
unfolding first_fault first_fault_in fault_at spelled
after_the_end = (refl, refl, refl)

first_lines : (fault_of [] (codes "journal 2 1 1") ≡ Some reasons.Range) × (fault_of [] (codes "journal 1 17 1") ≡ Some reasons.Range)
    × (fault_of [] (codes "journal 1 1 0") ≡ Some reasons.Range) × (fault_of [] (codes "journal 01 1") ≡ Some reasons.Count)
    × (fault_of [] (codes "journal 01 1 0") ≡ Some reasons.Number) × (fault_of [] (codes "draws 0 0") ≡ Some reasons.Word)
    × (fault_of [] (codes "journal 1 16 16") ≡ None)
unfolding fault_at spelled
first_lines = (refl, refl, refl, refl, refl, refl, refl)

abbrev in_draws : List (List ℕ)
in_draws = codes "got 0 4" ∷ codes "draws 0 0" ∷ codes "journal 1 1 2" ∷ []

lines_in_draws : (fault_of in_draws (codes "draws 0 1") ≡ None) × (fault_of in_draws (codes "draws 1 0") ≡ Some reasons.Order)
    × (fault_of in_draws (codes "draws 0 99999999999999999999") ≡ Some reasons.Number) × (fault_of in_draws (codes "log 0") ≡ Some reasons.Word)
    × (fault_of in_draws (statement_line (draw_statement (draws.Got MAX_BUFFERS 0))) ≡ Some reasons.Range) × (fault_of in_draws (codes "got 1023 18446744073709551615") ≡ None)
    × (fault_of (codes "draws 0 1" ∷ in_draws) (codes "draws 0 2") ≡ Some reasons.Word) × (fault_of (codes "draws 0 1" ∷ in_draws) (codes "log 1") ≡ Some reasons.Order)
    × (fault_of (codes "draws 0 1" ∷ in_draws) (codes "log 0") ≡ None)
unfolding fault_at spelled digits
lines_in_draws = (refl, refl, refl, refl, refl, refl, refl, refl, refl)

abbrev in_logs : List (List ℕ)
in_logs = codes "turn" ∷ codes "log 0" ∷ codes "draws 1 0" ∷ codes "draws 0 0" ∷ codes "journal 1 2 1" ∷ []

lines_in_logs : (fault_of in_logs (codes "chunk 1") ≡ Some reasons.Range) × (fault_of in_logs (codes "trigger 0") ≡ None)
    × (fault_of in_logs (codes "coordinator") ≡ Some reasons.Word) × (fault_of in_logs (codes "got 0 1") ≡ Some reasons.Word)
    × (fault_of in_logs (codes "turn 1") ≡ Some reasons.Count) × (fault_of (codes "log 1" ∷ in_logs) (codes "coordinator") ≡ None)
    × (fault_of (codes "log 1" ∷ in_logs) (codes "log 2") ≡ Some reasons.Word)
unfolding fault_at spelled
lines_in_logs = (refl, refl, refl, refl, refl, refl, refl)

abbrev in_order : List (List ℕ)
in_order = codes "coordinator" ∷ codes "log 1" ∷ in_logs

lines_in_order : (fault_of in_order (codes "told 1") ≡ None) × (fault_of in_order (codes "told 2") ≡ Some reasons.Range)
    × (fault_of in_order (codes "turn") ≡ Some reasons.Word) × (fault_of in_order (codes "end") ≡ None)
    × (fault_of (codes "told 0" ∷ in_order) (codes "coordinator") ≡ Some reasons.Word)
unfolding fault_at spelled
lines_in_order = (refl, refl, refl, refl, refl)
