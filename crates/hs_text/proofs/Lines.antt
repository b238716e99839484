-- The spaces of a line, looked at byte by byte.
use Rattle.std.proofs.Common.{◌≡◌, ℕ, ◌≤◌, Bool, true, false, ◌||◌, cond, nat_eq, List, [], ◌∷◌, length, drop, Some, None, refl, sym, ap, ◌∙◌, arith}
use Rattle.std.specs.List.{list_any, onto_first}
use Rattle.std.proofs.lemmas.List.{drop_all}
use borrow.Author.Tests.{ne_eqb}
use Rattle.hs_text.specs.Text.{words_of, has_bad_byte, has_bad_spaces}
use Rattle.hs_text.specs.declared.reading.LineFault.TheVariants.{Byte, Spaces}
use Rattle.hs_text.specs.LineFaults.{line_fault_of}

-- whether words have a gap, by their bytes from one on: the byte before may be a space, as the line's start is taken for
abbrev pub has_gap : Bool → List ℕ → Bool
has_gap before [] = before
has_gap before (b ∷ line) = cond (nat_eq b 32) (before || has_gap true line) (has_gap false line)

abbrev pub is_empty : List ℕ → Bool
is_empty word = nat_eq (length word) 0

-- whether a word behind the first is empty
abbrev pub later_empty : List (List ℕ) → Bool
later_empty [] = false
later_empty (word ∷ words) = list_any is_empty words

pub record Gaps (line : List ℕ) : Type 0 where
  pub spaced : has_gap true line ≡ has_bad_spaces line
  pub joined : has_gap false line ≡ later_empty (words_of line)

step_spaced : (b : ℕ) (line : List ℕ) (words : List (List ℕ)) (is : Bool) → has_gap false line ≡ later_empty words
    → cond is true (has_gap false line) ≡ list_any is_empty (cond is ([] ∷ words) (onto_first b words))
step_spaced b line words true joined = refl
step_spaced b line [] false joined = joined
step_spaced b line (word ∷ words) false joined = joined ∙ sym (ap (λ (e : Bool). e || list_any is_empty words) (ne_eqb (length (b ∷ word)) 0 (λ e. omega (arith, e))))

step_joined : (b : ℕ) (line : List ℕ) (words : List (List ℕ)) (is : Bool) → has_gap true line ≡ list_any is_empty words → has_gap false line ≡ later_empty words
    → cond is (has_gap true line) (has_gap false line) ≡ later_empty (cond is ([] ∷ words) (onto_first b words))
step_joined b line words true spaced joined = spaced
step_joined b line [] false spaced joined = joined
step_joined b line (word ∷ words) false spaced joined = joined

pub gaps : (line : List ℕ) → Gaps line
gaps [] = record { spaced = refl; joined = refl }
gaps (b ∷ line) =
    let rest = gaps line in
    record { spaced = step_spaced b line (words_of line) (nat_eq b 32) rest.joined; joined = step_joined b line (words_of line) (nat_eq b 32) rest.spaced rest.joined }

-- the end of the line: what was found is what is wrong
pub ended : (line : List ℕ) (i : ℕ) (gap before : Bool) → length line ≤ i → has_bad_byte line ≡ has_bad_byte (drop i line) → has_gap true line ≡ (gap || has_gap before (drop i line))
    → line_fault_of line ≡ cond (gap || before) (Some Spaces) None
ended line i gap before past bytes found =
    let none = drop_all i line past in
    let printed : has_bad_byte line ≡ false = bytes ∙ ap has_bad_byte none in
    let spaced : has_bad_spaces line ≡ (gap || before) = sym (gaps line).spaced ∙ found ∙ ap (λ rest. gap || has_gap before rest) none in
    ap (λ (bad : Bool). cond bad (Some Byte) (cond (has_bad_spaces line) (Some Spaces) None)) printed ∙ ap (λ (bad : Bool). cond bad (Some Spaces) None) spaced
