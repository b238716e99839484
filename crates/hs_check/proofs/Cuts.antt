-- How far a part goes, line by line.
use Rattle.std.proofs.Common.{◌≡◌, ◌≢◌, ℕ, ◌+◌, ◌≤◌, Bool, true, false, not, cond, nat_eq, List, [], ◌∷◌, ◌++◌, length, take, add-zero, refl, sym, ap, ◌∙◌, arith, length-append}
use Rattle.hs_check.proofs.Prelude.{take_all, length_with}
use Rattle.std.specs.List.{All, take_while}
use Rattle.std.specs.Str.{bytes_eq}
use Rattle.std.proofs.lemmas.List.Splits.{slice_split_none}
use Rattle.std.proofs.lemmas.List.Sums.{take_while-cons}
use Rattle.std.proofs.lemmas.Slice.Eq.{bytes_eq-Decides}
use Rattle.hs_text.specs.Judging.{parts_of}
use Rattle.hs_text.specs.Text.{text_of}
use Rattle.hs_text.specs.JudgingLaws.{no_newline, line_part}
use Rattle.hs_check.specs.Parts.{part_through}

-- whether a line is another one
abbrev is_other : List ℕ → List ℕ → Bool
is_other word line = not (bytes_eq line word)

-- how many bytes these lines have up to and with the first that is this one
abbrev length_in : List ℕ → List (List ℕ) → ℕ
length_in word lines = length (text_of (take_while (is_other word) lines ++ word ∷ []))

length_of_line : (line : List ℕ) (rest : List ℕ) → length ((line ++ 10 ∷ []) ++ rest) ≡ length line + 1 + length rest
length_of_line line rest = let both = length-append (line ++ 10 ∷ []) rest in let one = length-append line (10 ∷ []) in omega (arith, both, one)

in_other : (word line : List ℕ) (lines : List (List ℕ)) → bytes_eq line word ≡ false → length_in word (line ∷ lines) ≡ length line + 1 + length_in word lines
in_other word line lines other =
    ap (λ (l : List (List ℕ)). length (text_of (l ++ word ∷ []))) (take_while-cons (is_other word) line lines ∙ ap (λ (b : Bool). cond (not b) (line ∷ take_while (is_other word) lines) []) other)
    ∙ length_of_line line (text_of (take_while (is_other word) lines ++ word ∷ []))

in_same : (word line : List ℕ) (lines : List (List ℕ)) → bytes_eq line word ≡ true → length_in word (line ∷ lines) ≡ length line + 1
in_same word line lines same =
    ap (λ (l : List (List ℕ)). length (text_of (l ++ word ∷ []))) (take_while-cons (is_other word) line lines ∙ ap (λ (b : Bool). cond (not b) (line ∷ take_while (is_other word) lines) []) same)
    ∙ ap (λ (l : List ℕ). length (text_of (l ∷ []))) (sym ((bytes_eq-Decides line word).0 same)) ∙ length_of_line line [] ∙ add-zero (length line + 1)

in_last_at : (word rest : List ℕ) (b : Bool) → bytes_eq rest word ≡ b → length rest ≤ length_in word (rest ∷ [])
in_last_at word rest true same = let e = in_same word rest [] same in omega (arith, e)
in_last_at word rest false other = let e = in_other word rest [] other in omega (arith, e)

-- a line further on, where the line is another one
pub behind_other : (word line behind text : List ℕ) → text ≡ line ++ 10 ∷ behind → All (λ b. b ≢ 10) line → bytes_eq line word ≡ false → length_with word text ≡ length line + 1 + length_with word behind
behind_other word line behind text split one other = ap (length_with word) split ∙ ap (length_in word) (line_part line behind one) ∙ in_other word line (parts_of behind) other

-- the line itself
pub with_line : (word line behind text : List ℕ) → text ≡ line ++ 10 ∷ behind → All (λ b. b ≢ 10) line → bytes_eq line word ≡ true → length_with word text ≡ length line + 1
with_line word line behind text split one same = ap (length_with word) split ∙ ap (length_in word) (line_part line behind one) ∙ in_same word line (parts_of behind) same

-- what has no newline is no more than the part
pub to_the_end : (word rest : List ℕ) → All (λ b. b ≢ 10) rest → length rest ≤ length_with word rest
to_the_end word rest whole = let at = ap (length_in word) (slice_split_none (λ b. nat_eq b 10) rest (no_newline rest whole)) in let least = in_last_at word rest (bytes_eq rest word) refl in omega (arith, at, least)

pub all_of : (word text : List ℕ) → length text ≤ length_with word text → take (length text) text ≡ part_through word text
all_of word text all = take_all (length text) text (omega arith) ∙ sym (take_all (length_with word text) text all)
