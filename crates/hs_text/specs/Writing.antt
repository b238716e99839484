-- How lines are written: a first word, and the others each behind a space. A trace has as many digits as its version says.
use Rattle.std.specs.Prelude.{◌≡◌, ℕ, List, [], ◌∷◌, ◌++◌, codes, refl}
use Rattle.std.specs.List.{flat_map}
use Rattle.std.proofs.Common.{sym, ap, ◌∙◌, append_assoc, append-nil}
use Rattle.hs_base.specs.declared.ids.TraceId.{TraceId}
use Rattle.hs_text.specs.Text.{line_of, hex_text}
use Rattle.hs_base.specs.Ids.{trace_digits}

-- a trace in a text of this version
abbrev pub trace_word : ℕ → TraceId → List ℕ
trace_word version trace = hex_text (trace_digits version) trace.0

-- words that follow others on a line, each behind a space
abbrev pub spaced : List (List ℕ) → List ℕ
spaced words = flat_map (λ word. 32 ∷ word) words

pub line_of-spaced : (word : List ℕ) (words : List (List ℕ)) → line_of (word ∷ words) ≡ word ++ spaced words
line_of-spaced word [] = sym (append-nil word)
line_of-spaced word (next ∷ words) = ap (λ line. word ++ (32 ∷ line)) (line_of-spaced next words)

pub spaced-append : (xs ys : List (List ℕ)) → spaced (xs ++ ys) ≡ spaced xs ++ spaced ys
spaced-append [] ys = refl
spaced-append (x ∷ xs) ys = ap (λ text. (32 ∷ x) ++ text) (spaced-append xs ys) ∙ sym (append_assoc (32 ∷ x) (spaced xs) (spaced ys))

-- worked examples
words_spaced : spaced (codes "0" ∷ codes "12" ∷ []) ≡ codes " 0 12"
words_spaced = refl

trace_of_each_version : (trace_word 1 (record { 0 = 175 }) ≡ codes "00000000000000af") × (trace_word 2 (record { 0 = 175 }) ≡ codes "000000000000000000000000000000af")
trace_of_each_version = (refl, refl)

-- a first word, others behind it and the end of the line, each appended to what was written before
pub line_written : (before word : List ℕ) (words : List (List ℕ)) (first others whole : List ℕ) → first ≡ before ++ word → others ≡ first ++ spaced words → whole ≡ others ++ 10 ∷ []
    → whole ≡ before ++ (line_of (word ∷ words) ++ 10 ∷ [])
line_written before word words first others whole begun spoken ended =
    ended ∙ ap (λ t. t ++ 10 ∷ []) (spoken ∙ ap (λ t. t ++ spaced words) begun ∙ append_assoc before word (spaced words) ∙ ap (λ t. before ++ t) (sym (line_of-spaced word words)))
    ∙ append_assoc before (line_of (word ∷ words)) (10 ∷ [])

-- words behind words that were appended
pub spaced_more : (out first others : List ℕ) (words more : List (List ℕ)) → first ≡ out ++ spaced words → others ≡ first ++ spaced more → others ≡ out ++ spaced (words ++ more)
spaced_more out first others words more begun is =
    is ∙ ap (λ t. t ++ spaced more) begun ∙ append_assoc out (spaced words) (spaced more) ∙ ap (λ t. out ++ t) (sym (spaced-append words more))

-- one word behind a space
pub spaced_one : (out first word : List ℕ) → first ≡ out ++ 32 ∷ word → first ≡ out ++ spaced (word ∷ [])
spaced_one out first word is = is ∙ ap (λ t. out ++ 32 ∷ t) (sym (append-nil word))
