-- How a line is opened by its first word, which says what the others have to be. Before that its bytes and its spaces are looked
-- at. What is asked then is put together from the reasons of each first word.
use Rattle.std.specs.Prelude.{◌≡◌, ℕ, Bool, true, List, [], ◌∷◌, codes, Option, Some, None, option_and_then, Result, Ok, Err, if◌then◌else◌, ◌==◌, length, refl}
use Rattle.hs_text.specs.Text.{words_of, has_bad_byte, has_bad_spaces}
use Rattle.hs_text.specs.Steps.{◌>>=◌, unless, value_or}
use Rattle.hs_text.specs.WordsLeft.{next_word}
use Rattle.hs_text.specs.declared.opening.LineReasons.{LineReasons}

-- the first word, by what it is found as, and the words behind it
unfoldable pub opened : {R W : Type 0} → LineReasons R → (List ℕ → Option W) → List ℕ → Result (W × List (List ℕ)) R
opened reasons find line =
    unless (has_bad_byte line) reasons.byte
    (unless (has_bad_spaces line) reasons.spaces
    (next_word reasons.word (words_of line) >>= λ first. value_or reasons.word (find first.0) >>= λ word. Ok (word, first.1)))

-- the reasons of a line, by those of its first word with the words behind it
abbrev pub word_reasons : {R W : Type 0} → R → (W → List (List ℕ) → List (Bool × R)) → Option W → List (List ℕ) → List (Bool × R)
word_reasons none asked None words = (true, none) ∷ []
word_reasons none asked (Some word) words = asked word words

abbrev pub words_reasons : {R W : Type 0} → R → (List ℕ → Option W) → (W → List (List ℕ) → List (Bool × R)) → List (List ℕ) → List (Bool × R)
words_reasons none find asked [] = (true, none) ∷ []
words_reasons none find asked (word ∷ words) = word_reasons none asked (find word) words

abbrev pub line_reasons : {R W : Type 0} → LineReasons R → (List ℕ → Option W) → (W → List (List ℕ) → List (Bool × R)) → List ℕ → List (Bool × R)
line_reasons reasons find asked line =
    (has_bad_byte line, reasons.byte) ∷ (has_bad_spaces line, reasons.spaces) ∷ words_reasons reasons.word find asked (words_of line)

-- what a line says, by what its first word says with the words behind it
abbrev pub words_say : {W S : Type 0} → (List ℕ → Option W) → (W → List (List ℕ) → Option S) → List (List ℕ) → Option S
words_say find says [] = None
words_say find says (word ∷ words) = option_and_then (λ found. says found words) (find word)

-- worked examples: lines whose first word has one byte
abbrev one_two_three : LineReasons ℕ
one_two_three = record { byte = 1; spaces = 2; word = 3 }

abbrev one_byte : List ℕ → Option ℕ
one_byte word = if length word == 1 then Some 7 else None

lines_opened : (opened one_two_three one_byte (codes "a bc d") ≡ Ok (7, codes "bc" ∷ codes "d" ∷ [])) × (opened one_two_three one_byte (codes "a") ≡ Ok (7, []))
    × (opened one_two_three one_byte (codes "ab c") ≡ Err 3) × (opened one_two_three one_byte (codes "ab ") ≡ Err 2)
    × (opened one_two_three one_byte (9 ∷ 32 ∷ []) ≡ Err 1)
unfolding opened
lines_opened = (refl, refl, refl, refl, refl)
