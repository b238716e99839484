-- The words of a line, taken one after another: the next, the last, or none. Where the line has too few or too many, it is
-- refused for the reason that was given.
use Rattle.std.specs.Prelude.{ℕ, List, [], ◌∷◌, length, Option, Some, None, option_map, Result, Ok, Err}
use Rattle.std.specs.Borrow.{Bor}
use Rattle.hs_text.specs.Text.{words_of, payload_of}
use Rattle.hs_text.specs.Steps.{◌>>=◌, value_or}
use Rattle.hs_text.specs.declared.words.Words.{Words}

-- the words of what is left of a line
abbrev pub words_left : Option (Bor (List ℕ)) → List (List ℕ)
words_left None = []
words_left (Some rest) = words_of rest.now

abbrev pub words_in : Words → List (List ℕ)
words_in words = words_left words.rest

-- the next word and those behind it
abbrev pub next_word : {R : Type 0} → R → List (List ℕ) → Result (List ℕ × List (List ℕ)) R
next_word missing [] = Err missing
next_word missing (word ∷ words) = Ok (word, words)

-- the one word that is left
abbrev pub last_word : {R : Type 0} → R → List (List ℕ) → Result (List ℕ) R
last_word wrong [] = Err wrong
last_word wrong (word ∷ []) = Ok word
last_word wrong (word ∷ next ∷ words) = Err wrong

-- that none is left
abbrev pub no_word : {R : Type 0} → R → List (List ℕ) → Result (Unit {0}) R
no_word extra [] = Ok tt
no_word extra (word ∷ words) = Err extra

-- how many bytes the payload has that a word is, where it is one
abbrev pub payload_size : List ℕ → Option ℕ
payload_size word = option_map length (payload_of word)

-- how many bytes the payload has that a word is
abbrev pub payload_length : {R : Type 0} → R → List ℕ → Result ℕ R
payload_length wrong word = value_or wrong (payload_of word) >>= λ bytes. Ok (length bytes)
