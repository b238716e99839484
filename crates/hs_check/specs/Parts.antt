-- The two parts of an input that is checked: its workload goes up to and with the first line that is exactly `done`, and the
-- journal behind it up to and with the next line that is exactly `end`. A part whose last line is missing goes on to the end of
-- the input. What stands behind the journal belongs to no part.
use Rattle.std.specs.Prelude.{◌≡◌, ℕ, not, List, [], ◌∷◌, ◌++◌, length, take, drop, codes, refl}
use Rattle.std.specs.List.{take_while}
use Rattle.std.specs.Str.{bytes_eq}
use Rattle.hs_text.specs.Judging.{parts_of}
use Rattle.hs_text.specs.Text.{text_of}

-- the lines of a text before the first that is this one
abbrev pub lines_before : List ℕ → List ℕ → List (List ℕ)
lines_before word text = take_while (λ line. not (bytes_eq line word)) (parts_of text)

-- how many bytes these lines have, and this one behind them
abbrev pub length_with : List ℕ → List ℕ → ℕ
length_with word text = length (text_of (lines_before word text ++ word ∷ []))

-- the front of a text that ends behind this line, where it stands first; the whole text if no line is this one
abbrev pub part_through : List ℕ → List ℕ → List ℕ
part_through word text = take (length_with word text) text

abbrev pub workload_part : List ℕ → List ℕ
workload_part text = part_through (codes "done") text

abbrev pub journal_part : List ℕ → List ℕ
journal_part text = part_through (codes "end") (drop (length (workload_part text)) text)

-- worked examples: a letter stands for other lines
abbrev line : List ℕ → List ℕ
line word = word ++ 10 ∷ []

both_parts : (workload_part (line (codes "a") ++ line (codes "done") ++ line (codes "b") ++ line (codes "end") ++ codes "c") ≡ line (codes "a") ++ line (codes "done"))
    × (journal_part (line (codes "a") ++ line (codes "done") ++ line (codes "b") ++ line (codes "end") ++ codes "c") ≡ line (codes "b") ++ line (codes "end"))
both_parts = (refl, refl)

-- the first of two such lines ends a part, and an `end` of the workload ends none
first_of_two : (workload_part (line (codes "end") ++ line (codes "done") ++ line (codes "done")) ≡ line (codes "end") ++ line (codes "done"))
    × (journal_part (line (codes "end") ++ line (codes "done") ++ line (codes "done") ++ line (codes "end") ++ line (codes "end")) ≡ line (codes "done") ++ line (codes "end"))
first_of_two = (refl, refl)

-- a line that only begins or ends so is another one
other_lines : (workload_part (line (codes "done 1") ++ line (codes "undone") ++ line (codes "done")) ≡ line (codes "done 1") ++ line (codes "undone") ++ line (codes "done"))
    × (workload_part (line (codes "done ") ++ line (codes "b")) ≡ line (codes "done ") ++ line (codes "b"))
other_lines = (refl, refl)

-- where no such line is, the part is all that there is; the last line may lack its newline
no_lines : (workload_part (line (codes "a") ++ codes "b") ≡ line (codes "a") ++ codes "b") × (journal_part (line (codes "a") ++ codes "b") ≡ [])
    × (workload_part (line (codes "a") ++ codes "done") ≡ line (codes "a") ++ codes "done") × (workload_part [] ≡ []) × (journal_part [] ≡ [])
no_lines = (refl, refl, refl, refl, refl)

-- the journal may be cut off
cut_off : (journal_part (line (codes "done") ++ line (codes "a") ++ codes "end") ≡ line (codes "a") ++ codes "end") × (journal_part (line (codes "done")) ≡ [])
cut_off = (refl, refl)
