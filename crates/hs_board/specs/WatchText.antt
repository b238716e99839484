-- What watchers saw, as text: a line for each watcher with its number, and under it one for each of the totals that it saw. The last line
-- is `end`.
use Rattle.std.specs.Prelude.{◌≡◌, ℕ, suc, List, [], ◌∷◌, ◌++◌, map, codes, decimal, refl}
use Rattle.std.specs.Fmt.{digits}
use Rattle.hs_board.specs.declared.progress.Progress.{Progress}
use Rattle.hs_board.specs.Shown.{first}
use Rattle.hs_text.specs.Text.{line_of, text_of}

-- the line of totals that were seen
abbrev pub seen_line : Progress → List ℕ
seen_line p =
    line_of (
    codes "seen" ∷ decimal p.rounds ∷ codes "operations" ∷ decimal p.operations ∷ codes "records" ∷ decimal p.records ∷ codes "null" ∷ decimal p.nulls
    ∷ codes "taken" ∷ decimal p.taken ∷ codes "given" ∷ decimal p.given ∷ []
    )

-- the lines of the watcher of this number, by what it saw
abbrev pub watcher_lines : ℕ → List Progress → List (List ℕ)
watcher_lines number seen = line_of (codes "watcher" ∷ decimal number ∷ []) ∷ map seen_line seen

-- the lines of watchers, whose numbers begin with this one
abbrev pub watchers_from : ℕ → List (List Progress) → List (List ℕ)
watchers_from number [] = []
watchers_from number (seen ∷ others) = watcher_lines number seen ++ watchers_from (suc number) others

-- the text of what watchers saw, whose numbers begin with 0
abbrev pub watch_text : List (List Progress) → List ℕ
watch_text all = text_of (watchers_from 0 all ++ codes "end" ∷ [])

nothing_was_to_see :
    watch_text ((first ∷ []) ∷ (first ∷ []) ∷ [])
    ≡ codes "watcher 0" ++ 10 ∷ codes "seen 0 operations 0 records 0 null 0 taken 0 given 0" ++ 10 ∷ codes "watcher 1" ++ 10
    ∷ codes "seen 0 operations 0 records 0 null 0 taken 0 given 0" ++ 10 ∷ codes "end" ++ 10 ∷ []
unfolding digits
nothing_was_to_see = refl
