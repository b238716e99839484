-- What a line of a journal says: it is a word and numbers, and says what that word says of the numbers. Each word has its own
-- count of numbers, and what a line says has one text.
use Rattle.std.specs.Prelude.{◌≡◌, ℕ, ◌==◌, List, [], ◌∷◌, length, map, codes, decimal, Option, Some, None, option_map, if◌then◌else◌, refl}
use Rattle.hs_text.specs.Text.{words_of, line_of, numbers_of}
use Rattle.hs_text.specs.Spelling.{spelled}
use Rattle.hs_text.specs.Opening.{words_say}
use Rattle.hs_base.specs.declared.ids.NodeId.{NodeId}
use Rattle.hs_records.specs.declared.journal.Draw.{Draw}
use Rattle.hs_records.specs.declared.journal.Draw.TheVariants as draws
use Rattle.hs_records.specs.declared.journal.Step.{Step}
use Rattle.hs_records.specs.declared.journal.Step.TheVariants as steps
use Rattle.hs_journal.specs.declared.word.Keyword.{Keyword}
use Rattle.hs_journal.specs.declared.word.Keyword.TheVariants as keywords

pub record Statement : Type 0 where
  pub keyword : Keyword
  pub numbers : List ℕ

-- the word
abbrev pub keyword_text : Keyword → List ℕ
keyword_text keywords.Journal = codes "journal"
keyword_text keywords.Draws = codes "draws"
keyword_text keywords.Got = codes "got"
keyword_text keywords.Empty = codes "empty"
keyword_text keywords.Log = codes "log"
keyword_text keywords.Chunk = codes "chunk"
keyword_text keywords.Crumb = codes "crumb"
keyword_text keywords.Trigger = codes "trigger"
keyword_text keywords.Ask = codes "ask"
keyword_text keywords.Turn = codes "turn"
keyword_text keywords.Given = codes "given"
keyword_text keywords.Missed = codes "missed"
keyword_text keywords.Unread = codes "unread"
keyword_text keywords.Coordinator = codes "coordinator"
keyword_text keywords.Told = codes "told"
keyword_text keywords.End = codes "end"

-- how many numbers stand behind it
abbrev pub number_count : Keyword → ℕ
number_count keywords.Journal = 3
number_count keywords.Draws = 2
number_count keywords.Got = 2
number_count keywords.Empty = 1
number_count keywords.Log = 1
number_count keywords.Chunk = 1
number_count keywords.Crumb = 1
number_count keywords.Trigger = 1
number_count keywords.Ask = 0
number_count keywords.Turn = 0
number_count keywords.Given = 1
number_count keywords.Missed = 1
number_count keywords.Unread = 0
number_count keywords.Coordinator = 0
number_count keywords.Told = 1
number_count keywords.End = 0

-- the words of the line that says this
abbrev pub statement_words : Statement → List (List ℕ)
statement_words statement = keyword_text statement.keyword ∷ map decimal statement.numbers

abbrev pub statement_line : Statement → List ℕ
statement_line statement = line_of (statement_words statement)

-- the words that a line may begin with
abbrev pub all_keywords : List Keyword
all_keywords =
    keywords.Got ∷ keywords.Empty ∷ keywords.Chunk ∷ keywords.Crumb ∷ keywords.Trigger ∷ keywords.Ask ∷ keywords.Turn ∷ keywords.Given ∷ keywords.Missed
    ∷ keywords.Unread ∷ keywords.Told ∷ keywords.Draws ∷ keywords.Log ∷ keywords.Journal ∷ keywords.Coordinator ∷ keywords.End ∷ []

-- which of them a word is
abbrev pub keyword_of : List ℕ → Option Keyword
keyword_of = spelled keyword_text all_keywords

pub keywords_told_apart : (keyword : Keyword) → keyword_of (keyword_text keyword) ≡ Some keyword
unfolding spelled
keywords_told_apart keywords.Journal = refl
keywords_told_apart keywords.Draws = refl
keywords_told_apart keywords.Got = refl
keywords_told_apart keywords.Empty = refl
keywords_told_apart keywords.Log = refl
keywords_told_apart keywords.Chunk = refl
keywords_told_apart keywords.Crumb = refl
keywords_told_apart keywords.Trigger = refl
keywords_told_apart keywords.Ask = refl
keywords_told_apart keywords.Turn = refl
keywords_told_apart keywords.Given = refl
keywords_told_apart keywords.Missed = refl
keywords_told_apart keywords.Unread = refl
keywords_told_apart keywords.Coordinator = refl
keywords_told_apart keywords.Told = refl
keywords_told_apart keywords.End = refl

-- what a word says with these words behind it, where they are as many numbers as it has
abbrev pub says : Keyword → List (List ℕ) → Option Statement
says keyword words = if length words == number_count keyword then option_map (λ ns. record { keyword = keyword; numbers = ns }) (numbers_of words) else None

-- what a line says
abbrev pub statement_of : List ℕ → Option Statement
statement_of line = words_say keyword_of says (words_of line)

-- what is said of a draw
abbrev pub draw_statement : Draw → Statement
draw_statement (draws.Got buffer stamp) = record { keyword = keywords.Got; numbers = buffer ∷ stamp ∷ [] }
draw_statement (draws.Empty stamp) = record { keyword = keywords.Empty; numbers = stamp ∷ [] }

-- what is said of a step
abbrev pub step_statement : Step → Statement
step_statement (steps.Chunk client) = record { keyword = keywords.Chunk; numbers = client ∷ [] }
step_statement (steps.Crumb client) = record { keyword = keywords.Crumb; numbers = client ∷ [] }
step_statement (steps.Trigger client) = record { keyword = keywords.Trigger; numbers = client ∷ [] }
step_statement steps.Ask = record { keyword = keywords.Ask; numbers = [] }
step_statement steps.Turn = record { keyword = keywords.Turn; numbers = [] }
step_statement (steps.Given stamp) = record { keyword = keywords.Given; numbers = stamp ∷ [] }
step_statement (steps.Missed stamp) = record { keyword = keywords.Missed; numbers = stamp ∷ [] }
step_statement steps.Unread = record { keyword = keywords.Unread; numbers = [] }

-- what is said of a message that the coordinator took
abbrev pub told_statement : NodeId → Statement
told_statement node = record { keyword = keywords.Told; numbers = node.0 ∷ [] }

-- worked examples
lines_say : (statement_of (codes "journal 1 2 3") ≡ Some (record { keyword = keywords.Journal; numbers = 1 ∷ 2 ∷ 3 ∷ [] }))
    × (statement_of (codes "got 0 7") ≡ Some (draw_statement (draws.Got 0 7)))
    × (statement_of (codes "unread") ≡ Some (step_statement steps.Unread))
    × (statement_of (codes "end") ≡ Some (record { keyword = keywords.End; numbers = [] }))
unfolding spelled
lines_say = (refl, refl, refl, refl)

lines_say_nothing : (statement_of (codes "got 7") ≡ None) × (statement_of (codes "got 00 7") ≡ None) × (statement_of (codes "gott 0 7") ≡ None) × (statement_of (codes "end 0") ≡ None)
unfolding spelled
lines_say_nothing = (refl, refl, refl, refl)
