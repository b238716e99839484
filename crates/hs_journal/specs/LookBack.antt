-- What the lines so far say, found by looking back over them. Lists of lines and of what they say stand here with the
-- newest first. The newest line says where in the journal the next one stands.
use Rattle.std.specs.Prelude.{◌≡◌, ℕ, Bool, true, false, List, [], ◌∷◌, slice_index, filter, length, codes, if◌then◌else◌, refl}
use Rattle.std.specs.List.{cons_option}
use Rattle.hs_journal.specs.declared.word.Keyword.{Keyword}
use Rattle.hs_journal.specs.declared.word.Keyword.TheVariants as keywords
use Rattle.hs_journal.specs.declared.part.JournalPart.{JournalPart}
use Rattle.hs_journal.specs.declared.part.JournalPart.TheVariants as places
use Rattle.hs_journal.specs.Statements.{Statement, statement_of}

-- what lines say
abbrev pub said : List (List ℕ) → List Statement
said [] = []
said (line ∷ earlier) = cons_option (statement_of line) (said earlier)

-- the place behind a line that begins with this word
abbrev pub place_behind : Keyword → JournalPart
place_behind keywords.Journal = places.Head
place_behind keywords.Draws = places.Draws
place_behind keywords.Got = places.Draws
place_behind keywords.Empty = places.Draws
place_behind keywords.Coordinator = places.Order
place_behind keywords.Told = places.Order
place_behind keywords.End = places.Ended
place_behind _ = places.Logs

abbrev pub is_head_word : Keyword → Bool
is_head_word keywords.Journal = true
is_head_word _ = false

abbrev pub is_draws_word : Keyword → Bool
is_draws_word keywords.Draws = true
is_draws_word _ = false

abbrev pub is_log_word : Keyword → Bool
is_log_word keywords.Log = true
is_log_word _ = false

-- where the next line stands
abbrev pub place_said : List Statement → JournalPart
place_said [] = places.Start
place_said (newest ∷ earlier) = place_behind newest.keyword

-- the numbers of the first line, 0 where it was not read
abbrev pub nodes_said : List Statement → ℕ
nodes_said [] = 0
nodes_said (newest ∷ earlier) = if is_head_word newest.keyword then slice_index newest.numbers 1 else nodes_said earlier

abbrev pub clients_said : List Statement → ℕ
clients_said [] = 0
clients_said (newest ∷ earlier) = if is_head_word newest.keyword then slice_index newest.numbers 2 else clients_said earlier

-- how many clients' draws, and how many logs, have begun
abbrev pub draws_said : List Statement → ℕ
draws_said earlier = length (filter (λ statement. is_draws_word statement.keyword) earlier)

abbrev pub logs_said : List Statement → ℕ
logs_said earlier = length (filter (λ statement. is_log_word statement.keyword) earlier)

-- all of it
pub record Past : Type 0 where
  pub place : JournalPart
  pub nodes : ℕ
  pub clients : ℕ
  pub draws : ℕ
  pub logs : ℕ

abbrev pub past_said : List Statement → Past
past_said earlier =
    record {
      place = place_said earlier;
      nodes = nodes_said earlier;
      clients = clients_said earlier;
      draws = draws_said earlier;
      logs = logs_said earlier;
    }

-- worked examples
looked_back : past_said (said (codes "empty 5" ∷ codes "got 0 4" ∷ codes "draws 0 1" ∷ codes "draws 0 0" ∷ codes "journal 1 2 3" ∷ []))
    ≡ record { place = places.Draws; nodes = 2; clients = 3; draws = 2; logs = 0 }
unfolding Rattle.hs_text.specs.Spelling.spelled
looked_back = refl
