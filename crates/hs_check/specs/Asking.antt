-- The clauses in the parts in which they are asked: those that look at the journal alone; the eighth, whether it can be followed; and
-- those that look at what following it found.
use Rattle.std.specs.Prelude.{◌≡◌, ℕ, true, not, List, [], ◌∷◌, ◌++◌, Option, option_map, find, refl}
use Rattle.hs_check_follow.specs.Finding.{IsFound}
use Rattle.hs_check_follow.specs.declared.found.Found.{Found}
use Rattle.hs_records.specs.Journals.{PlainJournal}
use Rattle.hs_law_journal.specs.Ends.{is_followed, has_rounds, is_bare}
use Rattle.hs_law_journal.specs.Following.{followed}
use Rattle.hs_law_journal.specs.Lawful.{Clause, clauses}
use Rattle.hs_law_journal.specs.Pace.{has_pace}
use Rattle.hs_law_journal.specs.Passes.{has_passes, has_offers}
use Rattle.hs_law_journal.specs.Played.{Played, played}
use Rattle.hs_law_journal.specs.Pooled.{has_history, has_answers}
use Rattle.hs_law_journal.specs.Shape.{has_shape, has_stamps}
use Rattle.hs_law_journal.specs.Unreads.{has_unreads}
use Rattle.hs_records.specs.Plain.{PlainWorkload}
use Rattle.hs_records.specs.Validity.{IsValid}

abbrev pub of_the_journal : List Clause
of_the_journal = record { number = 1; holds = has_shape } ∷ record { number = 2; holds = has_stamps } ∷ record { number = 5; holds = has_passes } ∷ []

abbrev pub of_following : List Clause
of_following = record { number = 8; holds = is_followed } ∷ []

abbrev pub of_the_pools : List Clause
of_the_pools =
    record { number = 3; holds = has_history } ∷ record { number = 4; holds = has_answers } ∷ record { number = 6; holds = has_offers } ∷ record { number = 7; holds = has_unreads }
    ∷ []

abbrev pub of_the_end : List Clause
of_the_end = record { number = 9; holds = has_rounds } ∷ record { number = 10; holds = is_bare } ∷ record { number = 11; holds = has_pace } ∷ []

-- these are all of them, in the order in which they are asked
all_clauses : clauses ≡ of_the_journal ++ of_following ++ of_the_pools ++ of_the_end
all_clauses = refl

-- the first of these clauses that fails, by its number
abbrev pub first_among : List Clause → Played → Option ℕ
first_among these p = option_map (λ (clause : Clause). clause.number) (find (λ (clause : Clause). not (clause.holds p)) these)

-- The journal of a valid workload has its stamps and was followed to its end, and this was found.
pub record WasFollowed (W : PlainWorkload) (J : PlainJournal) (found : Found) : Type 0 where
  pub valid : IsValid W
  pub stamps : has_stamps (played W J) ≡ true
  pub done : is_followed (played W J) ≡ true
  pub found_is : IsFound W.settings (followed W J) found
