-- The clauses part by part: which of all of them fails first.
use Rattle.std.proofs.Common.{◌≡◌, ℕ, true, false, ◌++◌, Option, Some, None, sym, ap, ◌∙◌}
use Rattle.hs_check.proofs.Prelude.{option_map, is_followed, Played, of_the_journal, first_among, number_of, Clause}
use Rattle.hs_law_journal.specs.Lawful.{first_failing}
use Rattle.hs_check.specs.Asking.{of_following, of_the_pools, of_the_end}
use Rattle.hs_check.proofs.First.{holds_next, fails_here, front_fails, front_holds}

-- what an answer says where it is none, and where it is a clause
pub none_so : {failed : Option Clause} {n : Option ℕ} → option_map number_of failed ≡ n → failed ≡ None → n ≡ None
none_so answer none = sym answer ∙ ap (option_map number_of) none

pub some_so : {failed : Option Clause} {n : Option ℕ} {clause : Clause} → option_map number_of failed ≡ n → failed ≡ Some clause → n ≡ Some (number_of clause)
some_so answer some = sym answer ∙ ap (option_map number_of) some

module _ (p : Played) where
  pub journal_fails : (n : ℕ) → first_among of_the_journal p ≡ Some n → first_failing p ≡ Some n
  journal_fails n is = front_fails p of_the_journal (of_following ++ of_the_pools ++ of_the_end) n is

  module _ (journal : first_among of_the_journal p ≡ None) where
    behind_journal : first_failing p ≡ first_among (of_following ++ of_the_pools ++ of_the_end) p
    behind_journal = front_holds p of_the_journal (of_following ++ of_the_pools ++ of_the_end) journal

    pub following_fails : is_followed p ≡ false → first_failing p ≡ Some 8
    following_fails stopped = behind_journal ∙ fails_here p (record { number = 8; holds = is_followed }) (of_the_pools ++ of_the_end) stopped

    module _ (done : is_followed p ≡ true) where
      behind_following : first_failing p ≡ first_among (of_the_pools ++ of_the_end) p
      behind_following = behind_journal ∙ holds_next p (record { number = 8; holds = is_followed }) (of_the_pools ++ of_the_end) done

      pub pools_fail : (n : ℕ) → first_among of_the_pools p ≡ Some n → first_failing p ≡ Some n
      pools_fail n is = behind_following ∙ front_fails p of_the_pools of_the_end n is

      -- and the rest is the end's
      pub behind_pools : first_among of_the_pools p ≡ None → first_failing p ≡ first_among of_the_end p
      behind_pools pools = behind_following ∙ front_holds p of_the_pools of_the_end pools
