-- No clause fails exactly where each of them holds.
use Rattle.std.proofs.Common.{◌≡◌, ℕ, Bool, true, false, cond, List, [], ◌∷◌, refl, Option, Some, None}
use Rattle.hs_law_journal.proofs.Prelude.{option_map, reverse, AllByRecursion, list_all, both_true, and_parts, PlainJournal, PlainWorkload, NodeRun, followed}
use Rattle.std.specs.Prelude.{not, find}
use Rattle.hs_words.specs.PoolHistory.{IsPoolHistory}
use Rattle.hs_law_journal.specs.Lawful.{IsLawful, Clause, clauses}
use Rattle.hs_law_journal.specs.Laws.{LawfulIsDecided}
use Rattle.hs_law_journal.specs.Played.{Played, played}
use Rattle.hs_law_journal.specs.Pooled.{is_history, pool_history}
use Rattle.hs_law_journal.proofs.Histories.{back_from, back_to}

-- the number of a clause that was found, if one was
abbrev number_of : Option Clause → Option ℕ
number_of found = option_map (λ (clause : Clause). clause.number) found

abbrev fails : Played → Clause → Bool
fails p clause = not (clause.holds p)

module _ (p : Played) where
  holds_first : (c : Clause) (rest : Option Clause) (b : Bool) → c.holds p ≡ b → number_of (cond (not b) (Some c) rest) ≡ None → (c.holds p ≡ true) × (number_of rest ≡ None)
  holds_first c rest true e h = (e, h)
  holds_first c rest false e h = let no : Some c.number ≡ None = h in absurd cc

  all_hold : (cs : List Clause) → number_of (find (fails p) cs) ≡ None → AllByRecursion (λ c. c.holds p ≡ true) cs
  all_hold [] h = tt
  all_hold (c ∷ cs) h = let first = holds_first c (find (fails p) cs) (c.holds p) refl h in (first.0, all_hold cs first.1)

  fails_later : (c : Clause) (rest : Option Clause) (b : Bool) → b ≡ true → number_of rest ≡ None → number_of (cond (not b) (Some c) rest) ≡ None
  fails_later c rest true e h = h
  fails_later c rest false e h = absurd cc

  none_fails : (cs : List Clause) → AllByRecursion (λ c. c.holds p ≡ true) cs → number_of (find (fails p) cs) ≡ None
  none_fails [] h = refl
  none_fails (c ∷ cs) h = fails_later c (find (fails p) cs) (c.holds p) h.0 (none_fails cs h.1)

histories_from : (n : ℕ) (runs : List NodeRun) → list_all (λ (run : NodeRun). is_history n (pool_history run)) runs ≡ true → AllByRecursion (λ (run : NodeRun). IsPoolHistory n (pool_history run)) runs
histories_from n [] h = tt
histories_from n (run ∷ runs) h =
    let both = and_parts (is_history n (pool_history run)) (list_all (λ (run : NodeRun). is_history n (pool_history run)) runs) h in
    (back_from n (reverse (pool_history run)) both.0, histories_from n runs both.1)

histories_to : (n : ℕ) (runs : List NodeRun) → AllByRecursion (λ (run : NodeRun). IsPoolHistory n (pool_history run)) runs → list_all (λ (run : NodeRun). is_history n (pool_history run)) runs ≡ true
histories_to n [] h = refl
histories_to n (run ∷ runs) h = both_true (back_to n (reverse (pool_history run)) h.0) (histories_to n runs h.1)

lawful_from : (W : PlainWorkload) (J : PlainJournal) → AllByRecursion (λ c. c.holds (played W J) ≡ true) clauses → IsLawful W J
lawful_from W J a =
    record {
      L1 = a.0;
      L2 = a.1.0;
      L5 = a.1.1.0;
      L8 = a.1.1.1.0;
      L3 = histories_from W.settings.buffers (followed W J).nodes a.1.1.1.1.0;
      L4 = a.1.1.1.1.1.0;
      L6 = a.1.1.1.1.1.1.0;
      L7 = a.1.1.1.1.1.1.1.0;
      L9 = a.1.1.1.1.1.1.1.1.0;
      L10 = a.1.1.1.1.1.1.1.1.1.0;
      L11 = a.1.1.1.1.1.1.1.1.1.1.0;
    }

lawful_to : (W : PlainWorkload) (J : PlainJournal) → IsLawful W J → AllByRecursion (λ c. c.holds (played W J) ≡ true) clauses
lawful_to W J l =
    (l.L1, (l.L2, (l.L5, (l.L8, (histories_to W.settings.buffers (followed W J).nodes l.L3, (l.L4, (l.L6, (l.L7, (l.L9, (l.L10, (l.L11, tt)))))))))))

pub lawful_is_decided : LawfulIsDecided
lawful_is_decided W J = (λ h. lawful_from W J (all_hold (played W J) clauses h), λ l. none_fails (played W J) clauses (lawful_to W J l))
