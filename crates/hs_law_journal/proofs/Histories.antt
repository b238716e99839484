-- The test of a pool's history, event by event.
use Rattle.std.proofs.Common.{◌≡◌, ℕ, true, false, List, [], ◌∷◌, length, refl, sym, ap, subst, Option, Some, None}
use Rattle.hs_law_journal.proofs.Prelude.{reverse, count_by, option_map_or, both_true, and_parts, nil_from_length}
use Rattle.std.specs.Prelude.{◌==◌, slice_get}
use Rattle.std.proofs.lemmas.Bool.{eqb-true, eq-eqb, ltb-true, lt-ltb}
use Rattle.hs_words.specs.PoolHistory.{PoolEvent, Got, Empty, Given, Missed, is_got, is_empty, is_given, is_missed, queue_after, MayFollow, IsHistoryBack}
use Rattle.hs_law_journal.specs.Laws.{HistoriesAreDecided}
use Rattle.hs_law_journal.specs.Pooled.{may_follow, is_history_back}

front_is : (buffer : ℕ) (o : Option ℕ) → option_map_or (λ front. front == buffer) o false ≡ true → o ≡ Some buffer
front_is buffer None h = let no : false ≡ true = h in absurd cc
front_is buffer (Some front) h = ap Some (eqb-true front buffer h)

may_from : (n : ℕ) (earlier : List PoolEvent) (event : PoolEvent) → may_follow n earlier event ≡ true → MayFollow n earlier event
may_from n earlier (Got buffer) h = front_is buffer (slice_get (queue_after n earlier) 0) h
may_from n earlier Empty h = nil_from_length (queue_after n earlier) (eqb-true (length (queue_after n earlier)) 0 h)
may_from n earlier (Given buffer) h = ltb-true (count_by (is_given buffer) earlier) (count_by (is_got buffer) earlier) h
may_from n earlier Missed h =
    let both = and_parts (length (queue_after n earlier) == 0) _ h in
    (nil_from_length (queue_after n earlier) (eqb-true (length (queue_after n earlier)) 0 both.0), ltb-true (count_by is_missed earlier) (count_by is_empty earlier) both.1)

may_to : (n : ℕ) (earlier : List PoolEvent) (event : PoolEvent) → MayFollow n earlier event → may_follow n earlier event ≡ true
may_to n earlier (Got buffer) h = subst (λ (o : Option ℕ). option_map_or (λ front. front == buffer) o false ≡ true) (sym h) (eq-eqb buffer buffer refl)
may_to n earlier Empty h = eq-eqb (length (queue_after n earlier)) 0 (ap length h)
may_to n earlier (Given buffer) h = lt-ltb (count_by (is_given buffer) earlier) (count_by (is_got buffer) earlier) h
may_to n earlier Missed h = both_true (eq-eqb (length (queue_after n earlier)) 0 (ap length h.0)) (lt-ltb (count_by is_missed earlier) (count_by is_empty earlier) h.1)

pub back_from : (n : ℕ) (events : List PoolEvent) → is_history_back n events ≡ true → IsHistoryBack n events
back_from n [] h = tt
back_from n (event ∷ earlier) h =
    let both = and_parts (is_history_back n earlier) (may_follow n earlier event) h in (back_from n earlier both.0, may_from n earlier event both.1)

pub back_to : (n : ℕ) (events : List PoolEvent) → IsHistoryBack n events → is_history_back n events ≡ true
back_to n [] h = refl
back_to n (event ∷ earlier) h = both_true (back_to n earlier h.0) (may_to n earlier event h.1)

pub histories_are_decided : HistoriesAreDecided
histories_are_decided n events = (back_from n (reverse events), back_to n (reverse events))
