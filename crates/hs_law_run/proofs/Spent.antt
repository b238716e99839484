-- A give answers the draw of its chunk: it spends the lease of that draw, and nothing happens at the buffer between the two.
use Rattle.std.proofs.Common.{◌≡◌, inl, inr, ℕ, zero, suc, ◌+◌, ◌<◌, Bool, true, false, ◌&&◌, ◌==◌, not, cond, List, [], ◌∷◌, ◌++◌, length, refl, sym, ap, subst, ◌∙◌, Option, Some, None, arith, map, filter, filter_map, eqb-true, nat_lt, ltb-true, lt-ltb}
use Rattle.hs_law_run.proofs.Prelude.{AllByRecursion, cons_option, list_all, option_and_then, option_map_or, and_from, and_parts, same_Some, list_all_from, list_any_none, all_each, all_append, all_map, Draw, PlainJournal, EventsAddThis, GivenPlace, PlainWorkload, DrawnPage, Deed, Answer, answer_to, is_any_given, IsDeedAt, PoolEvent, is_missed, at_below, NodeRun, Run, StampedPoolEvent, given_page, pool_events, NodeDoings, journal_of, node_at_end, DoingsAreFollowed, give_of, give_at, IsPooled, all_by_place, all_at, log_at, steps_of, all_events}
use Rattle.hs_base.proofs.Alls.{all_each_both}
use Rattle.hs_records.specs.declared.journal.Draw.TheVariants as draws
use Rattle.hs_words.specs.Ends.{IsGot, Names, NoneSince, Spends, EachSpends}
use Rattle.hs_words.specs.PoolHistory as pool
use Rattle.hs_law_journal.specs.Pooled.{has_buffer, is_touched, answers_draw, gives_answer}
use Rattle.hs_law_run.specs.Playing.{GivesAnswer}
use Rattle.hs_law_run.specs.Pools.{KeepsPool, ClosedPoolsKeep}
use Rattle.hs_law_run.proofs.Answers.{own, answers, answers_are, drawers}
use Rattle.hs_law_run.proofs.Clauses.{mapped_true}
use Rattle.hs_law_run.proofs.Nodes.{number_is, log_there}
use Rattle.hs_law_run.proofs.Pools.{pool_is, pool_event, ordered, gives_in, misses_in, node_stamped, is_history}

-- ---- deeds and their places

-- an answer is that of the deed at its stamp
record IsTrue (log : List Deed) (a : Answer) : Type 0 where
  deed : Deed
  at : IsDeedAt log a.stamp deed
  event : a.event ≡ deed.event
  draw : a.draw ≡ deed.draw

still_true : (last : Deed) (log : List Deed) (a : Answer) → IsTrue log a → IsTrue (last ∷ log) a
still_true last log a t = record { deed = t.deed; at = inr t.at; event = t.event; draw = t.draw }

answers_true : (end : ℕ) (log : List Deed) → AllByRecursion (IsTrue log) (answers end log)
answers_true end [] = tt
answers_true end (deed ∷ earlier) =
    all_append (IsTrue (deed ∷ earlier)) (answers end earlier) (own (deed.by == end) (answer_to deed (length earlier)))
    (all_each (IsTrue earlier) (IsTrue (deed ∷ earlier)) (answers end earlier) (still_true deed earlier) (answers_true end earlier)) (last (deed.by == end))
  where
    last : (b : Bool) → AllByRecursion (IsTrue (deed ∷ earlier)) (own b (answer_to deed (length earlier)))
    last true = (record { deed = deed; at = inl (refl, refl); event = refl; draw = refl }, tt)
    last false = tt

kept_true : (log : List Deed) (p : Answer → Bool) (list : List Answer) → AllByRecursion (IsTrue log) list → AllByRecursion (IsTrue log) (filter p list)
kept_true log p [] all = tt
kept_true log p (a ∷ list) all = either (p a) (kept_true log p list all.1)
  where
    either : (b : Bool) → AllByRecursion (IsTrue log) (filter p list) → AllByRecursion (IsTrue log) (cond b (a ∷ filter p list) (filter p list))
    either true rest = (all.0, rest)
    either false rest = rest

drawers_true : (start count : ℕ) (log : List Deed) → AllByRecursion (IsTrue log) (drawers start count log)
drawers_true start zero log = tt
drawers_true start (suc count) log = all_append (IsTrue log) (answers (suc start) log) (drawers (start + 1) count log) (answers_true (suc start) log) (drawers_true (start + 1) count log)

ordered_true : (count : ℕ) (log : List Deed) → AllByRecursion (IsTrue log) (ordered count log)
ordered_true count log =
    all_append (IsTrue log) (drawers 0 count log ++ gives_in (answers 0 log)) (misses_in (answers 0 log))
    (all_append (IsTrue log) (drawers 0 count log) (gives_in (answers 0 log)) (drawers_true 0 count log) (kept_true log (λ (a : Answer). is_any_given a.event) (answers 0 log) (answers_true 0 log)))
    (kept_true log (λ (a : Answer). is_missed a.event) (answers 0 log) (answers_true 0 log))

-- what the deed at a stamp spent, and the deeds before it
record IsSpent (log : List Deed) (stamp : ℕ) (deed : Deed) : Type 0 where
  earlier : List Deed
  long : length earlier ≡ stamp
  spends : Spends earlier deed.event deed.draw
  before : (other : ℕ) (d : Deed) → IsDeedAt log other d → other < stamp → IsDeedAt earlier other d

spent_at : (log : List Deed) (stamp : ℕ) (deed : Deed) → EachSpends log → IsDeedAt log stamp deed → IsSpent log stamp deed
spent_at [] stamp deed each at = absurd at
spent_at (last ∷ earlier) stamp deed each (inl both) =
    let is = both.0 in
    record {
      earlier = earlier;
      long = sym both.0;
      spends = subst (λ (d : Deed). Spends earlier d.event d.draw) both.1 each.0;
      before = λ other d h low. by_case other d low h;
    }
  where
    by_case : (other : ℕ) (d : Deed) → other < stamp → IsDeedAt (last ∷ earlier) other d → IsDeedAt earlier other d
    by_case other d low (inl same) = let is = both.0 in let here = same.0 in absurd (omega (arith, is, here, low))
    by_case other d low (inr h) = h
spent_at (last ∷ earlier) stamp deed each (inr at) =
    let rest = spent_at earlier stamp deed each.1 at in
    record { earlier = rest.earlier; long = rest.long; spends = rest.spends; before = λ other d h low. rest.before other d (by_case other d low h) low }
  where
    by_case : (other : ℕ) (d : Deed) → other < stamp → IsDeedAt (last ∷ earlier) other d → IsDeedAt earlier other d
    by_case other d low (inl same) = let here = same.0 in let below = at_below earlier stamp deed at in absurd (omega (arith, here, low, below))
    by_case other d low (inr h) = h

none_named : (buffer stamp : ℕ) (log : List Deed) (other : ℕ) (d : Deed) → NoneSince buffer stamp log → IsDeedAt log other d → stamp < other → Names buffer d.event → ⊥
none_named buffer stamp [] other d none at high names = at
none_named buffer stamp (last ∷ earlier) other d none (inl both) high names = let is = both.0 in none.0 (omega (arith, is, high)) (subst (λ (d : Deed). Names buffer d.event) (sym both.1) names)
none_named buffer stamp (last ∷ earlier) other d none (inr at) high names = none_named buffer stamp earlier other d none.1 at high names

-- ---- nothing touches the buffer

named : (buffer : ℕ) (e : PoolEvent) → has_buffer buffer e ≡ true → Names buffer e
named buffer (pool.Got other) h = eqb-true other buffer h
named buffer pool.Empty h = let no : false ≡ true = h in absurd cc
named buffer (pool.Given other) h = eqb-true other buffer h
named buffer pool.Missed h = let no : false ≡ true = h in absurd cc

module _ (log : List Deed) (each : EachSpends log) (stamp : ℕ) (deed : Deed) (at : IsDeedAt log stamp deed) (buffer draw : ℕ) (gives : deed.event ≡ pool.Given buffer) (owed : deed.draw ≡ draw) where
  spent : IsSpent log stamp deed
  spent = spent_at log stamp deed each at

  lease : IsGot spent.earlier draw buffer × NoneSince buffer draw spent.earlier
  lease = subst (λ d. Spends spent.earlier (pool.Given buffer) d) owed (subst (λ e. Spends spent.earlier e deed.draw) gives spent.spends)

  draw_low : draw < stamp
  draw_low = let got = lease.0 in let low = at_below spent.earlier draw _ got.1 in let long = spent.long in omega (arith, low, long)

  untouched_one : (a : Answer) → IsTrue log a → (has_buffer buffer a.event && nat_lt draw a.stamp && nat_lt a.stamp stamp) ≡ false
  untouched_one a t = either (has_buffer buffer a.event && nat_lt draw a.stamp && nat_lt a.stamp stamp) refl
    where
      either : (b : Bool) → (has_buffer buffer a.event && nat_lt draw a.stamp && nat_lt a.stamp stamp) ≡ b → b ≡ false
      either false e = refl
      either true e =
          let outer = and_parts (has_buffer buffer a.event && nat_lt draw a.stamp) (nat_lt a.stamp stamp) e in
          let inner = and_parts (has_buffer buffer a.event) (nat_lt draw a.stamp) outer.0 in
          let before = spent.before a.stamp t.deed t.at (ltb-true a.stamp stamp outer.1) in
          absurd (none_named buffer draw spent.earlier a.stamp t.deed lease.1 before (ltb-true draw a.stamp inner.1) (subst (Names buffer) t.event (named buffer a.event inner.0)))

  untouched : (list : List Answer) → AllByRecursion (IsTrue log) list → is_touched (map pool_event list) buffer draw stamp ≡ false
  untouched list all =
      list_any_none (λ (e : StampedPoolEvent). has_buffer buffer e.event && nat_lt draw e.stamp && nat_lt e.stamp stamp) (map pool_event list)
      (all_map (λ (e : StampedPoolEvent). (has_buffer buffer e.event && nat_lt draw e.stamp && nat_lt e.stamp stamp) ≡ false) pool_event list
      (all_each (IsTrue log) (λ a. (has_buffer buffer a.event && nat_lt draw a.stamp && nat_lt a.stamp stamp) ≡ false) list untouched_one all))

-- ---- the gives of a node

-- what holds of all that is kept holds of one that is
pub of_kept : {X : Type 0} (P : Answer → Type 0) (f : X → Option Answer) (xs : List X) → AllByRecursion P (filter_map f xs) → AllByRecursion (λ x. (a : Answer) → f x ≡ Some a → P a) xs
of_kept P f [] all = tt
of_kept P f (x ∷ xs) all = (first (f x) all, of_kept P f xs (rest (f x) all))
  where
    first : (o : Option Answer) → AllByRecursion P (cons_option o (filter_map f xs)) → (a : Answer) → o ≡ Some a → P a
    first None all a e = let no : None ≡ Some a = e in absurd cc
    first (Some b) all a e = subst P (same_Some b a e) all.0

    rest : (o : Option Answer) → AllByRecursion P (cons_option o (filter_map f xs)) → AllByRecursion P (filter_map f xs)
    rest None all = all
    rest (Some b) all = all.1

module _ (adds : EventsAddThis) (W : PlainWorkload) (J : PlainJournal) (n : NodeDoings) (p : IsPooled W J n) where
  abbrev run : NodeRun
  run = node_at_end W J n

  all_given_true : AllByRecursion (λ (given : GivenPlace). (a : Answer) → give_at run given ≡ Some a → IsTrue p.log a) run.state.given
  all_given_true =
      of_kept (IsTrue p.log) (give_at run) run.state.given
      (subst (AllByRecursion (IsTrue p.log)) (sym (p.gives ∙ ap gives_in (answers_are 0 p.log))) (kept_true p.log (λ (a : Answer). is_any_given a.event) (answers 0 p.log) (answers_true 0 p.log)))

  give_answers : (given : GivenPlace) → (a : Answer) × (give_at run given ≡ Some a) → ((a : Answer) → give_at run given ≡ Some a → IsTrue p.log a)
      → option_map_or (λ (d : DrawnPage). answers_draw (pool_events run) given.stamp d.draw) (given_page run run.state given.place) false ≡ true
  give_answers given known true_of = by_page (given_page run run.state given.place) known.1 (true_of known.0 known.1)
    where
      by_draw : (draw : Draw) → give_of given.stamp draw ≡ Some known.0 → IsTrue p.log known.0 → answers_draw (pool_events run) given.stamp draw ≡ true
      by_draw (draws.Empty stamp) e t = let no : None ≡ Some known.0 = e in absurd cc
      by_draw (draws.Got buffer stamp) e t =
          let same = same_Some (record { stamp = given.stamp; event = pool.Given buffer; draw = stamp }) known.0 e in
          let at = subst (λ (a : Answer). IsDeedAt p.log a.stamp t.deed) (sym same) t.at in
          let event : t.deed.event ≡ pool.Given buffer = sym (ap (λ (a : Answer). a.event) same ∙ t.event) in
          let owed : t.deed.draw ≡ stamp = sym (ap (λ (a : Answer). a.draw) same ∙ t.draw) in
          and_from (nat_lt stamp given.stamp) (not (is_touched (pool_events run) buffer stamp given.stamp))
          (lt-ltb stamp given.stamp (draw_low p.log p.spent given.stamp t.deed at buffer stamp event owed))
          (ap (λ events. not (is_touched events buffer stamp given.stamp)) (pool_is adds W J n p)
          ∙ ap not (untouched p.log p.spent given.stamp t.deed at buffer stamp event owed (ordered W.settings.clients p.log) (ordered_true W.settings.clients p.log)))

      by_page : (o : Option DrawnPage) → option_and_then (λ (page : DrawnPage). give_of given.stamp page.draw) o ≡ Some known.0 → IsTrue p.log known.0
          → option_map_or (λ (d : DrawnPage). answers_draw (pool_events run) given.stamp d.draw) o false ≡ true
      by_page None e t = let no : None ≡ Some known.0 = e in absurd cc
      by_page (Some page) e t = by_draw page.draw e t

  pub node_answers : gives_answer run ≡ true
  node_answers =
      list_all_from (λ (given : GivenPlace). option_map_or (λ (d : DrawnPage). answers_draw (pool_events run) given.stamp d.draw) (given_page run run.state given.place) false) run.state.given
      (all_each_both (λ (given : GivenPlace). (a : Answer) × (give_at run given ≡ Some a)) (λ (given : GivenPlace). (a : Answer) → give_at run given ≡ Some a → IsTrue p.log a)
      (λ (given : GivenPlace). option_map_or (λ (d : DrawnPage). answers_draw (pool_events run) given.stamp d.draw) (given_page run run.state given.place) false ≡ true) run.state.given give_answers p.known all_given_true)

pub gives_answer_draws : DoingsAreFollowed → GivesAnswer
gives_answer_draws follows W d facts pools =
    ap (λ (run : Run). list_all gives_answer run.nodes) (follows W d facts)
    ∙ mapped_true gives_answer (node_at_end W (journal_of W d)) d.nodes
    (all_each (KeepsPool W (journal_of W d)) (λ (n : NodeDoings). gives_answer (node_at_end W (journal_of W d) n) ≡ true) d.nodes (λ n keeps. keeps.answers) pools)

-- ---- the promise of a pool that was closed

pub closed_keep : EventsAddThis → ClosedPoolsKeep
closed_keep adds W d facts pooled =
    all_by_place (KeepsPool W (journal_of W d)) d.nodes
    (λ v n h.
    let p = all_at (IsPooled W (journal_of W d)) d.nodes v n pooled h in
    let log : log_at (journal_of W d) n.node ≡ steps_of (all_events n) = ap (log_at (journal_of W d)) (number_is W d facts v n h) ∙ log_there W d facts v n h in
    record { stamped = node_stamped W (journal_of W d) n p log; history = is_history adds W (journal_of W d) n p; answers = node_answers adds W (journal_of W d) n p })
