-- What closing a pool tells makes its stamps number the events of the node, and these a history.
use Rattle.std.proofs.Common.{◌≡◌, ◌⊎◌, inl, inr, ℕ, zero, suc, ◌+◌, ◌<◌, ◌≤◌, Bool, true, false, ◌&&◌, ◌==◌, cond, List, [], ◌∷◌, ◌++◌, length, reverse, refl, sym, ap, subst, ◌∙◌, Option, Some, None, arith, map, filter, filter_map, option_map, count_by, eq-eqb, nat_eq, append-nil}
use Rattle.hs_law_run.proofs.Prelude.{AllByRecursion, cons_option, flat_map, range_with_len, list_all, option_and_then, and_from, flat_map-append, length-append, length-map, map-append, reverse-append, filter-append, length-filter, flat_range_alike, list_all_range_below, all_at, map_flat, Draw, Step, PlainJournal, EventsAddThis, GivenPlace, PlainWorkload, DrawnPage, stamp_of, ClientSends, client_sends, draws_at, place_of, Deed, Answer, events_of, answer_to, answers_by, put_if, is_any_given, PoolEvent, is_missed, IsHistoryBack, NodeRun, Run, log_at, StampedPoolEvent, by_stamp, given_page, pool_events, rise, log_stamps, NodeDoings, all_events, steps_of, journal_of, node_at_end, DoingsAreFollowed, draw_answer, give_of, give_at, miss_in, IsPooled}
use Rattle.std.proofs.lemmas.List.{reverse-reverse}
use Rattle.hs_records.specs.declared.journal.Draw.TheVariants as draws
use Rattle.hs_records.specs.declared.journal.Step.TheVariants as steps
use Rattle.hs_words.specs.PoolHistory.{IsPoolHistory}
use Rattle.hs_words.specs.PoolHistory as pool
use Rattle.hs_law_journal.specs.Pooled.{event_drawn, drawn_event, buffer_of, given_event, missed_event, pool_history}
use Rattle.hs_law_journal.specs.Shape.{node_draws, draw_stamps, node_stamps, are_numbered, node_has_stamps}
use Rattle.hs_law_run.specs.Playing.{AreStamped, AreHistories}
use Rattle.hs_law_run.specs.Pools.{KeepsPool}
use Rattle.hs_law_run.proofs.Answers.{own as own_of, answers, answers_are, at_stamp, stamps, stamps_rise, drawers, everyone, as_many, one_at, just_one, drawers_last, drawers_earlier, at_last, at_earlier}
use Rattle.hs_law_run.proofs.Nodes.{node_there, own_log}

-- ---- stamps

pub stamp_same : (draw : Draw) → (draw_answer draw).stamp ≡ stamp_of draw
stamp_same (draws.Got buffer stamp) = refl
stamp_same (draws.Empty stamp) = refl

draw_stamps_are : (list : List Draw) → draw_stamps list ≡ stamps (map draw_answer list)
draw_stamps_are [] = refl
draw_stamps_are (draw ∷ list) = ap (λ s. s ∷ draw_stamps list) (sym (stamp_same draw)) ∙ ap (λ rest. (draw_answer draw).stamp ∷ rest) (draw_stamps_are list)

counted : (s : ℕ) (list : List Answer) → count_by (λ t. t == s) (stamps list) ≡ length (at_stamp s list)
counted s list = sym (length-filter (λ t. t == s) (stamps list)) ∙ long list
  where
    long : (list : List Answer) → length (filter (λ t. t == s) (stamps list)) ≡ length (at_stamp s list)
    long [] = refl
    long (a ∷ list) = either (a.stamp == s) (long list)
      where
        either : (b : Bool) → length (filter (λ t. t == s) (stamps list)) ≡ length (at_stamp s list)
            → length (cond b (a.stamp ∷ filter (λ t. t == s) (stamps list)) (filter (λ t. t == s) (stamps list))) ≡ length (cond b (a ∷ at_stamp s list) (at_stamp s list))
        either true h = ap suc h
        either false h = h

module _ (W : PlainWorkload) (J : PlainJournal) (n : NodeDoings) (p : IsPooled W J n) where
  abbrev clients : ℕ
  clients = W.settings.clients

  pub client_draws : (client : ℕ) → client < clients → map draw_answer (draws_at J (place_of clients n.node client)) ≡ answers (suc client) p.log
  client_draws client low = p.drawn client low ∙ answers_are (suc client) p.log

  drawn_stamps : (start count : ℕ) → start + count ≤ clients
      → flat_map draw_stamps (map (λ number. draws_at J (place_of clients n.node number)) (range_with_len start count)) ≡ stamps (drawers start count p.log)
  drawn_stamps start zero few = refl
  drawn_stamps start (suc count) few =
      let rest = drawn_stamps (start + 1) count (omega (arith, few)) in
      ap (λ front. front ++ flat_map draw_stamps (map (λ number. draws_at J (place_of clients n.node number)) (range_with_len (start + 1) count)))
      (draw_stamps_are (draws_at J (place_of clients n.node start)) ∙ ap stamps (client_draws start (omega (arith, few))))
      ∙ ap (λ back. stamps (answers (suc start) p.log) ++ back) rest
      ∙ sym (map-append (λ (a : Answer). a.stamp) (answers (suc start) p.log) (drawers (start + 1) count p.log))

  given_stamps : log_stamps (steps_of (all_events n)) ≡ stamps (answers 0 p.log)
  given_stamps = p.stamps ∙ ap stamps (answers_are 0 p.log)

  stamps_are : log_at J n.node ≡ steps_of (all_events n) → node_stamps W J n.node ≡ stamps (everyone clients p.log)
  stamps_are log =
      ap (λ front. front ++ log_stamps (log_at J n.node)) (drawn_stamps 0 clients (omega arith))
      ∙ ap (λ l. stamps (drawers 0 clients p.log) ++ log_stamps l) log
      ∙ ap (λ back. stamps (drawers 0 clients p.log) ++ back) given_stamps
      ∙ sym (map-append (λ (a : Answer). a.stamp) (drawers 0 clients p.log) (answers 0 p.log))

  numbered : log_at J n.node ≡ steps_of (all_events n) → are_numbered (node_stamps W J n.node) ≡ true
  numbered log =
      ap are_numbered (stamps_are log)
      ∙ list_all_range_below (λ s. nat_eq (count_by (λ t. t == s) (stamps (everyone clients p.log))) 1) 0 (length (stamps (everyone clients p.log)))
      (λ s low.
      let long = length-map (everyone clients p.log) (λ (a : Answer). a.stamp) in
      let many = as_many clients p.log p.nobody_else in
      eq-eqb (count_by (λ t. t == s) (stamps (everyone clients p.log))) 1 (counted s (everyone clients p.log) ∙ one_at clients p.log p.nobody_else s (omega (arith, low, long, many))))

  draws_rise : (start count : ℕ) → start + count ≤ clients → list_all (λ list. rise (draw_stamps list)) (map (λ number. draws_at J (place_of clients n.node number)) (range_with_len start count)) ≡ true
  draws_rise start zero few = refl
  draws_rise start (suc count) few =
      and_from (rise (draw_stamps (draws_at J (place_of clients n.node start)))) (list_all (λ list. rise (draw_stamps list)) (map (λ number. draws_at J (place_of clients n.node number)) (range_with_len (start + 1) count)))
      (ap rise (draw_stamps_are (draws_at J (place_of clients n.node start)) ∙ ap stamps (client_draws start (omega (arith, few)))) ∙ stamps_rise (suc start) p.log) (draws_rise (start + 1) count (omega (arith, few)))

  pub node_stamped : log_at J n.node ≡ steps_of (all_events n) → node_has_stamps W J n.node ≡ true
  node_stamped log =
      and_from (are_numbered (node_stamps W J n.node) && list_all (λ list. rise (draw_stamps list)) (node_draws W J n.node)) (rise (log_stamps (log_at J n.node)))
      (and_from (are_numbered (node_stamps W J n.node)) (list_all (λ list. rise (draw_stamps list)) (node_draws W J n.node)) (numbered log) (draws_rise 0 clients (omega arith)))
      (ap (λ l. rise (log_stamps l)) log ∙ ap rise given_stamps ∙ stamps_rise 0 p.log)

pub are_stamped : AreStamped
are_stamped W d facts pools =
    list_all_range_below (node_has_stamps W (journal_of W d)) 0 W.settings.nodes
    (λ v low.
    let found = node_there W d facts v (omega (arith, low)) in
    ap (node_has_stamps W (journal_of W d)) (sym found.2) ∙ (all_at (KeepsPool W (journal_of W d)) d.nodes v found.0 pools found.1).stamped)

-- ---- the events of the pool

abbrev pub pool_event : Answer → StampedPoolEvent
pool_event a = record { stamp = a.stamp; event = a.event }

drawn_same : (draw : Draw) → pool_event (draw_answer draw) ≡ record { stamp = stamp_of draw; event = event_drawn draw }
drawn_same (draws.Got buffer stamp) = refl
drawn_same (draws.Empty stamp) = refl

draws_same : (pages : List DrawnPage) → map drawn_event pages ≡ map pool_event (map draw_answer (map (λ (page : DrawnPage). page.draw) pages))
draws_same [] = refl
draws_same (page ∷ pages) =
    ap (λ e. e ∷ map drawn_event pages) (sym (drawn_same page.draw)) ∙ ap (λ rest. pool_event (draw_answer page.draw) ∷ rest) (draws_same pages)

module _ {X : Type 0} (f : X → Option StampedPoolEvent) (g : X → Option Answer) (same : (x : X) → f x ≡ option_map pool_event (g x)) where
  kept_same : (xs : List X) → filter_map f xs ≡ map pool_event (filter_map g xs)
  kept_same [] = refl
  kept_same (x ∷ xs) = ap (λ o. cons_option o (filter_map f xs)) (same x) ∙ ap (cons_option (option_map pool_event (g x))) (kept_same xs) ∙ either (g x)
    where
      either : (o : Option Answer) → cons_option (option_map pool_event o) (map pool_event (filter_map g xs)) ≡ map pool_event (cons_option o (filter_map g xs))
      either None = refl
      either (Some a) = refl

given_same : (run : NodeRun) (given : GivenPlace) → given_event run given ≡ option_map pool_event (give_at run given)
given_same run given = either (given_page run run.state given.place)
  where
    by_draw : (draw : Draw) → option_map (λ buffer. record { stamp = given.stamp; event = pool.Given buffer }) (buffer_of draw) ≡ option_map pool_event (give_of given.stamp draw)
    by_draw (draws.Got buffer stamp) = refl
    by_draw (draws.Empty stamp) = refl

    either : (o : Option DrawnPage) → option_map (λ buffer. record { stamp = given.stamp; event = pool.Given buffer }) (option_and_then (λ (d : DrawnPage). buffer_of d.draw) o)
        ≡ option_map pool_event (option_and_then (λ (page : DrawnPage). give_of given.stamp page.draw) o)
    either None = refl
    either (Some page) = by_draw page.draw

missed_same : (step : Step) → missed_event step ≡ option_map pool_event (miss_in step)
missed_same (steps.Chunk c) = refl
missed_same (steps.Crumb c) = refl
missed_same (steps.Trigger c) = refl
missed_same steps.Ask = refl
missed_same steps.Turn = refl
missed_same (steps.Given stamp) = refl
missed_same (steps.Missed stamp) = refl
missed_same steps.Unread = refl

abbrev pub gives_in : List Answer → List Answer
gives_in list = filter (λ (a : Answer). is_any_given a.event) list

abbrev pub misses_in : List Answer → List Answer
misses_in list = filter (λ (a : Answer). is_missed a.event) list

-- the answers in the order in which the events of a pool stand
abbrev pub ordered : ℕ → List Deed → List Answer
ordered count log = drawers 0 count log ++ gives_in (answers 0 log) ++ misses_in (answers 0 log)

-- a filter behind another
filters_swap : (p q : Answer → Bool) (list : List Answer) → filter p (filter q list) ≡ filter q (filter p list)
filters_swap p q [] = refl
filters_swap p q (a ∷ list) = either (p a) refl (q a) refl (filters_swap p q list)
  where
    either : (x : Bool) → p a ≡ x → (y : Bool) → q a ≡ y → filter p (filter q list) ≡ filter q (filter p list)
        → filter p (cond y (a ∷ filter q list) (filter q list)) ≡ filter q (cond x (a ∷ filter p list) (filter p list))
    either true e true f h = ap (λ b. cond b (a ∷ filter p (filter q list)) (filter p (filter q list))) e ∙ ap (λ rest. a ∷ rest) h ∙ sym (ap (λ b. cond b (a ∷ filter q (filter p list)) (filter q (filter p list))) f)
    either true e false f h = h ∙ sym (ap (λ b. cond b (a ∷ filter q (filter p list)) (filter q (filter p list))) f)
    either false e true f h = ap (λ b. cond b (a ∷ filter p (filter q list)) (filter p (filter q list))) e ∙ h
    either false e false f h = h

abbrev pub IsKind : Answer → Type 0
IsKind a = (is_any_given a.event ≡ true) ⊎ (is_missed a.event ≡ true)

not_both : (e : PoolEvent) → is_any_given e ≡ true → is_missed e ≡ false
not_both (pool.Got b) h = refl
not_both pool.Empty h = refl
not_both (pool.Given b) h = refl
not_both pool.Missed h = let no : false ≡ true = h in absurd cc

nor_both : (e : PoolEvent) → is_missed e ≡ true → is_any_given e ≡ false
nor_both (pool.Got b) h = refl
nor_both pool.Empty h = refl
nor_both (pool.Given b) h = let no : false ≡ true = h in absurd cc
nor_both pool.Missed h = refl

one_kind : (a : Answer) → IsKind a → gives_in (a ∷ []) ++ misses_in (a ∷ []) ≡ a ∷ []
one_kind a (inl given) = ap (λ b. cond b (a ∷ []) [] ++ misses_in (a ∷ [])) given ∙ ap (λ b. a ∷ cond b (a ∷ []) []) (not_both a.event given)
one_kind a (inr missed) = ap (λ b. cond b (a ∷ []) [] ++ misses_in (a ∷ [])) (nor_both a.event missed) ∙ ap (λ b. cond b (a ∷ []) []) missed

abbrev pub Kinds : List Deed → Type 0
Kinds log = AllByRecursion IsKind (answers_by 0 log)

pub kinds_before : (deed : Deed) (earlier : List Deed) → Kinds (deed ∷ earlier) → Kinds earlier
kinds_before deed earlier kinds = either (deed.by == 0) kinds
  where
    either : (b : Bool) → AllByRecursion IsKind (put_if b (answer_to deed (length earlier)) (answers_by 0 earlier)) → Kinds earlier
    either true h = h.1
    either false h = h

pub kind_of : (deed : Deed) (earlier : List Deed) → Kinds (deed ∷ earlier) → (deed.by == 0) ≡ true → IsKind (answer_to deed (length earlier))
kind_of deed earlier kinds e = (subst (λ b. AllByRecursion IsKind (put_if b (answer_to deed (length earlier)) (answers_by 0 earlier))) e kinds).0

ordered_at : (s count : ℕ) (log : List Deed) → at_stamp s (ordered count log) ≡ at_stamp s (drawers 0 count log) ++ gives_in (at_stamp s (answers 0 log)) ++ misses_in (at_stamp s (answers 0 log))
ordered_at s count log =
    filter-append (λ (a : Answer). a.stamp == s) (drawers 0 count log ++ gives_in (answers 0 log)) (misses_in (answers 0 log))
    ∙ ap (λ front. front ++ at_stamp s (misses_in (answers 0 log))) (filter-append (λ (a : Answer). a.stamp == s) (drawers 0 count log) (gives_in (answers 0 log)))
    ∙ ap (λ middle. at_stamp s (drawers 0 count log) ++ middle ++ at_stamp s (misses_in (answers 0 log))) (filters_swap (λ (a : Answer). a.stamp == s) (λ (a : Answer). is_any_given a.event) (answers 0 log))
    ∙ ap (λ back. at_stamp s (drawers 0 count log) ++ gives_in (at_stamp s (answers 0 log)) ++ back) (filters_swap (λ (a : Answer). a.stamp == s) (λ (a : Answer). is_missed a.event) (answers 0 log))

ordered_last : (count : ℕ) (deed : Deed) (earlier : List Deed) → deed.by ≤ count → Kinds (deed ∷ earlier) → at_stamp (length earlier) (ordered count (deed ∷ earlier)) ≡ answer_to deed (length earlier) ∷ []
ordered_last count deed earlier low kinds =
    ordered_at (length earlier) count (deed ∷ earlier)
    ∙ ap (λ front. front ++ gives_in (at_stamp (length earlier) (answers 0 (deed ∷ earlier))) ++ misses_in (at_stamp (length earlier) (answers 0 (deed ∷ earlier)))) (drawers_last count deed earlier)
    ∙ ap (λ giver. flat_map (λ client. own_of (deed.by == suc client) (answer_to deed (length earlier))) (range_with_len 0 count) ++ gives_in giver ++ misses_in giver) (at_last 0 deed earlier)
    ∙ either (just_one deed.by (answer_to deed (length earlier)) count low)
  where
    either : ((flat_map (λ client. own_of (deed.by == suc client) (answer_to deed (length earlier))) (range_with_len 0 count) ≡ answer_to deed (length earlier) ∷ []) × (nat_eq deed.by 0 ≡ false))
        ⊎ ((flat_map (λ client. own_of (deed.by == suc client) (answer_to deed (length earlier))) (range_with_len 0 count) ≡ []) × (nat_eq deed.by 0 ≡ true))
        → flat_map (λ client. own_of (deed.by == suc client) (answer_to deed (length earlier))) (range_with_len 0 count) ++ gives_in (own_of (deed.by == 0) (answer_to deed (length earlier)))
        ++ misses_in (own_of (deed.by == 0) (answer_to deed (length earlier)))
        ≡ answer_to deed (length earlier) ∷ []
    either (inl both) =
        ap (λ front. front ++ gives_in (own_of (deed.by == 0) (answer_to deed (length earlier))) ++ misses_in (own_of (deed.by == 0) (answer_to deed (length earlier)))) both.0
        ∙ ap (λ t. (answer_to deed (length earlier) ∷ []) ++ gives_in (own_of t (answer_to deed (length earlier))) ++ misses_in (own_of t (answer_to deed (length earlier)))) both.1
    either (inr both) =
        ap (λ front. front ++ gives_in (own_of (deed.by == 0) (answer_to deed (length earlier))) ++ misses_in (own_of (deed.by == 0) (answer_to deed (length earlier)))) both.0
        ∙ ap (λ t. gives_in (own_of t (answer_to deed (length earlier))) ++ misses_in (own_of t (answer_to deed (length earlier)))) both.1
        ∙ one_kind (answer_to deed (length earlier)) (kind_of deed earlier kinds both.1)

ordered_earlier : (s count : ℕ) (deed : Deed) (earlier : List Deed) → s < length earlier → at_stamp s (ordered count (deed ∷ earlier)) ≡ at_stamp s (ordered count earlier)
ordered_earlier s count deed earlier less =
    ordered_at s count (deed ∷ earlier)
    ∙ ap (λ front. front ++ gives_in (at_stamp s (answers 0 (deed ∷ earlier))) ++ misses_in (at_stamp s (answers 0 (deed ∷ earlier)))) (drawers_earlier s count deed earlier less)
    ∙ ap (λ own. at_stamp s (drawers 0 count earlier) ++ gives_in own ++ misses_in own) (at_earlier 0 s deed earlier less)
    ∙ sym (ordered_at s count earlier)

abbrev events_at : ℕ → List Answer → List PoolEvent
events_at s list = map (λ (a : Answer). a.event) (at_stamp s list)

pub range_last : (start count : ℕ) → range_with_len start (suc count) ≡ range_with_len start count ++ (start + count) ∷ []
range_last start zero = let here : start ≡ start + 0 = omega arith in ap (λ n. n ∷ []) here
range_last start (suc count) = let more : start + 1 + count ≡ start + suc count = omega arith in ap (λ rest. start ∷ rest) (range_last (start + 1) count ∙ ap (λ n. range_with_len (start + 1) count ++ n ∷ []) more)

-- by their stamps, these are the events of the log
history_is : (count : ℕ) (log : List Deed) → AllByRecursion (λ (deed : Deed). deed.by ≤ count) log → Kinds log → flat_map (λ s. events_at s (ordered count log)) (range_with_len 0 (length log)) ≡ reverse (events_of log)
history_is count [] ends kinds = refl
history_is count (deed ∷ earlier) ends kinds =
    let k = length earlier in
    let zeroth : 0 + k ≡ k = omega arith in
    ap (flat_map (λ s. events_at s (ordered count (deed ∷ earlier)))) (range_last 0 k)
    ∙ flat_map-append (λ s. events_at s (ordered count (deed ∷ earlier))) (range_with_len 0 k) ((0 + k) ∷ [])
    ∙ ap (λ front. front ++ flat_map (λ s. events_at s (ordered count (deed ∷ earlier))) ((0 + k) ∷ []))
    (flat_range_alike (λ s. events_at s (ordered count (deed ∷ earlier))) (λ s. events_at s (ordered count earlier)) 0 k
    (λ s low. ap (map (λ (a : Answer). a.event)) (ordered_earlier s count deed earlier (omega (arith, low))))
    ∙ history_is count earlier ends.1 (kinds_before deed earlier kinds))
    ∙ ap (λ back. reverse (events_of earlier) ++ back)
    (append-nil (events_at (0 + k) (ordered count (deed ∷ earlier)))
    ∙ ap (λ s. events_at s (ordered count (deed ∷ earlier))) zeroth
    ∙ ap (map (λ (a : Answer). a.event)) (ordered_last count deed earlier ends.0 kinds))
    ∙ sym (reverse-append (deed.event ∷ []) (events_of earlier))

-- ---- a node's pool

kinds_long : (log : List Deed) → Kinds log → length (gives_in (answers 0 log)) + length (misses_in (answers 0 log)) ≡ length (answers 0 log)
kinds_long [] kinds = refl
kinds_long (deed ∷ earlier) kinds =
    let before = kinds_long earlier (kinds_before deed earlier kinds) in
    let one = own_of (deed.by == 0) (answer_to deed (length earlier)) in
    let gives = ap length (filter-append (λ (a : Answer). is_any_given a.event) (answers 0 earlier) one) ∙ length-append (gives_in (answers 0 earlier)) (gives_in one) in
    let misses = ap length (filter-append (λ (a : Answer). is_missed a.event) (answers 0 earlier) one) ∙ length-append (misses_in (answers 0 earlier)) (misses_in one) in
    let all = length-append (answers 0 earlier) one in
    let last = either (deed.by == 0) (λ e. kind_of deed earlier kinds e) refl in
    omega (arith, before, gives, misses, all, last)
  where
    either : (b : Bool) → ((deed.by == 0) ≡ true → IsKind (answer_to deed (length earlier))) → (deed.by == 0) ≡ b
        → length (gives_in (own_of b (answer_to deed (length earlier)))) + length (misses_in (own_of b (answer_to deed (length earlier)))) ≡ length (own_of b (answer_to deed (length earlier)))
    either true kind e =
        let a = answer_to deed (length earlier) in
        sym (length-append (gives_in (a ∷ [])) (misses_in (a ∷ []))) ∙ ap length (one_kind a (kind e))
    either false kind e = refl

pub ordered_long : (count : ℕ) (log : List Deed) → AllByRecursion (λ (deed : Deed). deed.by ≤ count) log → Kinds log → length (ordered count log) ≡ length log
ordered_long count log ends kinds =
    let many = as_many count log ends in
    let all = length-append (drawers 0 count log) (answers 0 log) in
    let one = length-append (drawers 0 count log ++ gives_in (answers 0 log)) (misses_in (answers 0 log)) in
    let two = length-append (drawers 0 count log) (gives_in (answers 0 log)) in
    let parts = kinds_long log kinds in
    omega (arith, many, all, one, two, parts)

-- events by their stamps, from the answers
stamped_same : (s : ℕ) (list : List Answer) → filter (λ (e : StampedPoolEvent). e.stamp == s) (map pool_event list) ≡ map pool_event (at_stamp s list)
stamped_same s [] = refl
stamped_same s (a ∷ list) = either (a.stamp == s) (stamped_same s list)
  where
    either : (b : Bool) → filter (λ (e : StampedPoolEvent). e.stamp == s) (map pool_event list) ≡ map pool_event (at_stamp s list)
        → cond b (pool_event a ∷ filter (λ (e : StampedPoolEvent). e.stamp == s) (map pool_event list)) (filter (λ (e : StampedPoolEvent). e.stamp == s) (map pool_event list)) ≡ map pool_event (cond b (a ∷ at_stamp s list) (at_stamp s list))
    either true h = ap (λ rest. pool_event a ∷ rest) h
    either false h = h

events_same : (list : List Answer) → map (λ (e : StampedPoolEvent). e.event) (map pool_event list) ≡ map (λ (a : Answer). a.event) list
events_same [] = refl
events_same (a ∷ list) = ap (λ rest. a.event ∷ rest) (events_same list)

by_stamps : (list : List Answer) (bound : ℕ) → map (λ (e : StampedPoolEvent). e.event) (by_stamp (λ (e : StampedPoolEvent). e.stamp) bound (map pool_event list)) ≡ flat_map (λ s. events_at s list) (range_with_len 0 bound)
by_stamps list bound =
    map_flat (λ s. filter (λ (e : StampedPoolEvent). e.stamp == s) (map pool_event list)) (λ (e : StampedPoolEvent). e.event) (range_with_len 0 bound)
    ∙ flat_range_alike (λ s. map (λ (e : StampedPoolEvent). e.event) (filter (λ (e : StampedPoolEvent). e.stamp == s) (map pool_event list))) (λ s. events_at s list) 0 bound
    (λ s low. ap (map (λ (e : StampedPoolEvent). e.event)) (stamped_same s list) ∙ events_same (at_stamp s list))

module _ (adds : EventsAddThis) (W : PlainWorkload) (J : PlainJournal) (n : NodeDoings) (p : IsPooled W J n) where
  abbrev run : NodeRun
  run = node_at_end W J n

  pages_drawn : (start count : ℕ) → start + count ≤ W.settings.clients
      → map drawn_event (flat_map (λ (sends : ClientSends). sends.drawn) (map (client_sends W J n.node) (range_with_len start count))) ≡ map pool_event (drawers start count p.log)
  pages_drawn start zero few = refl
  pages_drawn start (suc count) few =
      let drawn = (client_sends W J n.node start).drawn in
      let rest = flat_map (λ (sends : ClientSends). sends.drawn) (map (client_sends W J n.node) (range_with_len (start + 1) count)) in
      map-append drawn_event drawn rest
      ∙ ap (λ front. front ++ map drawn_event rest)
      (draws_same drawn ∙ ap (λ list. map pool_event (map draw_answer list)) (p.paged start (omega (arith, few))) ∙ ap (map pool_event) (client_draws W J n p start (omega (arith, few))))
      ∙ ap (λ back. map pool_event (answers (suc start) p.log) ++ back) (pages_drawn (start + 1) count (omega (arith, few)))
      ∙ sym (map-append pool_event (answers (suc start) p.log) (drawers (start + 1) count p.log))

  gives_are : filter_map (given_event run) run.state.given ≡ map pool_event (gives_in (answers 0 p.log))
  gives_are = kept_same (given_event run) (give_at run) (given_same run) run.state.given ∙ ap (map pool_event) (p.gives ∙ ap gives_in (answers_are 0 p.log))

  misses_are : filter_map missed_event run.state.log ≡ map pool_event (misses_in (answers 0 p.log))
  misses_are =
      ap (filter_map missed_event) (own_log adds W.settings n.node (all_events n))
      ∙ kept_same missed_event miss_in missed_same (steps_of (all_events n))
      ∙ ap (map pool_event) (p.misses ∙ ap misses_in (answers_are 0 p.log))

  pub pool_is : pool_events run ≡ map pool_event (ordered W.settings.clients p.log)
  pool_is =
      ap (λ front. front ++ filter_map (given_event run) run.state.given ++ filter_map missed_event run.state.log) (pages_drawn 0 W.settings.clients (omega arith))
      ∙ ap (λ middle. map pool_event (drawers 0 W.settings.clients p.log) ++ middle ++ filter_map missed_event run.state.log) gives_are
      ∙ ap (λ back. map pool_event (drawers 0 W.settings.clients p.log) ++ map pool_event (gives_in (answers 0 p.log)) ++ back) misses_are
      ∙ sym (map-append pool_event (drawers 0 W.settings.clients p.log ++ gives_in (answers 0 p.log)) (misses_in (answers 0 p.log))
      ∙ ap (λ front. front ++ map pool_event (misses_in (answers 0 p.log))) (map-append pool_event (drawers 0 W.settings.clients p.log) (gives_in (answers 0 p.log))))

  history_there : pool_history run ≡ reverse (events_of p.log)
  history_there =
      let list = ordered W.settings.clients p.log in
      ap (λ events. map (λ (e : StampedPoolEvent). e.event) (by_stamp (λ (e : StampedPoolEvent). e.stamp) (length events) events)) pool_is
      ∙ by_stamps list (length (map pool_event list))
      ∙ ap (λ bound. flat_map (λ s. events_at s list) (range_with_len 0 bound)) (length-map list pool_event ∙ ordered_long W.settings.clients p.log p.nobody_else p.kinds)
      ∙ history_is W.settings.clients p.log p.nobody_else p.kinds

  pub is_history : IsPoolHistory W.settings.buffers (pool_history run)
  is_history = subst (IsHistoryBack W.settings.buffers) (sym (ap reverse history_there ∙ reverse-reverse (events_of p.log))) p.lawful

histories_at : (W : PlainWorkload) (J : PlainJournal) (ns : List NodeDoings) → AllByRecursion (KeepsPool W J) ns → AllByRecursion (λ (run : NodeRun). IsPoolHistory W.settings.buffers (pool_history run)) (map (node_at_end W J) ns)
histories_at W J [] all = tt
histories_at W J (n ∷ ns) all = (all.0.history, histories_at W J ns all.1)

pub are_histories : DoingsAreFollowed → AreHistories
are_histories follows W d facts pools =
    subst (λ (run : Run). AllByRecursion (λ (run : NodeRun). IsPoolHistory W.settings.buffers (pool_history run)) run.nodes) (sym (follows W d facts)) (histories_at W (journal_of W d) d.nodes pools)
