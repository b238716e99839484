-- The stamps of a node's pool events are those that its draws and its log bear. So each number below their count is that of one
-- event, which stands at its place in the history.
use Rattle.std.proofs.Common.{◌≡◌, ◌⊎◌, inl, inr, ℕ, zero, suc, ◌+◌, ◌-◌, ◌<◌, ◌≤◌, Bool, true, false, ◌&&◌, cond, List, [], ◌∷◌, ◌++◌, length, refl, sym, ap, subst, ◌∙◌, Option, Some, None, arith, map, filter, filter_map, option_map, slice_get, count_by, append_assoc, append-nil, eqb, eqb-true, eq-eqb, ltb, ltb-true, ltb-false, nat_eq, length-append, eq-or-lt_of_le}
use Rattle.hs_law_outcome.proofs.Prelude.{AllByRecursion, flat_map, range_with_len, list_all, cons_option, option_and_then, option_map_or, and_parts, length-map, map-append, nil_from_length, flat_map-map, slice_get-map, same_Some, map_flat, all_at, all_by_place, count_cons, count_append, ClientId, Draw, Step, PlainJournal, GivenPlace, PlainWorkload, DrawnPage, stamp_of, drawn_from, TimedPagesAreThePages, ClientSends, client_sends, operations_at, draws_at, place_of, TimedPage, timed_pages, PoolEvent, Empty, IsPoolHistory, IsOfJournal, RunsAreOfTheJournal, NodeRun, Run, followed, log_at, GivesAreNoted, IsLawful, FollowingPlaysOut, StampedPoolEvent, by_stamp, event_drawn, drawn_event, node_pages, given_buffer, given_event, missed_event, pool_events, pool_history, log_stamps, node_draws, draw_stamps, node_stamps, EmptyOnlyWhereEmpty, EndsItsTraces}
use Rattle.std.proofs.lemmas.List.Sums.{count_by-le-length}
use Rattle.hs_base.proofs.Parts.{flat_alike}
use Rattle.hs_base.proofs.Counts.{one_if as one, none_below_zero}
use Rattle.hs_records.specs.declared.journal.Draw.TheVariants as draws
use Rattle.hs_records.specs.declared.journal.Step.TheVariants as steps
use Rattle.hs_words.specs.PoolHistory as pool
use Rattle.hs_law_journal.specs.Gives.{given_stamp, GivesAsNoted}
use Rattle.hs_law_journal.specs.Pooled.{given_page, buffer_of, answers_draw, gives_answer}
use Rattle.hs_law_journal.specs.Shape.{are_numbered, rise, node_has_stamps}
use Rattle.hs_law_outcome.specs.Nulls.{FoundNothing, NullsFoundNothing, EmptyDrawsFoundNothing}
use Rattle.hs_law_outcome.proofs.Entries.{shape_counts, same_length, ends_at}

-- ---- counts

module _ {X : Type 0} (p : X → Bool) where
  full_case : (x : X) (xs : List X) (b : Bool) → p x ≡ b → one b + count_by p xs ≡ suc (length xs) → count_by p xs ≤ length xs → (p x ≡ true) × (count_by p xs ≡ length xs)
  full_case x xs true e h few = (e, omega (arith, h))
  full_case x xs false e h few = absurd (omega (arith, h, few))

  -- where the count is the length, each passes
  pub count_full : (xs : List X) → count_by p xs ≡ length xs → AllByRecursion (λ x. p x ≡ true) xs
  count_full [] h = tt
  count_full (x ∷ xs) h =
      let first = count_cons p x xs in
      let case = full_case x xs (p x) refl (sym first ∙ h) (count_by-le-length p xs) in
      (case.0, count_full xs case.1)

pub count_true : {X : Type 0} (xs : List X) → count_by (λ (_ : X). true) xs ≡ length xs
count_true [] = refl
count_true {X = X} (x ∷ xs) = let first = count_cons (λ (_ : X). true) x xs in let rest = count_true xs in omega (arith, first, rest)

-- ---- numbered stamps

abbrev at : ℕ → ℕ → Bool
at s t = eqb t s

pub below_case : (x n : ℕ) (a b c : Bool) → ltb x (n + 1) ≡ a → ltb x n ≡ b → eqb x n ≡ c → one a ≡ one b + one c
below_case x n true true true e f g = let low = ltb-true x n f in let same = eqb-true x n g in absurd (omega (arith, low, same))
below_case x n true true false e f g = refl
below_case x n true false true e f g = refl
below_case x n true false false e f g =
    let low = ltb-true x (n + 1) e in
    let high = ltb-false x n f in
    let same : x ≡ n = omega (arith, low, high) in
    let yes = eq-eqb x n same in let no : true ≡ false = sym yes ∙ g in absurd cc
below_case x n false true c e f g = let low = ltb-true x n f in let high = ltb-false x (n + 1) e in absurd (omega (arith, low, high))
below_case x n false false true e f g = let same = eqb-true x n g in let high = ltb-false x (n + 1) e in absurd (omega (arith, same, high))
below_case x n false false false e f g = refl

count_below : (n : ℕ) (stamps : List ℕ) → count_by (λ t. ltb t (n + 1)) stamps ≡ count_by (λ t. ltb t n) stamps + count_by (at n) stamps
count_below n [] = refl
count_below n (x ∷ stamps) =
    let a = count_cons (λ t. ltb t (n + 1)) x stamps in
    let b = count_cons (λ t. ltb t n) x stamps in
    let c = count_cons (at n) x stamps in
    let here = below_case x n (ltb x (n + 1)) (ltb x n) (eqb x n) refl refl refl in
    let rest = count_below n stamps in
    omega (arith, a, b, c, here, rest)

all_below : (n : ℕ) (stamps : List ℕ) → ((s : ℕ) → s < n → count_by (at s) stamps ≡ 1) → count_by (λ t. ltb t n) stamps ≡ n
all_below zero stamps each = none_below_zero stamps
all_below (suc n) stamps each =
    let rest = all_below n stamps (λ s h. each s (omega (arith, h))) in
    let here = each n (omega arith) in
    let more = count_below n stamps in
    let same : n + 1 ≡ suc n = omega arith in
    ap (λ (k : ℕ). count_by (λ t. ltb t k) stamps) (sym same) ∙ omega_sum more rest here
  where
    omega_sum : count_by (λ t. ltb t (n + 1)) stamps ≡ count_by (λ t. ltb t n) stamps + count_by (at n) stamps → count_by (λ t. ltb t n) stamps ≡ n → count_by (at n) stamps ≡ 1
        → count_by (λ t. ltb t (n + 1)) stamps ≡ suc n
    omega_sum a b c = omega (arith, a, b, c)

from_case : (p : ℕ → Bool) (start s : ℕ) → (start ≡ s) ⊎ (start < s) → p start ≡ true → (start < s → p s ≡ true) → p s ≡ true
from_case p start s (inl e) here on = ap p (sym e) ∙ here
from_case p start s (inr more) here on = on more

from_numbered : (p : ℕ → Bool) (start count : ℕ) → list_all p (range_with_len start count) ≡ true → (s : ℕ) → start ≤ s → s < start + count → p s ≡ true
from_numbered p start zero h s low high = absurd (omega (arith, low, high))
from_numbered p start (suc count) h s low high =
    let both = and_parts (p start) (list_all p (range_with_len (start + 1) count)) h in
    from_case p start s (eq-or-lt_of_le low) both.0 (λ more. from_numbered p (start + 1) count both.1 s (omega (arith, more)) (omega (arith, high)))

-- stamps that are numbered are below their count
pub numbered_low : (stamps : List ℕ) → are_numbered stamps ≡ true → AllByRecursion (λ s. ltb s (length stamps) ≡ true) stamps
numbered_low stamps h =
    count_full (λ s. ltb s (length stamps)) stamps
    (all_below (length stamps) stamps (λ s low. eqb-true (count_by (at s) stamps) 1 (from_numbered (λ s. nat_eq (count_by (λ t. eqb t s) stamps) 1) 0 (length stamps) h s (omega arith) (omega (arith, low)))))

-- ---- the item of a stamp

module _ {A : Type 0} (stamp : A → ℕ) where
  abbrev pub with_stamp : List A → ℕ → List A
  with_stamp items s = filter (λ (item : A). eqb (stamp item) s) items

  -- as many items have a stamp as it is counted
  counted : (items : List A) (s : ℕ) → length (with_stamp items s) ≡ count_by (at s) (map stamp items)
  counted [] s = refl
  counted (item ∷ items) s = counted_case item items s (eqb (stamp item) s) refl (counted items s)
    where
      counted_case : (item : A) (items : List A) (s : ℕ) (b : Bool) → eqb (stamp item) s ≡ b → length (with_stamp items s) ≡ count_by (at s) (map stamp items)
          → length (cond (eqb (stamp item) s) (item ∷ with_stamp items s) (with_stamp items s)) ≡ count_by (at s) (stamp item ∷ map stamp items)
      counted_case item items s true e h =
          let first = count_cons (at s) (stamp item) (map stamp items) in
          let here = ap one e in
          let long : length (cond (eqb (stamp item) s) (item ∷ with_stamp items s) (with_stamp items s)) ≡ suc (length (with_stamp items s)) = ap (λ b. length (cond b (item ∷ with_stamp items s) (with_stamp items s))) e in
          omega (arith, first, here, long, h)
      counted_case item items s false e h =
          let first = count_cons (at s) (stamp item) (map stamp items) in
          let here = ap one e in
          let long : length (cond (eqb (stamp item) s) (item ∷ with_stamp items s) (with_stamp items s)) ≡ length (with_stamp items s) = ap (λ b. length (cond b (item ∷ with_stamp items s) (with_stamp items s))) e in
          omega (arith, first, here, long, h)

  -- an item is among those of its stamp
  among_case : (x : A) (kept : List A) (b : Bool) → b ≡ true → (n : ℕ) × (slice_get (cond b (x ∷ kept) kept) n ≡ Some x)
  among_case x kept true e = (0, refl)
  among_case x kept false e = let no : false ≡ true = e in absurd cc

  later_case : (y x : A) (kept : List A) (b : Bool) → (n : ℕ) × (slice_get kept n ≡ Some x) → (n : ℕ) × (slice_get (cond b (y ∷ kept) kept) n ≡ Some x)
  later_case y x kept true f = (suc f.0, f.1)
  later_case y x kept false f = f

  among : (items : List A) (i : ℕ) (x : A) → slice_get items i ≡ Some x → (n : ℕ) × (slice_get (with_stamp items (stamp x)) n ≡ Some x)
  among [] i x h = let no : None ≡ Some x = h in absurd cc
  among (y ∷ items) zero x h =
      let same = same_Some y x h in
      let own : eqb (stamp y) (stamp x) ≡ true = eq-eqb (stamp y) (stamp x) (ap stamp same) in
      let found = among_case y (with_stamp items (stamp x)) (eqb (stamp y) (stamp x)) own in
      (found.0, found.1 ∙ ap Some same)
  among (y ∷ items) (suc i) x h = later_case y x (with_stamp items (stamp x)) (eqb (stamp y) (stamp x)) (among items i x h)

  only : (xs : List A) (n : ℕ) (x : A) → length xs ≡ 1 → slice_get xs n ≡ Some x → xs ≡ x ∷ []
  only [] n x one h = absurd (omega (arith, one))
  only (y ∷ []) zero x one h = ap (λ z. z ∷ []) (same_Some y x h)
  only (y ∷ []) (suc n) x one h = let no : None ≡ Some x = h in absurd cc
  only (y ∷ z ∷ xs) n x one h = absurd (omega (arith, one))

  -- items of the stamps from one number on, each of which one has, are as many
  ones : (items : List A) (start count : ℕ) → ((s : ℕ) → start ≤ s → s < start + count → length (with_stamp items s) ≡ 1) → length (flat_map (with_stamp items) (range_with_len start count)) ≡ count
  ones items start zero each = refl
  ones items start (suc count) each =
      let both = length-append (with_stamp items start) (flat_map (with_stamp items) (range_with_len (start + 1) count)) in
      let here = each start (omega arith) (omega arith) in
      let rest = ones items (start + 1) count (λ s low high. each s (omega (arith, low)) (omega (arith, high))) in
      omega (arith, both, here, rest)

  pub range_split : (start a b : ℕ) → range_with_len start (a + suc b) ≡ range_with_len start a ++ (start + a) ∷ range_with_len (start + a + 1) b
  range_split start zero b =
      let same : 0 + suc b ≡ suc b = omega arith in
      let here : start ≡ start + 0 = omega arith in
      ap (range_with_len start) same ∙ ap (λ (n : ℕ). n ∷ range_with_len (n + 1) b) here
  range_split start (suc a) b =
      let same : suc a + suc b ≡ suc (a + suc b) = omega arith in
      let here : start + 1 + a ≡ start + suc a = omega arith in
      ap (range_with_len start) same ∙ ap (λ (rest : List ℕ). start ∷ rest) (range_split (start + 1) a b)
      ∙ ap (λ (n : ℕ). start ∷ (range_with_len (start + 1) a ++ n ∷ range_with_len (n + 1) b)) here

  pub flat_both : (f : ℕ → List A) (xs ys : List ℕ) → flat_map f (xs ++ ys) ≡ flat_map f xs ++ flat_map f ys
  flat_both f [] ys = refl
  flat_both f (x ∷ xs) ys = ap (λ (rest : List A). f x ++ rest) (flat_both f xs ys) ∙ sym (append_assoc (f x) (flat_map f xs) (flat_map f ys))

  -- an item stands at its stamp
  record StandsAt (items : List A) (x : A) : Type 0 where
    front : List A
    behind : List A
    is : by_stamp stamp (length items) items ≡ front ++ x ∷ behind
    place : length front ≡ stamp x

  stands_at : (items : List A) (i : ℕ) (x : A) → slice_get items i ≡ Some x → ((s : ℕ) → s < length items → count_by (at s) (map stamp items) ≡ 1) → stamp x < length items → StandsAt items x
  stands_at items i x h each low =
      let each_one : (s : ℕ) → s < length items → length (with_stamp items s) ≡ 1 = λ s below. counted items s ∙ each s below in
      let found = among items i x h in
      let own = only (with_stamp items (stamp x)) found.0 x (each_one (stamp x) low) found.1 in
      let rest = length items - suc (stamp x) in
      let whole : length items ≡ stamp x + suc rest = omega (arith, low) in
      let zeroth : 0 + stamp x ≡ stamp x = omega arith in
      record {
        front = flat_map (with_stamp items) (range_with_len 0 (stamp x));
        behind = flat_map (with_stamp items) (range_with_len (0 + stamp x + 1) rest);
        is =
            ap (λ (n : ℕ). flat_map (with_stamp items) (range_with_len 0 n)) whole
            ∙ ap (flat_map (with_stamp items)) (range_split 0 (stamp x) rest)
            ∙ flat_both (with_stamp items) (range_with_len 0 (stamp x)) ((0 + stamp x) ∷ range_with_len (0 + stamp x + 1) rest)
            ∙ ap (λ (middle : List A). flat_map (with_stamp items) (range_with_len 0 (stamp x)) ++ (middle ++ flat_map (with_stamp items) (range_with_len (0 + stamp x + 1) rest))) (ap (with_stamp items) zeroth ∙ own);
        place = ones items 0 (stamp x) (λ s lower high. each_one s (omega (arith, high, low)));
      }

-- ---- the stamps of a node

-- pages stand beside these draws
drawn_draws : (client : ClientId) (k : ℕ) (timed : List TimedPage) (draws : List Draw) → length timed ≡ length draws → map (λ (d : DrawnPage). d.draw) (drawn_from client k timed draws) ≡ draws
drawn_draws client k [] [] same = refl
drawn_draws client k [] (draw ∷ draws) same = let no : 0 ≡ suc (length draws) = same in absurd (omega (arith, no))
drawn_draws client k (page ∷ timed) [] same = let no : suc (length timed) ≡ 0 = same in absurd (omega (arith, no))
drawn_draws client k (page ∷ timed) (draw ∷ draws) same =
    let tails : suc (length timed) ≡ suc (length draws) = same in ap (λ (rest : List Draw). draw ∷ rest) (drawn_draws client (k + 1) timed draws (omega (arith, tails)))

-- so that is where their stamps are from
stamps_drawn : (pages : List DrawnPage) → map (λ (e : StampedPoolEvent). e.stamp) (map drawn_event pages) ≡ draw_stamps (map (λ (d : DrawnPage). d.draw) pages)
stamps_drawn [] = refl
stamps_drawn (page ∷ pages) = ap (λ (rest : List ℕ). stamp_of page.draw ∷ rest) (stamps_drawn pages)

abbrev missed_stamps : List Step → List ℕ
missed_stamps log = map (λ (e : StampedPoolEvent). e.stamp) (filter_map missed_event log)

-- a log's stamps are those of its gives and those of its misses
log_counts : (p : ℕ → Bool) (log : List Step) → count_by p (filter_map given_stamp log) + count_by p (missed_stamps log) ≡ count_by p (log_stamps log)
log_counts p [] = refl
log_counts p (steps.Chunk client ∷ log) = log_counts p log
log_counts p (steps.Crumb client ∷ log) = log_counts p log
log_counts p (steps.Trigger client ∷ log) = log_counts p log
log_counts p (steps.Ask ∷ log) = log_counts p log
log_counts p (steps.Turn ∷ log) = log_counts p log
log_counts p (steps.Given stamp ∷ log) =
    let a = count_cons p stamp (filter_map given_stamp log) in
    let b = count_cons p stamp (log_stamps log) in
    let rest = log_counts p log in
    omega (arith, a, b, rest)
log_counts p (steps.Missed stamp ∷ log) =
    let a = count_cons p stamp (missed_stamps log) in
    let b = count_cons p stamp (log_stamps log) in
    let rest = log_counts p log in
    omega (arith, a, b, rest)
log_counts p (steps.Unread ∷ log) = log_counts p log

-- each give of a lawful journal gives a buffer that is known
given_case : (run : NodeRun) (given : GivenPlace) (o : Option DrawnPage) → given_page run run.state given.place ≡ o
    → option_map_or (λ (d : DrawnPage). answers_draw (pool_events run) given.stamp d.draw) o false ≡ true → (event : StampedPoolEvent) × (given_event run given ≡ Some event) × (event.stamp ≡ given.stamp)
given_case run given None e h = let no : false ≡ true = h in absurd cc
given_case run given (Some d) e h = draw_case d.draw refl h
  where
    draw_case : (draw : Draw) → d.draw ≡ draw → answers_draw (pool_events run) given.stamp draw ≡ true → (event : StampedPoolEvent) × (given_event run given ≡ Some event) × (event.stamp ≡ given.stamp)
    draw_case (draws.Got buffer stamp) is h =
        let found : given_buffer run given.place ≡ Some buffer = ap (option_and_then (λ (d : DrawnPage). buffer_of d.draw)) e ∙ ap buffer_of is in (
          record { stamp = given.stamp; event = pool.Given buffer },
          ap (option_map (λ buffer. record { stamp = given.stamp; event = pool.Given buffer })) found,
          refl,
        )
    draw_case (draws.Empty stamp) is h = let no : false ≡ true = h in absurd cc

given_stamps : (run : NodeRun) (givens : List GivenPlace)
    → list_all (λ (given : GivenPlace). option_map_or (λ (d : DrawnPage). answers_draw (pool_events run) given.stamp d.draw) (given_page run run.state given.place) false) givens ≡ true
    → map (λ (e : StampedPoolEvent). e.stamp) (filter_map (given_event run) givens) ≡ map (λ (g : GivenPlace). g.stamp) givens
given_stamps run [] h = refl
given_stamps run (given ∷ givens) h =
    let both = and_parts (option_map_or (λ (d : DrawnPage). answers_draw (pool_events run) given.stamp d.draw) (given_page run run.state given.place) false)
    (list_all (λ (given : GivenPlace). option_map_or (λ (d : DrawnPage). answers_draw (pool_events run) given.stamp d.draw) (given_page run run.state given.place) false) givens) h in
    let event = given_case run given (given_page run run.state given.place) refl both.0 in
    ap (λ o. map (λ (e : StampedPoolEvent). e.stamp) (cons_option o (filter_map (given_event run) givens))) event.1
    ∙ ap (λ (s : ℕ). s ∷ map (λ (e : StampedPoolEvent). e.stamp) (filter_map (given_event run) givens)) event.2
    ∙ ap (λ (rest : List ℕ). given.stamp ∷ rest) (given_stamps run givens both.1)

passed : {X : Type 0} (p : X → Bool) (xs : List X) → list_all p xs ≡ true → AllByRecursion (λ x. p x ≡ true) xs
passed p [] h = tt
passed p (x ∷ xs) h = let both = and_parts (p x) (list_all p xs) h in (both.0, passed p xs both.1)

in_range : (start count i n : ℕ) → slice_get (range_with_len start count) i ≡ Some n → n < start + count
in_range start zero i n h = let no : None ≡ Some n = h in absurd cc
in_range start (suc count) zero n h = let same = same_Some start n h in omega (arith, same)
in_range start (suc count) (suc i) n h = let rest = in_range (start + 1) count i n h in omega (arith, rest)

module _ (plays : FollowingPlaysOut) (runs : RunsAreOfTheJournal) (given_noted : GivesAreNoted) (timed : TimedPagesAreThePages) (W : PlainWorkload) (J : PlainJournal) (ends : EndsItsTraces W) (lawful : IsLawful W J) where
  abbrev all_run : Run
  all_run = followed W J

  module _ (i : ℕ) (run : NodeRun) (stands : slice_get all_run.nodes i ≡ Some run) where
    own : IsOfJournal W J run
    own = all_at (IsOfJournal W J) all_run.nodes i run (runs W J all_run (plays W J).leads).each stands

    pub number_below : run.node < W.settings.nodes
    number_below =
        let found : slice_get (range_with_len 0 W.settings.nodes) i ≡ Some run.node =
        ap (λ ns. slice_get ns i) (sym (runs W J all_run (plays W J).leads).numbers) ∙ slice_get-map (λ (n : NodeRun). n.node) all_run.nodes i ∙ ap (option_map (λ (n : NodeRun). n.node)) stands
        in
        let below = in_range 0 W.settings.nodes i run.node found in omega (arith, below)

    log_whole : run.state.log ≡ log_at J run.node
    log_whole =
        let over = and_parts (list_all (λ (node : NodeRun). nat_eq (length node.left) 0) all_run.nodes) (nat_eq (length all_run.left) 0) lawful.L8 in
        let through = all_at (λ (n : NodeRun). nat_eq (length n.left) 0 ≡ true) all_run.nodes i run (passed (λ (node : NodeRun). nat_eq (length node.left) 0) all_run.nodes over.0) stands in
        sym (append-nil run.state.log) ∙ ap (λ (left : List Step). run.state.log ++ left) (sym (nil_from_length run.left (eqb-true (length run.left) 0 through))) ∙ own.log

    client_draws : (number : ℕ) → map (λ (d : DrawnPage). d.draw) (client_sends W J run.node number).drawn ≡ draws_at J (place_of W.settings.clients run.node number)
    client_draws number =
        let place = place_of W.settings.clients run.node number in
        let ops = operations_at W place in
        let pages = timed W.settings.size ops (ends_at W.clients place ends.ends) in
        let drawn = same_length J.draws W.clients W.settings.size place (shape_counts W J lawful.L1) in
        drawn_draws (record { node = run.node; number = number }) 0 (timed_pages W.settings.size ops) (draws_at J place)
        (sym (length-map (timed_pages W.settings.size ops) (λ (p : TimedPage). p.page)) ∙ ap length pages ∙ sym drawn)

    pub pages_draws : map (λ (d : DrawnPage). d.draw) (node_pages run) ≡ flat_map (λ (drawn : List Draw). drawn) (node_draws W J run.node)
    pages_draws =
        let clients = range_with_len 0 W.settings.clients in
        ap (λ (sends : List ClientSends). map (λ (d : DrawnPage). d.draw) (flat_map (λ (s : ClientSends). s.drawn) sends)) own.sends
        ∙ ap (map (λ (d : DrawnPage). d.draw)) (flat_map-map (λ (s : ClientSends). s.drawn) (client_sends W J run.node) clients)
        ∙ map_flat (λ number. (client_sends W J run.node number).drawn) (λ (d : DrawnPage). d.draw) clients
        ∙ flat_alike (λ number. map (λ (d : DrawnPage). d.draw) (client_sends W J run.node number).drawn) (λ number. draws_at J (place_of W.settings.clients run.node number)) clients client_draws
        ∙ sym (flat_map-map (λ (drawn : List Draw). drawn) (λ number. draws_at J (place_of W.settings.clients run.node number)) clients)

    pages_stamps : map (λ (e : StampedPoolEvent). e.stamp) (map drawn_event (node_pages run)) ≡ flat_map draw_stamps (node_draws W J run.node)
    pages_stamps = stamps_drawn (node_pages run) ∙ ap draw_stamps pages_draws ∙ map_flat (λ (drawn : List Draw). drawn) stamp_of (node_draws W J run.node)

    gives_stamps : map (λ (e : StampedPoolEvent). e.stamp) (filter_map (given_event run) run.state.given) ≡ filter_map given_stamp run.state.log
    gives_stamps =
        let answers = all_at (λ (n : NodeRun). gives_answer n ≡ true) all_run.nodes i run (passed gives_answer all_run.nodes lawful.L4) stands in
        given_stamps run run.state.given answers ∙ all_at GivesAsNoted all_run.nodes i run (given_noted W J all_run (plays W J).leads) stands

    abbrev event_stamps : List ℕ
    event_stamps = map (λ (e : StampedPoolEvent). e.stamp) (pool_events run)

    -- each number is counted as often among the events as among the node's stamps
    same_counts_of : (p : ℕ → Bool) → count_by p event_stamps ≡ count_by p (node_stamps W J run.node)
    same_counts_of p =
        let parts = map-append (λ (e : StampedPoolEvent). e.stamp) (map drawn_event (node_pages run) ++ filter_map (given_event run) run.state.given) (filter_map missed_event run.state.log) in
        let front = map-append (λ (e : StampedPoolEvent). e.stamp) (map drawn_event (node_pages run)) (filter_map (given_event run) run.state.given) in
        let whole = ap (count_by p) parts in
        let a = count_append p (map (λ (e : StampedPoolEvent). e.stamp) (map drawn_event (node_pages run) ++ filter_map (given_event run) run.state.given)) (missed_stamps run.state.log) in
        let b = ap (count_by p) front in
        let c = count_append p (map (λ (e : StampedPoolEvent). e.stamp) (map drawn_event (node_pages run))) (map (λ (e : StampedPoolEvent). e.stamp) (filter_map (given_event run) run.state.given)) in
        let d = ap (count_by p) pages_stamps in
        let e = ap (count_by p) gives_stamps in
        let f = log_counts p run.state.log in
        let g = ap (λ (log : List Step). count_by p (log_stamps log)) log_whole in
        let h = count_append p (flat_map draw_stamps (node_draws W J run.node)) (log_stamps (log_at J run.node)) in
        omega (arith, whole, a, b, c, d, e, f, g, h)

    pub same_long : length (pool_events run) ≡ length (node_stamps W J run.node)
    same_long =
        sym (length-map (pool_events run) (λ (e : StampedPoolEvent). e.stamp)) ∙ sym (count_true event_stamps) ∙ same_counts_of (λ (_ : ℕ). true) ∙ count_true (node_stamps W J run.node)

    pub numbered : are_numbered (node_stamps W J run.node) ≡ true
    numbered =
        let here = from_numbered (node_has_stamps W J) 0 W.settings.nodes lawful.L2 run.node (omega arith) (omega (arith, below_too)) in
        (and_parts (are_numbered (node_stamps W J run.node)) (list_all (λ draws. rise (draw_stamps draws)) (node_draws W J run.node))
        (and_parts (are_numbered (node_stamps W J run.node) && list_all (λ draws. rise (draw_stamps draws)) (node_draws W J run.node)) (rise (log_stamps (log_at J run.node))) here).0).0
      where
        below_too : run.node < W.settings.nodes
        below_too = number_below

    each_once : (s : ℕ) → s < length (pool_events run) → count_by (at s) event_stamps ≡ 1
    each_once s low =
        let long = same_long in
        let here = from_numbered (λ s. nat_eq (count_by (λ t. eqb t s) (node_stamps W J run.node)) 1) 0 (length (node_stamps W J run.node)) numbered s (omega arith) (omega (arith, low, long)) in
        same_counts_of (at s) ∙ eqb-true (count_by (λ t. eqb t s) (node_stamps W J run.node)) 1 here

    pub all_low : AllByRecursion (λ s. ltb s (length (pool_events run)) ≡ true) event_stamps
    all_low =
        count_full (λ s. ltb s (length (pool_events run))) event_stamps
        (all_below (length (pool_events run)) event_stamps each_once ∙ sym (length-map (pool_events run) (λ (e : StampedPoolEvent). e.stamp)))

    -- a draw that found nothing, at its place
    nothing_found : (empties : EmptyOnlyWhereEmpty) (k : ℕ) (page : DrawnPage) → slice_get (node_pages run) k ≡ Some page → (stamp : ℕ) → page.draw ≡ draws.Empty stamp → FoundNothing W.settings.buffers run stamp
    nothing_found empties k page there stamp empty =
        let event : drawn_event page ≡ record { stamp = stamp; event = Empty } = ap (λ (d : Draw). record { stamp = stamp_of d; event = event_drawn d }) empty in
        let among_drawn : slice_get (map drawn_event (node_pages run)) k ≡ Some (record { stamp = stamp; event = Empty }) = slice_get-map drawn_event (node_pages run) k ∙ ap (option_map drawn_event) there ∙ ap Some event in
        let stands_there : slice_get (pool_events run) k ≡ Some (record { stamp = stamp; event = Empty }) =
        get_first (map drawn_event (node_pages run) ++ filter_map (given_event run) run.state.given) (filter_map missed_event run.state.log) k (record { stamp = stamp; event = Empty })
        (get_first (map drawn_event (node_pages run)) (filter_map (given_event run) run.state.given) k (record { stamp = stamp; event = Empty }) among_drawn)
        in
        let low = ltb-true stamp (length (pool_events run))
        (all_at (λ s. ltb s (length (pool_events run)) ≡ true) event_stamps k stamp all_low (slice_get-map (λ (e : StampedPoolEvent). e.stamp) (pool_events run) k ∙ ap (option_map (λ (e : StampedPoolEvent). e.stamp)) stands_there)) in
        let s = stands_at (λ (e : StampedPoolEvent). e.stamp) (pool_events run) k (record { stamp = stamp; event = Empty }) stands_there each_once low in
        let history : pool_history run ≡ map (λ (e : StampedPoolEvent). e.event) s.front ++ Empty ∷ map (λ (e : StampedPoolEvent). e.event) s.behind =
        ap (map (λ (e : StampedPoolEvent). e.event)) s.is ∙ map-append (λ (e : StampedPoolEvent). e.event) s.front (record { stamp = stamp; event = Empty } ∷ s.behind)
        in
        let lawful_here = all_at (λ (n : NodeRun). IsPoolHistory W.settings.buffers (pool_history n)) all_run.nodes i run lawful.L3 stands in
        record {
          earlier = map (λ (e : StampedPoolEvent). e.event) s.front;
          later = map (λ (e : StampedPoolEvent). e.event) s.behind;
          history = history;
          place = length-map s.front (λ (e : StampedPoolEvent). e.event) ∙ s.place;
          queue = empties W.settings.buffers (map (λ (e : StampedPoolEvent). e.event) s.front) (map (λ (e : StampedPoolEvent). e.event) s.behind) (subst (IsPoolHistory W.settings.buffers) history lawful_here);
        }
      where
        get_first : (xs ys : List StampedPoolEvent) (place : ℕ) (x : StampedPoolEvent) → slice_get xs place ≡ Some x → slice_get (xs ++ ys) place ≡ Some x
        get_first [] ys place x h = let no : None ≡ Some x = h in absurd cc
        get_first (y ∷ xs) ys zero x h = h
        get_first (y ∷ xs) ys (suc place) x h = get_first xs ys place x h

pub empty_draws_found_nothing : FollowingPlaysOut → RunsAreOfTheJournal → GivesAreNoted → TimedPagesAreThePages → EmptyOnlyWhereEmpty → EmptyDrawsFoundNothing
empty_draws_found_nothing plays runs given_noted timed empties W J ends lawful =
    all_by_place (NullsFoundNothing W) (followed W J).nodes
    (λ i run stands.
    all_by_place (λ (page : DrawnPage). (stamp : ℕ) → page.draw ≡ draws.Empty stamp → FoundNothing W.settings.buffers run stamp) (node_pages run)
    (λ k page there. nothing_found plays runs given_noted timed W J ends lawful i run stands empties k page there))
