-- The numbers of a lawful journal are in their ranges, so that it has a text.
use Rattle.std.proofs.Common.{◌≡◌, ℕ, zero, suc, ◌+◌, ◌*◌, ◌/◌, ◌%◌, ◌^◌, ◌<◌, ◌≤◌, Bool, true, false, ◌&&◌, List, [], ◌∷◌, ◌++◌, length, refl, sym, ap, subst, ◌∙◌, Option, Some, None, arith, map, filter_map, option_map, slice_get, unwrap_or, count_by, eqb-true, nat_eq, ltb, ltb-true, length-append, div-lt_iff_lt-mul, div-add-mod', suc-mul}
use Rattle.hs_law_outcome.proofs.Prelude.{AllByRecursion, flat_map, range_with_len, cons_option, mod-lt, and_parts, length-map, map-append, flat_map-map, length-range_with_len, slice_get-map, same_Some, slice_get_within, count_cons, count_append, all_front, all_back, all_at, all_each, all_by_place, range_at, map_flat, get_there, NodeId, Draw, Step, PlainJournal, GivenPlace, pages_of, Operation, PlainWorkload, DrawnPage, stamp_of, TimedPagesAreThePages, client_sends, node_sends, draws_at, place_of, PoolEvent, Empty, Given, Missed, is_empty, is_missed, RunsAreOfTheJournal, NodeRun, run_start, node_start, followed, log_at, GivesAreNoted, IsLawful, FollowingPlaysOut, StampedPoolEvent, by_stamp, event_drawn, drawn_event, node_pages, given_buffer, given_event, missed_event, pool_events, pool_history, same_counts, log_stamps, node_draws, draw_stamps, node_stamps, HasItsClients, EndsItsTraces}
use Rattle.hs_base.proofs.Counts.{count_map, one_if as one}
use Rattle.hs_base.specs.declared.limits.TheConstants.{MAX_NODES, MAX_CLIENTS, MAX_BUFFERS}
use Rattle.hs_base.specs.Ranges.{Within}
use Rattle.hs_records.specs.declared.journal.Draw.TheVariants as draws
use Rattle.hs_records.specs.declared.journal.Step.TheVariants as steps
use Rattle.hs_records.specs.Journals.{IsDraw, IsStep, IsNodeBelow}
use Rattle.hs_words.specs.PoolHistory.{Got}
use Rattle.hs_words.specs.PoolHistory as pool
use Rattle.hs_law_outcome.specs.Readable.{HasRoom, HasShape, JournalsHaveTheShape, LawfulJournalsAreJournals}
use Rattle.hs_law_outcome.proofs.ByStamp.{by_stamp_counts}
use Rattle.hs_law_outcome.proofs.Entries.{shape_counts, same_length}
use Rattle.hs_law_outcome.proofs.GotPages.{in_range}
use Rattle.hs_law_outcome.proofs.Named.{NamesClient, LogIsNamed, IsNamed, followed_named}
use Rattle.hs_law_outcome.proofs.PoolCounts.{is_get, is_give, is_within, kinds, IsBounded, bounded}
use Rattle.hs_law_outcome.proofs.Stamps.{count_full, count_true, numbered_low, same_long, numbered, all_low, pages_draws}

-- ---- lists

all_in_flat : {X Y : Type 0} (P : Y → Type 0) (f : X → List Y) (xs : List X) (k : ℕ) (x : X) → AllByRecursion P (flat_map f xs) → slice_get xs k ≡ Some x → AllByRecursion P (f x)
all_in_flat P f [] k x all h = let no : None ≡ Some x = h in absurd cc
all_in_flat P f (y ∷ xs) zero x all h = subst (λ y. AllByRecursion P (f y)) (same_Some y x h) (all_front P (f y) (flat_map f xs) all)
all_in_flat P f (y ∷ xs) (suc k) x all h = all_in_flat P f xs k x (all_back P (f y) (flat_map f xs) all) h

few_in_flat : {X Y : Type 0} (f : X → List Y) (most : ℕ) (xs : List X) → ((x : X) → length (f x) ≤ most) → length (flat_map f xs) ≤ length xs * most
few_in_flat f most [] few = omega arith
few_in_flat f most (x ∷ xs) few =
    let both = length-append (f x) (flat_map f xs) in
    let here = few x in
    let rest = few_in_flat f most xs few in
    let more = suc-mul (length xs) most in
    omega (arith, both, here, rest, more)

-- ---- the shape

as_many : (a b : List ℕ) → same_counts a b ≡ true → length a ≡ length b
as_many [] [] h = refl
as_many [] (y ∷ b) h = let no : false ≡ true = h in absurd cc
as_many (x ∷ a) [] h = let no : false ≡ true = h in absurd cc
as_many (x ∷ a) (y ∷ b) h = ap suc (as_many a b (and_parts (nat_eq x y) (same_counts a b) h).1)

pub shape_of : JournalsHaveTheShape
shape_of W J h =
    let counts = same_counts (map length J.draws) (map (λ (ops : List Operation). length (pages_of W.settings.size ops)) W.clients) in
    let three = (and_parts (nat_eq J.nodes W.settings.nodes && nat_eq J.clients W.settings.clients && nat_eq (length J.logs) W.settings.nodes) counts h).0 in
    let two = and_parts (nat_eq J.nodes W.settings.nodes && nat_eq J.clients W.settings.clients) (nat_eq (length J.logs) W.settings.nodes) three in
    let one = and_parts (nat_eq J.nodes W.settings.nodes) (nat_eq J.clients W.settings.clients) two.0 in
    record {
      nodes = eqb-true J.nodes W.settings.nodes one.0;
      clients = eqb-true J.clients W.settings.clients one.1;
      logs = eqb-true (length J.logs) W.settings.nodes two.1;
      draws =
          sym (length-map J.draws length) ∙ as_many (map length J.draws) (map (λ (ops : List Operation). length (pages_of W.settings.size ops)) W.clients) (shape_counts W J h)
          ∙ length-map W.clients (λ (ops : List Operation). length (pages_of W.settings.size ops));
    }

few_at : (most : ℕ) (size : ℕ) (clients : List (List Operation)) (place : ℕ) → AllByRecursion (λ (ops : List Operation). length (pages_of size ops) ≤ most) clients
    → length (pages_of size []) ≤ most → length (pages_of size (unwrap_or (slice_get clients place) [])) ≤ most
few_at most size [] place all none = none
few_at most size (ops ∷ clients) zero all none = all.0
few_at most size (ops ∷ clients) (suc place) all none = few_at most size clients place all.1 none

-- ---- the events of a pool

-- no give is a draw
no_gives : (p : PoolEvent → Bool) → ((buffer : ℕ) → p (Given buffer) ≡ false) → (run : NodeRun) (givens : List GivenPlace) → count_by p (map (λ (e : StampedPoolEvent). e.event) (filter_map (given_event run) givens)) ≡ 0
no_gives p none run [] = refl
no_gives p none run (given ∷ givens) = by_buffer (given_buffer run given.place) (no_gives p none run givens)
  where
    by_buffer : (o : Option ℕ) → count_by p (map (λ (e : StampedPoolEvent). e.event) (filter_map (given_event run) givens)) ≡ 0
        → count_by p (map (λ (e : StampedPoolEvent). e.event) (cons_option (option_map (λ buffer. record { stamp = given.stamp; event = Given buffer }) o) (filter_map (given_event run) givens))) ≡ 0
    by_buffer None rest = rest
    by_buffer (Some buffer) rest =
        let first = count_cons p (Given buffer) (map (λ (e : StampedPoolEvent). e.event) (filter_map (given_event run) givens)) in
        let here = ap one (none buffer) in
        omega (arith, first, here, rest)

-- and no miss
no_misses : (p : PoolEvent → Bool) → p Missed ≡ false → (log : List Step) → count_by p (map (λ (e : StampedPoolEvent). e.event) (filter_map missed_event log)) ≡ 0
no_misses p none [] = refl
no_misses p none (steps.Chunk client ∷ log) = no_misses p none log
no_misses p none (steps.Crumb client ∷ log) = no_misses p none log
no_misses p none (steps.Trigger client ∷ log) = no_misses p none log
no_misses p none (steps.Ask ∷ log) = no_misses p none log
no_misses p none (steps.Turn ∷ log) = no_misses p none log
no_misses p none (steps.Given stamp ∷ log) = no_misses p none log
no_misses p none (steps.Missed stamp ∷ log) =
    let first = count_cons p Missed (map (λ (e : StampedPoolEvent). e.event) (filter_map missed_event log)) in
    let here = ap one none in
    let rest = no_misses p none log in
    omega (arith, first, here, rest)
no_misses p none (steps.Unread ∷ log) = no_misses p none log

events_drawn : (pages : List DrawnPage) → map (λ (e : StampedPoolEvent). e.event) (map drawn_event pages) ≡ map event_drawn (map (λ (d : DrawnPage). d.draw) pages)
events_drawn [] = refl
events_drawn (page ∷ pages) = ap (λ (rest : List PoolEvent). event_drawn page.draw ∷ rest) (events_drawn pages)

-- ---- draws and steps

draw_is : (n : ℕ) → n ≤ MAX_BUFFERS → (draw : Draw) → is_within n (event_drawn draw) ≡ true → stamp_of draw < 2 ^ 64 → IsDraw draw
draw_is n most (draws.Got buffer stamp) inside low = let below = ltb-true buffer n inside in (omega (arith, below, most), low)
draw_is n most (draws.Empty stamp) inside low = low

draws_are : (n : ℕ) → n ≤ MAX_BUFFERS → (list : List Draw) → AllByRecursion (λ event. is_within n event ≡ true) (map event_drawn list) → AllByRecursion (λ s. s < 2 ^ 64) (draw_stamps list) → AllByRecursion IsDraw list
draws_are n most [] inside low = tt
draws_are n most (draw ∷ list) inside low = (draw_is n most draw inside.0 low.0, draws_are n most list inside.1 low.1)

steps_are : (clients : ℕ) (log : List Step) → AllByRecursion (NamesClient clients) log → AllByRecursion (λ s. s < 2 ^ 64) (log_stamps log) → AllByRecursion (IsStep clients) log
steps_are clients [] names low = tt
steps_are clients (steps.Chunk client ∷ log) names low = (names.0, steps_are clients log names.1 low)
steps_are clients (steps.Crumb client ∷ log) names low = (names.0, steps_are clients log names.1 low)
steps_are clients (steps.Trigger client ∷ log) names low = (names.0, steps_are clients log names.1 low)
steps_are clients (steps.Ask ∷ log) names low = (tt, steps_are clients log names.1 low)
steps_are clients (steps.Turn ∷ log) names low = (tt, steps_are clients log names.1 low)
steps_are clients (steps.Given stamp ∷ log) names low = (low.0, steps_are clients log names.1 low.1)
steps_are clients (steps.Missed stamp ∷ log) names low = (low.0, steps_are clients log names.1 low.1)
steps_are clients (steps.Unread ∷ log) names low = (tt, steps_are clients log names.1 low)

-- ---- a lawful journal

module _ (plays : FollowingPlaysOut) (runs : RunsAreOfTheJournal) (given_noted : GivesAreNoted) (timed : TimedPagesAreThePages) (W : PlainWorkload) (J : PlainJournal) (ends : EndsItsTraces W) (laid : HasItsClients W) (room : HasRoom W) (lawful : IsLawful W J) where
  abbrev shape : HasShape W J
  shape = shape_of W J lawful.L1

  abbrev each : ℕ
  each = W.settings.clients

  drawn_few : (place : ℕ) → length (draws_at J place) ≤ 2 ^ 32
  drawn_few place =
      let same = same_length J.draws W.clients W.settings.size place (shape_counts W J lawful.L1) in
      let few = few_at (2 ^ 32) W.settings.size W.clients place room.pages (omega arith) in
      omega (arith, same, few)

  module _ (i : ℕ) (run : NodeRun) (stands : slice_get (followed W J).nodes i ≡ Some run) where
    abbrev events : List PoolEvent
    events = map (λ (e : StampedPoolEvent). e.event) (pool_events run)

    same_events : (p : PoolEvent → Bool) → count_by p (pool_history run) ≡ count_by p events
    same_events p =
        let stamp = λ (e : StampedPoolEvent). e.stamp in
        count_map p (λ (e : StampedPoolEvent). e.event) (by_stamp stamp (length (pool_events run)) (pool_events run))
        ∙ by_stamp_counts stamp (λ (e : StampedPoolEvent). p e.event) (length (pool_events run)) (pool_events run) (all_low plays runs given_noted timed W J ends lawful i run stands)
        ∙ sym (count_map p (λ (e : StampedPoolEvent). e.event) (pool_events run))

    history_bounded : IsBounded W.settings.buffers (pool_history run)
    history_bounded = bounded W.settings.buffers (pool_history run) (all_at (λ (n : NodeRun). pool.IsPoolHistory W.settings.buffers (pool_history n)) (followed W J).nodes i run lawful.L3 stands)

    abbrev drawn : List PoolEvent
    drawn = map (λ (e : StampedPoolEvent). e.event) (map drawn_event (node_pages run))

    parts : events ≡ (drawn ++ map (λ (e : StampedPoolEvent). e.event) (filter_map (given_event run) run.state.given)) ++ map (λ (e : StampedPoolEvent). e.event) (filter_map missed_event run.state.log)
    parts =
        map-append (λ (e : StampedPoolEvent). e.event) (map drawn_event (node_pages run) ++ filter_map (given_event run) run.state.given) (filter_map missed_event run.state.log)
        ∙ ap (λ front. front ++ map (λ (e : StampedPoolEvent). e.event) (filter_map missed_event run.state.log)) (map-append (λ (e : StampedPoolEvent). e.event) (map drawn_event (node_pages run)) (filter_map (given_event run) run.state.given))

    -- what no give and no miss is was drawn
    only_drawn : (p : PoolEvent → Bool) → ((buffer : ℕ) → p (Given buffer) ≡ false) → p Missed ≡ false → count_by p events ≡ count_by p drawn
    only_drawn p gives misses =
        let given = map (λ (e : StampedPoolEvent). e.event) (filter_map (given_event run) run.state.given) in
        let missed = map (λ (e : StampedPoolEvent). e.event) (filter_map missed_event run.state.log) in
        let whole = ap (count_by p) parts in
        let a = count_append p (drawn ++ given) missed in
        let b = count_append p drawn given in
        let c = no_gives p gives run run.state.given in
        let d = no_misses p misses run.state.log in
        omega (arith, whole, a, b, c, d)

    long_drawn : length drawn ≤ each * 2 ^ 32
    long_drawn =
        let a = ap length (events_drawn (node_pages run)) in
        let b = length-map (map (λ (d : DrawnPage). d.draw) (node_pages run)) event_drawn in
        let c = ap length (pages_draws plays runs given_noted timed W J ends lawful i run stands) in
        let of_number = λ (number : ℕ). draws_at J (place_of each run.node number) in
        let d = ap length (flat_map-map (λ (list : List Draw). list) of_number (range_with_len 0 each)) in
        let e = few_in_flat of_number (2 ^ 32) (range_with_len 0 each) (λ number. drawn_few (place_of each run.node number)) in
        let f = length-range_with_len 0 each in
        let g = ap (λ n. n * 2 ^ 32) f in
        omega (arith, a, b, c, d, e, g)

    few_events : length (pool_events run) < 2 ^ 64
    few_events =
        let long = sym (length-map (pool_events run) (λ (e : StampedPoolEvent). e.event)) in
        let all = kinds events in
        let own = kinds drawn in
        let h = history_bounded in
        let gives = h.gives in
        let misses = h.misses in
        let a = same_events is_give in
        let b = same_events is_get in
        let c = same_events is_missed in
        let d = same_events is_empty in
        let e = only_drawn is_get (λ buffer. refl) refl in
        let f = only_drawn is_empty (λ buffer. refl) refl in
        let few = long_drawn in
        let most = room.clients.1 in
        omega (arith, long, all, own, gives, misses, a, b, c, d, e, f, few, most)

    stamps_low : AllByRecursion (λ s. s < 2 ^ 64) (node_stamps W J run.node)
    stamps_low =
        let few = few_events in
        let long = same_long plays runs given_noted timed W J ends lawful i run stands in
        all_each (λ s. ltb s (length (node_stamps W J run.node)) ≡ true) (λ s. s < 2 ^ 64) (node_stamps W J run.node) (λ s h. let low = ltb-true s (length (node_stamps W J run.node)) h in omega (arith, low, few, long))
        (numbered_low (node_stamps W J run.node) (numbered plays runs given_noted timed W J ends lawful i run stands))

    drawn_within : AllByRecursion (λ event. is_within W.settings.buffers event ≡ true) drawn
    drawn_within =
        let h = history_bounded in
        let inside = h.buffers in
        let same = same_events (is_within W.settings.buffers) in
        let all = same_events (λ (_ : PoolEvent). true) in
        let whole = count_true (pool_history run) in
        let other = count_true events in
        let given = map (λ (e : StampedPoolEvent). e.event) (filter_map (given_event run) run.state.given) in
        let missed = map (λ (e : StampedPoolEvent). e.event) (filter_map missed_event run.state.log) in
        let each_within = count_full (is_within W.settings.buffers) events (omega (arith, inside, same, all, whole, other)) in
        let inside_of = λ (event : PoolEvent). is_within W.settings.buffers event ≡ true in
        all_front inside_of drawn given (all_front inside_of (drawn ++ given) missed (subst (AllByRecursion inside_of) parts each_within))

    draws_there : (number : ℕ) → number < each → AllByRecursion IsDraw (draws_at J (place_of each run.node number))
    draws_there number low =
        let list = draws_at J (place_of each run.node number) in
        let inside_of = λ (event : PoolEvent). is_within W.settings.buffers event ≡ true in
        let at : slice_get (node_draws W J run.node) number ≡ Some list =
        slice_get-map (λ number. draws_at J (place_of each run.node number)) (range_with_len 0 each) number ∙ ap (option_map (λ number. draws_at J (place_of each run.node number))) (range_at 0 each number low)
        ∙ zeroth number
        in
        let as_drawn : drawn ≡ flat_map (map event_drawn) (node_draws W J run.node) =
        events_drawn (node_pages run) ∙ ap (map event_drawn) (pages_draws plays runs given_noted timed W J ends lawful i run stands) ∙ map_flat (λ (list : List Draw). list) event_drawn (node_draws W J run.node)
        in
        draws_are W.settings.buffers room.buffers list
        (all_in_flat inside_of (map event_drawn) (node_draws W J run.node) number list (subst (AllByRecursion inside_of) as_drawn drawn_within) at)
        (all_in_flat (λ s. s < 2 ^ 64) draw_stamps (node_draws W J run.node) number list (all_front (λ s. s < 2 ^ 64) (flat_map draw_stamps (node_draws W J run.node)) (log_stamps (log_at J run.node)) stamps_low) at)
      where
        zeroth : (n : ℕ) → Some (draws_at J (place_of each run.node (0 + n))) ≡ Some (draws_at J (place_of each run.node n))
        zeroth n = let same : 0 + n ≡ n = omega arith in ap (λ n. Some (draws_at J (place_of each run.node n))) same

    log_low : AllByRecursion (λ s. s < 2 ^ 64) (log_stamps (log_at J run.node))
    log_low = all_back (λ s. s < 2 ^ 64) (flat_map draw_stamps (node_draws W J run.node)) (log_stamps (log_at J run.node)) stamps_low

  -- ---- all nodes

  -- the node of a number
  node_at : (i : ℕ) → i < W.settings.nodes → (run : NodeRun) × (slice_get (followed W J).nodes i ≡ Some run) × (run.node ≡ i)
  node_at i low =
      let numbers = (runs W J (followed W J) (plays W J).leads).numbers in
      let long = length-map (followed W J).nodes (λ (n : NodeRun). n.node) in
      let same = ap length numbers in
      let count = length-range_with_len 0 W.settings.nodes in
      let found = get_there (followed W J).nodes i (omega (arith, long, same, count, low)) in
      let at = slice_get-map (λ (n : NodeRun). n.node) (followed W J).nodes i ∙ ap (option_map (λ (n : NodeRun). n.node)) found.1 in
      let is = in_range 0 W.settings.nodes i found.0.node (ap (λ ns. slice_get ns i) (sym numbers) ∙ at) in
      let number = is.0 in
      (found.0, found.1, omega (arith, number))

  all_draws : AllByRecursion (AllByRecursion IsDraw) J.draws
  all_draws =
      all_by_place (AllByRecursion IsDraw) J.draws
      (λ place list there.
      let low = slice_get_within J.draws place list there in
      let many = shape.draws in
      let all = laid in
      let some = room.clients.0 in
      let node : place / each < W.settings.nodes = (div-lt_iff_lt-mul {k = each} {x = place} {y = W.settings.nodes} (omega (arith, some))).1 (omega (arith, low, many, all)) in
      let n = node_at (place / each) node in
      let here : place_of each n.0.node (place % each) ≡ place = ap (λ node. place_of each node (place % each)) n.2 ∙ div-add-mod' place each in
      subst (AllByRecursion IsDraw) (ap (draws_at J) here ∙ ap (λ o. unwrap_or o []) there) (draws_there (place / each) n.0 n.1 (place % each) (mod-lt place (omega (arith, some)))))

  all_named : IsNamed (run_start W J)
  all_named = followed_named W.settings (run_start W J) (followed W J) (plays W J).leads lawful.L8

  names_at : (i : ℕ) → i < W.settings.nodes → AllByRecursion (NamesClient each) (log_at J i)
  names_at i low =
      let at = slice_get-map (node_start W J) (range_with_len 0 W.settings.nodes) i ∙ ap (option_map (node_start W J)) (range_at 0 W.settings.nodes i low) in
      let named : LogIsNamed (node_start W J (0 + i)) = all_at LogIsNamed (run_start W J).nodes i (node_start W J (0 + i)) all_named.logs at in
      let zeroth : 0 + i ≡ i = omega arith in
      let count : length (node_sends W J i) ≡ each = length-map (range_with_len 0 each) (client_sends W J i) ∙ length-range_with_len 0 each in
      subst (λ n. AllByRecursion (NamesClient n) (log_at J i)) count (subst (λ n. AllByRecursion (NamesClient (length (node_sends W J n))) (log_at J n)) zeroth named)

  all_logs : AllByRecursion (AllByRecursion (IsStep J.clients)) J.logs
  all_logs =
      all_by_place (AllByRecursion (IsStep J.clients)) J.logs
      (λ i log there.
      let low = slice_get_within J.logs i log there in
      let many = shape.logs in
      let n = node_at i (omega (arith, low, many)) in
      let is : log_at J i ≡ log = ap (λ o. unwrap_or o []) there in
      let steps_low = subst (λ i. AllByRecursion (λ s. s < 2 ^ 64) (log_stamps (log_at J i))) n.2 (log_low i n.0 n.1) in
      subst (λ clients. AllByRecursion (IsStep clients) log) (sym shape.clients)
      (subst (AllByRecursion (IsStep each)) is (steps_are each (log_at J i) (names_at i (omega (arith, low, many))) steps_low)))

  all_told : AllByRecursion (IsNodeBelow J.nodes) J.told
  all_told =
      let long : length (run_start W J).nodes ≡ J.nodes = length-map (range_with_len 0 W.settings.nodes) (node_start W J) ∙ length-range_with_len 0 W.settings.nodes ∙ sym shape.nodes in
      subst (λ n. AllByRecursion (λ (node : NodeId). node.0 < n) J.told) long all_named.told

pub lawful_journals_are_journals : FollowingPlaysOut → RunsAreOfTheJournal → GivesAreNoted → TimedPagesAreThePages → LawfulJournalsAreJournals
lawful_journals_are_journals plays runs given_noted timed W J ends laid room lawful =
    let shape = shape_of W J lawful.L1 in
    record {
      nodes = subst (Within 1 MAX_NODES) (sym shape.nodes) room.nodes;
      clients = subst (Within 1 MAX_CLIENTS) (sym shape.clients) room.clients;
      draw_lists = shape.draws ∙ laid ∙ ap (λ n. n * W.settings.clients) (sym shape.nodes) ∙ ap (λ n. J.nodes * n) (sym shape.clients);
      log_lists = shape.logs ∙ sym shape.nodes;
      draws = all_draws plays runs given_noted timed W J ends laid room lawful;
      logs = all_logs plays runs given_noted timed W J ends laid room lawful;
      told = all_told plays runs given_noted timed W J ends laid room lawful;
    }
