-- Round by round each client does its next operations, and its draws are as many as the pages that they start. After all rounds it
-- has done all of them.
use Rattle.std.proofs.Common.{◌≡◌, ◌⊎◌, ◌≢◌, inl, inr, ℕ, zero, suc, ◌+◌, ◌-◌, ◌*◌, ◌/◌, ◌<◌, ◌≤◌, min, max, Bool, true, false, cond, List, [], ◌∷◌, ◌++◌, length, refl, sym, ap, subst, ◌∙◌, Option, None, arith, map, filter, fold, slice_get, unwrap_or, get_or, zip, ltb, ltb-true, lt-ltb, eq-eqb, length-append, eq-zero-or-pos, eq-or-lt_of_le}
use Rattle.hs_law_run.proofs.Prelude.{ends_at, AllByRecursion, flat_map, range_with_len, option_map_or, both_true, div-lt_iff_lt-mul, suc-mul, mul-le-mul_right, length-map, length-replicate, get_there, unwrap_set, unwrap_other, filter_few, filter_all, all_append, TraceId, Draw, pages_of, Operation, PlainWorkload, NumberedOperation, numbered_from, open_behind, operations_at, draws_at, TimedPage, timed_pages, length_next, rounds_for, rounds_of, NodeRun, followed, played, IsLaidOut, Known, Machine, machine_start, done_at, draws_by, draws_in, pages_started, client_goes, clients_go, pass_steps, give_steps, agents_take, passes, round, rounds, closing_limit, lockstep}
use Rattle.std.proofs.Math.Nat.{lt-div-mul-add}
use Rattle.std.proofs.lemmas.List.{length-set}
use Rattle.hs_base.proofs.Counts.{max_at_least}
use Rattle.hs_records.specs.Pages.{PlainPage, first_record, segment_pages}
use Rattle.hs_records.specs.Records.{Record, Segment, segments_of, record_at}
use Rattle.hs_client.specs.Timing.{timed, started_by, point_numbers, end_numbers}
use Rattle.hs_law_journal.specs.Shape.{same_counts, has_shape}
use Rattle.hs_law_run.specs.Clauses.{ScheduleHasShape}
use Rattle.hs_law_run.proofs.ExtendedLists.{length_extended}
use Rattle.hs_law_run.proofs.Machines.{closing_keeps, machine_end}
use Rattle.hs_law_run.proofs.Followed.{count_nodes}

-- ---- lists

module _ {X : Type 0} where
  -- where one test passes whatever another does, it passes more
  more_case : (x : X) (a b : List X) (p q : Bool) → (p ≡ true → q ≡ true) → length a ≤ length b → length (cond p (x ∷ a) a) ≤ length (cond q (x ∷ b) b)
  more_case x a b true true on h = omega (arith, h)
  more_case x a b true false on h = let no : false ≡ true = on refl in absurd cc
  more_case x a b false true on h = omega (arith, h)
  more_case x a b false false on h = h

  filter_more : (p q : X → Bool) (xs : List X) → ((x : X) → p x ≡ true → q x ≡ true) → length (filter p xs) ≤ length (filter q xs)
  filter_more p q [] on = omega arith
  filter_more p q (x ∷ xs) on = more_case x (filter p xs) (filter q xs) (p x) (q x) (on x) (filter_more p q xs on)

  filter_none : (p : X → Bool) (xs : List X) → ((x : X) → p x ≡ false) → length (filter p xs) ≡ 0
  filter_none p [] none = refl
  filter_none p (x ∷ xs) none = ap (λ b. length (cond b (x ∷ filter p xs) (filter p xs))) (none x) ∙ filter_none p xs none

-- ---- pages start at operations

weaker : (a b : ℕ) (numbers : List ℕ) → a ≤ b → AllByRecursion (λ n. n < a) numbers → AllByRecursion (λ n. n < b) numbers
weaker a b [] low all = tt
weaker a b (n ∷ numbers) low all = let first = all.0 in (omega (arith, first, low), weaker a b numbers low all.1)

numbers_here : (number bound : ℕ) (records : List Record) → number < bound → AllByRecursion (λ n. n < bound) (map (λ _. number) records)
numbers_here number bound [] h = tt
numbers_here number bound (r ∷ records) h = (h, numbers_here number bound records h)

abbrev points_in : List NumberedOperation → List ℕ
points_in ops = flat_map (λ (op : NumberedOperation). map (λ _. op.number) (record_at op)) ops

-- each point is one of the operations
points_below : (number : ℕ) (trace : Option TraceId) (ops : List Operation) → AllByRecursion (λ n. n < number + length ops) (points_in (numbered_from number trace ops))
points_below number trace [] = tt
points_below number trace (op ∷ ops) =
    let here : number < number + suc (length ops) = omega arith in
    let low : number + 1 + length ops ≤ number + suc (length ops) = omega arith in
    all_append (λ n. n < number + suc (length ops)) (map (λ _. number) (record_at (record { number = number; trace = trace; operation = op }))) (points_in (numbered_from (number + 1) (open_behind trace op) ops))
    (numbers_here number (number + suc (length ops)) (record_at (record { number = number; trace = trace; operation = op })) here)
    (weaker (number + 1 + length ops) (number + suc (length ops)) (points_in (numbered_from (number + 1) (open_behind trace op) ops)) low (points_below (number + 1) (open_behind trace op) ops))

get_below : (bound : ℕ) (numbers : List ℕ) (i : ℕ) → 0 < bound → AllByRecursion (λ n. n < bound) numbers → get_or numbers i 0 < bound
get_below bound [] i some all = some
get_below bound (n ∷ numbers) zero some all = all.0
get_below bound (n ∷ numbers) (suc i) some all = get_below bound numbers i some all.1

abbrev StartsBelow : ℕ → TimedPage → Type 0
StartsBelow bound page = ltb page.started bound ≡ true

timed_below : (bound end : ℕ) (points : List ℕ) (pages : List PlainPage) → 0 < bound → AllByRecursion (λ n. n < bound) points → AllByRecursion (StartsBelow bound) (timed points end pages)
timed_below bound end points [] some all = tt
timed_below bound end points (page ∷ pages) some all =
    (lt-ltb (started_by points page) bound (get_below bound points (first_record page) some all), timed_below bound end points pages some all)

segments_below : (bound size : ℕ) (points : List ℕ) (segments : List (ℕ × Segment)) → 0 < bound → AllByRecursion (λ n. n < bound) points
    → AllByRecursion (StartsBelow bound) (flat_map (λ (s : ℕ × Segment). timed points s.0 (segment_pages size s.1)) segments)
segments_below bound size points [] some all = tt
segments_below bound size points (s ∷ segments) some all =
    all_append (StartsBelow bound) (timed points s.0 (segment_pages size s.1)) (flat_map (λ (s : ℕ × Segment). timed points s.0 (segment_pages size s.1)) segments)
    (timed_below bound s.0 points (segment_pages size s.1) some all) (segments_below bound size points segments some all)

all_started : (size : ℕ) (ops : List Operation) → AllByRecursion (StartsBelow (length ops)) (timed_pages size ops)
all_started size [] = tt
all_started size (op ∷ ops) =
    let low : 0 + length (op ∷ ops) ≤ length (op ∷ ops) = omega arith in
    segments_below (length (op ∷ ops)) size (point_numbers (op ∷ ops)) (zip (end_numbers (op ∷ ops)) (segments_of size (op ∷ ops))) (omega arith)
    (weaker (0 + length (op ∷ ops)) (length (op ∷ ops)) (point_numbers (op ∷ ops)) low (points_below 0 None (op ∷ ops)))

-- ---- rounds

max_at : (f : List Operation → ℕ) (clients : List (List Operation)) (from place : ℕ) → place < length clients → f (unwrap_or (slice_get clients place) []) ≤ fold max from (map f clients)
max_at f [] from place h = absurd (omega (arith, h))
max_at f (ops ∷ clients) from zero h = let rest = max_at_least (map f clients) (max from (f ops)) in omega (arith, rest)
max_at f (ops ∷ clients) from (suc place) h = max_at f clients (max from (f ops)) place (omega (arith, h))

rounds_cover : (stride operations : ℕ) → 1 ≤ stride → operations ≤ rounds_for stride operations * stride
rounds_cover stride operations some =
    let positive : 0 < stride = omega (arith, some) in
    let below = lt-div-mul-add {a = operations + (stride - 1)} {b = stride} positive in
    omega (arith, below, some)

module _ (k : Known) (W : PlainWorkload) (laid : IsLaidOut W) where
  abbrev pub count : ℕ
  count = length W.clients

  -- each client has drawn for the pages that it has started
  pub record HasDrawn (m : Machine) : Type 0 where
    pub nodes : m.journal.nodes ≡ W.settings.nodes
    pub clients : m.journal.clients ≡ W.settings.clients
    pub logs : length m.journal.logs ≡ W.settings.nodes
    pub done : length m.done ≡ count
    pub draws : length m.journal.draws ≡ count
    pub drawn : (place : ℕ) → place < count → length (draws_at m.journal place) ≡ pages_started W place (done_at m place)

  started_more : (place a b : ℕ) → a ≤ b → pages_started W place a ≤ pages_started W place b
  started_more place a b low =
      filter_more (λ (page : TimedPage). ltb page.started a) (λ (page : TimedPage). ltb page.started b) (timed_pages W.settings.size (operations_at W place))
      (λ page h. let below = ltb-true page.started a h in lt-ltb page.started b (omega (arith, below, low)))

  -- and no more pages are started than there are
  pub started_few : (place n : ℕ) → pages_started W place n ≤ length (timed_pages W.settings.size (operations_at W place))
  started_few place n = filter_few (λ (page : TimedPage). ltb page.started n) (timed_pages W.settings.size (operations_at W place))

  pub node_there : (place : ℕ) → place < count → place / W.settings.clients < W.settings.nodes
  node_there place below = either (eq-zero-or-pos W.settings.clients)
    where
      either : (W.settings.clients ≡ 0) ⊎ (0 < W.settings.clients) → place / W.settings.clients < W.settings.nodes
      either (inl none) =
          let zeroed : W.settings.nodes * W.settings.clients ≡ W.settings.nodes * 0 = ap (λ (n : ℕ). W.settings.nodes * n) none in
          let nothing : W.settings.nodes * 0 ≡ 0 = omega arith in
          let all = laid.clients in absurd (omega (arith, below, all, zeroed, nothing))
      either (inr some) = let all = laid.clients in (div-lt_iff_lt-mul {k = W.settings.clients} {x = place} {y = W.settings.nodes} some).1 (omega (arith, below, all))

  pub draws_counted : (m : Machine) (place n : ℕ) → place < count → length (draws_in W m (place / W.settings.clients) n) ≡ n
  draws_counted m place n below =
      let low = node_there place below in
      let all = count_nodes k W m.journal in
      let node = get_there (followed W m.journal).nodes (place / W.settings.clients) (omega (arith, low, all)) in
      ap (λ (o : Option NodeRun). length (option_map_or (draws_by W n) o [])) node.1 ∙ length_next n _ _

  -- ---- one client

  abbrev pub next_done : Machine → ℕ → ℕ
  next_done m place = min (done_at m place + W.settings.stride) (length (operations_at W place))

  abbrev pub next_count : Machine → ℕ → ℕ
  next_count m place = pages_started W place (next_done m place) - pages_started W place (done_at m place)

  -- no client is past its operations
  abbrev pub IsWithin : Machine → Type 0
  IsWithin m = (place : ℕ) → done_at m place ≤ length (operations_at W place)

  pub done_here : (m : Machine) (place : ℕ) → HasDrawn m → place < count → done_at (client_goes W m place) place ≡ next_done m place
  done_here m place h below = let all = h.done in unwrap_set m.done place (next_done m place) 0 (omega (arith, all, below))

  pub done_other : (m : Machine) (place other : ℕ) → place ≢ other → done_at (client_goes W m place) other ≡ done_at m other
  done_other m place other ne = unwrap_other m.done place other (next_done m place) 0 ne

  drawn_case : (m : Machine) (place : ℕ) → HasDrawn m → IsWithin m → place < count → (other : ℕ) → other < count → (place ≡ other) ⊎ (place ≢ other)
      → length (draws_at (client_goes W m place).journal other) ≡ pages_started W other (done_at (client_goes W m place) other)
  drawn_case m place h within below other low (inl e) =
      subst (λ (other : ℕ). length (draws_at (client_goes W m place).journal other) ≡ pages_started W other (done_at (client_goes W m place) other)) e
      (let all = h.draws in
      let here : draws_at (client_goes W m place).journal place ≡ draws_at m.journal place ++ draws_in W m (place / W.settings.clients) (next_count m place) =
      unwrap_set m.journal.draws place (draws_at m.journal place ++ draws_in W m (place / W.settings.clients) (next_count m place)) [] (omega (arith, all, below))
      in
      let long = ap length here in
      let both = length-append (draws_at m.journal place) (draws_in W m (place / W.settings.clients) (next_count m place)) in
      let was = h.drawn place below in
      let new = draws_counted m place (next_count m place) below in
      let room = within place in
      let more = started_more place (done_at m place) (next_done m place) (omega (arith, room)) in
      let now = ap (pages_started W place) (done_here m place h below) in
      omega (arith, long, both, was, new, more, now))
  drawn_case m place h within below other low (inr ne) =
      ap length (unwrap_other m.journal.draws place other (draws_at m.journal place ++ draws_in W m (place / W.settings.clients) (next_count m place)) [] ne)
      ∙ h.drawn other low
      ∙ ap (pages_started W other) (sym (done_other m place other ne))

  same_or : (i j : ℕ) → (i ≡ j) ⊎ (i ≢ j)
  same_or zero zero = inl refl
  same_or zero (suc j) = inr (λ e. let no : zero ≡ suc j = e in absurd (omega (arith, no)))
  same_or (suc i) zero = inr (λ e. let no : suc i ≡ zero = e in absurd (omega (arith, no)))
  same_or (suc i) (suc j) = elim (same_or i j) as (λ _. (suc i ≡ suc j) ⊎ (suc i ≢ suc j)) [ inl e ↦ inl (ap suc e) | inr ne ↦ inr (λ e. ne (omega (arith, e))) ]

  pub client_draws : (m : Machine) (place : ℕ) → HasDrawn m → IsWithin m → place < count → HasDrawn (client_goes W m place)
  client_draws m place h within below =
      record {
        nodes = h.nodes;
        clients = h.clients;
        logs = h.logs;
        done = length-set m.done place (next_done m place) ∙ h.done;
        draws = length-set m.journal.draws place (draws_at m.journal place ++ draws_in W m (place / W.settings.clients) (next_count m place)) ∙ h.draws;
        drawn = λ other low. drawn_case m place h within below other low (same_or place other);
      }

  -- ---- all clients of a round

  -- from one machine to another, the clients from one place on have done their next operations
  record HasGone (start places : ℕ) (m later : Machine) : Type 0 where
    drawn : HasDrawn later
    gone : (place : ℕ) → start ≤ place → place < start + places → done_at later place ≡ next_done m place
    before : (place : ℕ) → place < start → done_at later place ≡ done_at m place
    past : (place : ℕ) → start + places ≤ place → done_at later place ≡ done_at m place

  pub at_most_all : (m : Machine) (place : ℕ) → HasDrawn m → IsWithin m → place < count → IsWithin (client_goes W m place)
  at_most_all m place h within below other = either (same_or place other)
    where
      either : (place ≡ other) ⊎ (place ≢ other) → done_at (client_goes W m place) other ≤ length (operations_at W other)
      either (inl e) =
          subst (λ (other : ℕ). done_at (client_goes W m place) other ≤ length (operations_at W other)) e (let here = done_here m place h below in omega (arith, here))
      either (inr ne) = let same = done_other m place other ne in let room = within other in omega (arith, same, room)

  go_all : (start places : ℕ) (m : Machine) → start + places ≤ count → HasDrawn m → IsWithin m → HasGone start places m (fold (client_goes W) m (range_with_len start places))
  go_all start zero m few h within =
      record {
        drawn = h;
        gone = λ place low high. absurd (omega (arith, low, high));
        before = λ place low. refl;
        past = λ place low. refl;
      }
  go_all start (suc places) m few h within =
      let below : start < count = omega (arith, few) in
      let next = client_goes W m start in
      let rest = go_all (start + 1) places next (omega (arith, few)) (client_draws m start h within below) (at_most_all m start h within below) in
      record {
        drawn = rest.drawn;
        gone = λ place low high. gone_case place low high below rest (eq-or-lt_of_le low);
        before = λ place low.
            let ne : start ≢ place = λ e. absurd (omega (arith, e, low)) in
            rest.before place (omega (arith, low)) ∙ done_other m start place ne;
        past = λ place low.
            let ne : start ≢ place = λ e. absurd (omega (arith, e, low)) in
            rest.past place (omega (arith, low)) ∙ done_other m start place ne;
      }
    where
      gone_case : (place : ℕ) → start ≤ place → place < start + suc places → start < count
          → HasGone (start + 1) places (client_goes W m start) (fold (client_goes W) (client_goes W m start) (range_with_len (start + 1) places)) → (start ≡ place) ⊎ (start < place)
          → done_at (fold (client_goes W) (client_goes W m start) (range_with_len (start + 1) places)) place ≡ next_done m place
      gone_case place low high below rest (inl e) =
          subst (λ (place : ℕ). done_at (fold (client_goes W) (client_goes W m start) (range_with_len (start + 1) places)) place ≡ next_done m place) e
          (rest.before start (omega arith) ∙ done_here m start h below)
      gone_case place low high below rest (inr more) =
          let ne : start ≢ place = λ e. absurd (omega (arith, e, more)) in
          rest.gone place (omega (arith, more)) (omega (arith, high))
          ∙ ap (λ (done : ℕ). min (done + W.settings.stride) (length (operations_at W place))) (done_other m start place ne)

  -- ---- rounds

  -- after so many rounds
  pub record HasRounds (n : ℕ) (m : Machine) : Type 0 where
    pub drawn : HasDrawn m
    pub done : (place : ℕ) → place < count → done_at m place ≡ min (n * W.settings.stride) (length (operations_at W place))
    pub past : (place : ℕ) → count ≤ place → done_at m place ≡ 0

  pub within_of : (n : ℕ) (m : Machine) → HasRounds n m → IsWithin m
  within_of n m h place = either (below_or place count)
    where
      below_or : (a b : ℕ) → (a < b) ⊎ (b ≤ a)
      below_or a zero = inr (omega arith)
      below_or zero (suc b) = inl (omega arith)
      below_or (suc a) (suc b) = elim (below_or a b) as (λ _. (suc a < suc b) ⊎ (suc b ≤ suc a)) [ inl less ↦ inl (omega (arith, less)) | inr more ↦ inr (omega (arith, more)) ]

      either : (place < count) ⊎ (count ≤ place) → done_at m place ≤ length (operations_at W place)
      either (inl below) = let is = h.done place below in omega (arith, is)
      either (inr past) = let is = h.past place past in omega (arith, is)

  pub pass_drawn : (m : Machine) → HasDrawn m → HasDrawn (passes W m)
  pass_drawn m h =
      record {
        nodes = h.nodes;
        clients = h.clients;
        logs =
            length_extended (agents_take W m).journal.logs (map give_steps (followed W (agents_take W m).journal).nodes)
            ∙ length_extended m.journal.logs (map (pass_steps W m (followed W m.journal)) (followed W m.journal).nodes)
            ∙ h.logs;
        done = h.done;
        draws = h.draws;
        drawn = h.drawn;
      }

  pass_same : (n : ℕ) (m : Machine) → HasRounds n m → HasRounds n (passes W m)
  pass_same n m h = record { drawn = pass_drawn m h.drawn; done = h.done; past = h.past }

  clients_same : (n : ℕ) (m : Machine) → HasRounds n m → HasRounds (n + 1) (clients_go W m)
  clients_same n m h =
      let gone = go_all 0 count m (omega arith) h.drawn (within_of n m h) in
      record {
        drawn = gone.drawn;
        done = λ place below.
            let now = gone.gone place (omega arith) (omega (arith, below)) in
            let was = h.done place below in
            let product : (n + 1) * W.settings.stride ≡ n * W.settings.stride + W.settings.stride = one_more n in
            omega (arith, now, was, product);
        past = λ place low. gone.past place (omega (arith, low)) ∙ h.past place low;
      }
    where
      one_more : (n : ℕ) → (n + 1) * W.settings.stride ≡ n * W.settings.stride + W.settings.stride
      one_more n = let e : n + 1 ≡ suc n = omega arith in ap (λ (k : ℕ). k * W.settings.stride) e ∙ suc-mul n W.settings.stride

  pub rounds_go : (k n : ℕ) (m : Machine) → HasRounds n m → HasRounds (n + k) (rounds k W m)
  rounds_go zero n m h = let same : n ≡ n + 0 = omega arith in subst (λ (j : ℕ). HasRounds j m) same h
  rounds_go (suc k) n m h =
      let same : n + 1 + k ≡ n + suc k = omega arith in
      subst (λ (j : ℕ). HasRounds j (rounds k W (round W m))) same (rounds_go k (n + 1) (round W m) (pass_same (n + 1) (clients_go W m) (clients_same n m h)))

  zeros : (clients : List (List Operation)) (place : ℕ) → unwrap_or (slice_get (map (λ (_ : List Operation). zero) clients) place) zero ≡ zero
  zeros [] place = refl
  zeros (ops ∷ clients) zero = refl
  zeros (ops ∷ clients) (suc place) = zeros clients place

  abbrev no_draws : List Draw
  no_draws = []

  nones : (clients : List (List Operation)) (place : ℕ) → length (unwrap_or (slice_get (map (λ (_ : List Operation). no_draws) clients) place) []) ≡ 0
  nones [] place = refl
  nones (ops ∷ clients) zero = refl
  nones (ops ∷ clients) (suc place) = nones clients place

  pub begins : HasRounds 0 (machine_start W)
  begins =
      record {
        drawn =
            record {
              nodes = refl;
              clients = refl;
              logs = length-replicate W.settings.nodes [];
              done = length-map W.clients (λ _. zero);
              draws = length-map W.clients (λ _. no_draws);
              drawn = λ place below.
                  nones W.clients place
                  ∙ sym (ap (pages_started W place) (zeros W.clients place)
                  ∙ filter_none (λ (page : TimedPage). ltb page.started 0) (timed_pages W.settings.size (operations_at W place)) (λ page. none_below page.started));
            };
        done = λ place below. let none = zeros W.clients place in let product : 0 * W.settings.stride ≡ 0 = omega arith in omega (arith, none, product);
        past = λ place low. zeros W.clients place;
      }
    where
      none_below : (n : ℕ) → ltb n 0 ≡ false
      none_below n = either (ltb n 0) refl
        where
          either : (b : Bool) → ltb n 0 ≡ b → ltb n 0 ≡ false
          either true e = let less = ltb-true n 0 e in absurd (omega (arith, less))
          either false e = e

  ends : HasRounds (0 + rounds_of W) (machine_end W)
  ends =
      closing_keeps W (HasRounds (0 + rounds_of W)) (pass_same (0 + rounds_of W)) (closing_limit W) (rounds (rounds_of W) W (machine_start W))
      (rounds_go (rounds_of W) 0 (machine_start W) begins)

  -- the rounds are enough for all operations
  pub all_covered : (place : ℕ) → place < count → length (operations_at W place) ≤ rounds_of W * W.settings.stride
  all_covered place below =
      let most = max_at (λ ops. rounds_for W.settings.stride (length ops)) W.clients 0 place below in
      let cover = rounds_cover W.settings.stride (length (operations_at W place)) laid.stride in
      let product = mul-le-mul_right W.settings.stride most in
      omega (arith, cover, product)

  all_done : (place : ℕ) → place < count → done_at (machine_end W) place ≡ length (operations_at W place)
  all_done place below =
      let is = ends.done place below in
      let cover = all_covered place below in
      let same : (0 + rounds_of W) * W.settings.stride ≡ rounds_of W * W.settings.stride = ap (λ (n : ℕ). n * W.settings.stride) zeroth in
      omega (arith, is, cover, same)
    where
      zeroth : 0 + rounds_of W ≡ rounds_of W
      zeroth = omega arith

  all_drawn : (place : ℕ) → place < count → length (draws_at (lockstep W) place) ≡ length (pages_of W.settings.size (operations_at W place))
  all_drawn place below =
      let ops = operations_at W place in
      ends.drawn.drawn place below
      ∙ ap (pages_started W place) (all_done place below)
      ∙ ap length (filter_all (λ (page : TimedPage). ltb page.started (length ops)) (timed_pages W.settings.size ops) (all_started W.settings.size ops))
      ∙ sym (length-map (timed_pages W.settings.size ops) (λ (p : TimedPage). p.page))
      ∙ ap length (k.paged W.settings.size ops (ends_at W.clients place laid.ends))

  pub all_timed : (place : ℕ) → place < count → length (timed_pages W.settings.size (operations_at W place)) ≡ length (draws_at (lockstep W) place)
  all_timed place below =
      let ops = operations_at W place in
      sym (length-map (timed_pages W.settings.size ops) (λ (p : TimedPage). p.page)) ∙ ap length (k.paged W.settings.size ops (ends_at W.clients place laid.ends)) ∙ sym (all_drawn place below)

  counts_same : (draws : List (List Draw)) (clients : List (List Operation)) → length draws ≡ length clients
      → ((place : ℕ) → place < length clients → length (unwrap_or (slice_get draws place) []) ≡ length (pages_of W.settings.size (unwrap_or (slice_get clients place) [])))
      → same_counts (map length draws) (map (λ ops. length (pages_of W.settings.size ops)) clients) ≡ true
  counts_same [] [] same each = refl
  counts_same [] (ops ∷ clients) same each = let no : 0 ≡ suc (length clients) = same in absurd (omega (arith, no))
  counts_same (drawn ∷ draws) [] same each = let no : suc (length draws) ≡ 0 = same in absurd (omega (arith, no))
  counts_same (drawn ∷ draws) (ops ∷ clients) same each =
      let tails : suc (length draws) ≡ suc (length clients) = same in
      both_true (eq-eqb (length drawn) (length (pages_of W.settings.size ops)) (each 0 (omega arith)))
      (counts_same draws clients (omega (arith, tails)) (λ place h. each (suc place) (omega (arith, h))))

  pub shape_all : has_shape (played W (lockstep W)) ≡ true
  shape_all =
      both_true
      (both_true (both_true (eq-eqb (lockstep W).nodes W.settings.nodes ends.drawn.nodes) (eq-eqb (lockstep W).clients W.settings.clients ends.drawn.clients))
      (eq-eqb (length (lockstep W).logs) W.settings.nodes ends.drawn.logs))
      (counts_same (lockstep W).draws W.clients ends.drawn.draws all_drawn)

pub schedule_has_shape : Known → ScheduleHasShape
schedule_has_shape k W laid = shape_all k W laid
