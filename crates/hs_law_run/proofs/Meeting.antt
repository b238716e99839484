-- What meetings behind each round tell: the giver knows a number above all draws of these rounds, and each client one above all gives.
use Rattle.std.proofs.Common.{◌≡◌, ℕ, zero, suc, ◌+◌, ◌-◌, ◌<◌, ◌≤◌, Bool, true, false, ◌&&◌, cond, List, [], ◌∷◌, ◌++◌, length, reverse, refl, sym, ap, subst, ◌∙◌, Some, None, arith, map, slice_get, take, nat_lt, lt-ltb, ltb-true, min, append_assoc}
use Rattle.hs_law_run.proofs.Prelude.{AllByRecursion, filter_map, map-append, filter_map-append, slice_get_within, all_front, all_back, all_each, all_reverse, all_at, all_by_place, get_some, take_length, PlainJournal, noted_as, AgentEvent, PlainWorkload, DrawnPage, stamp_of, TimedPagesAreTimely, client_sends, draws_at, place_of, ops_of, timed_pages, Answer, answers_in, step_stamp, log_stamps, round_of, joined, NodeDoings, all_events, events_in, steps_of, MeetsInRounds, draw_answer}
use Rattle.hs_base.proofs.Alls.{all_mapped}
use Rattle.hs_law_run.proofs.Pools.{stamp_same}
use Rattle.hs_law_run.proofs.PoolOf.{IsPoolOf}
use Rattle.hs_law_run.proofs.Rounds.{IsFit, all_start, page_at, all_pages_at, round_behind}
use Rattle.hs_law_run.proofs.History.{early_pages, late_pages}
use Rattle.hs_law_run.proofs.Turns.{turns_stamps}

-- a number above all of these
pub record HasBound (list : List ℕ) : Type 0 where
  pub bound : ℕ
  pub below : AllByRecursion (λ stamp. stamp < bound) list

pub bound_of : (list : List ℕ) → HasBound list
bound_of [] = record { bound = 0; below = tt }
bound_of (x ∷ list) =
    let rest = bound_of list in
    record { bound = suc x + rest.bound; below = (omega arith, all_each (λ stamp. stamp < rest.bound) (λ stamp. stamp < suc x + rest.bound) list (λ stamp low. omega (arith, low)) rest.below) }

-- the events of a pass stand among those of the passes up to it
pub record StandsIn {X : Type 0} (list pass : List X) : Type 0 where
  pub front : List X
  pub back : List X
  pub list_is : list ≡ front ++ (pass ++ back)

pub stands_in : {X : Type 0} (passes : List (List X)) (place k : ℕ) (pass : List X) → slice_get passes place ≡ Some pass → place < k → StandsIn (joined (take k passes)) pass
stands_in [] place k pass h low = let no : None ≡ Some pass = h in absurd cc
stands_in (p ∷ passes) place zero pass h low = absurd (omega (arith, low))
stands_in (p ∷ passes) zero (suc k) pass h low =
    let same : Some p ≡ Some pass = h in let is : p ≡ pass = cc in record { front = []; back = joined (take k passes); list_is = ap (λ q. q ++ joined (take k passes)) is }
stands_in (p ∷ passes) (suc place) (suc k) pass h low =
    let s = stands_in passes place k pass h (omega (arith, low)) in
    record { front = p ++ s.front; back = s.back; list_is = ap (λ rest. p ++ rest) s.list_is ∙ sym (append_assoc p s.front (pass ++ s.back)) }

pub stamps_both : (xs ys : List AgentEvent) → log_stamps (steps_of (xs ++ ys)) ≡ log_stamps (steps_of xs) ++ log_stamps (steps_of ys)
stamps_both xs ys = ap (filter_map step_stamp) (map-append noted_as xs ys) ∙ filter_map-append step_stamp (steps_of xs) (steps_of ys)

pub all_within : (P : ℕ → Type 0) (list pass : List AgentEvent) → StandsIn list pass → AllByRecursion P (log_stamps (steps_of list)) → AllByRecursion P (log_stamps (steps_of pass))
all_within P list pass s all =
    all_front P (log_stamps (steps_of pass)) (log_stamps (steps_of s.back))
    (subst (AllByRecursion P) (stamps_both pass s.back)
    (all_back P (log_stamps (steps_of s.front)) (log_stamps (steps_of (pass ++ s.back))) (subst (AllByRecursion P) (ap (λ events. log_stamps (steps_of events)) s.list_is ∙ stamps_both s.front (pass ++ s.back)) all)))

module _ (timely : TimedPagesAreTimely) (W : PlainWorkload) (fit : IsFit W) (J : PlainJournal) (n : NodeDoings) (rounds : ℕ) (p : IsPoolOf W J n rounds) where
  -- ---- floors rise

  floor_from : (d k : ℕ) → k + d ≤ length n.passes → (p.at k).floor ≤ (p.at (k + d)).floor
  floor_from zero k low = let same : k + 0 ≡ k = omega arith in subst (λ m. (p.at k).floor ≤ (p.at m).floor) (sym same) (omega arith)
  floor_from (suc d) k low =
      let there = get_some n.passes k (omega (arith, low)) in
      let step = (p.passes k there.item there.there).floor in
      let rest = floor_from d (suc k) (omega (arith, low)) in
      let same : suc k + d ≡ k + suc d = omega arith in
      let last : (p.at (suc k + d)).floor ≡ (p.at (k + suc d)).floor = ap (λ m. (p.at m).floor) same in
      omega (arith, step, rest, last)

  pub floor_rises : (k m : ℕ) → k ≤ m → m ≤ length n.passes → (p.at k).floor ≤ (p.at m).floor
  floor_rises k m low high = let same : k + (m - k) ≡ m = omega (arith, low) in subst (λ x. (p.at k).floor ≤ (p.at x).floor) same (floor_from (m - k) k (omega (arith, low, high)))

  -- ---- the stamps of the answers

  pub stamps_at : (k : ℕ) → k ≤ length n.passes → log_stamps (steps_of (events_in n k)) ≡ map (λ (a : Answer). a.stamp) (reverse (answers_in (p.at k).turns))
  stamps_at k low = turns_stamps W.settings n.node p.lents (events_in n k) (p.at k).turns (p.turns k low)

  pub stamps_below : (k : ℕ) → k ≤ length n.passes → (bound : ℕ) → AllByRecursion (λ (a : Answer). a.stamp < bound) (answers_in (p.at k).turns) → AllByRecursion (λ stamp. stamp < bound) (log_stamps (steps_of (events_in n k)))
  stamps_below k low bound all =
      subst (AllByRecursion (λ stamp. stamp < bound)) (sym (stamps_at k low))
      (all_mapped (λ (a : Answer). a.stamp) (λ stamp. stamp < bound) (reverse (answers_in (p.at k).turns)) (all_reverse (λ (a : Answer). a.stamp < bound) (answers_in (p.at k).turns) all))

  -- ---- the numbers that each knows

  abbrev pub last_round : ℕ → ℕ
  last_round round = min round rounds

  abbrev pub giver_knows : ℕ → ℕ
  giver_knows round = (p.at (last_round round)).floor

  pub all_stamps : HasBound (log_stamps (steps_of (all_events n)))
  all_stamps = bound_of (log_stamps (steps_of (all_events n)))

  abbrev pub is_known : (client round : ℕ) → Bool
  is_known client round = nat_lt client W.settings.clients && nat_lt round (suc rounds)

  abbrev pub drawer_knows : (client round : ℕ) → ℕ
  drawer_knows client round = cond (is_known client round) ((p.at round).floors client) all_stamps.bound

  -- of each page its round is that of an operation of its client
  pub starts_in_rounds : (client : ℕ) → client < W.settings.clients → AllByRecursion (λ (page : DrawnPage). round_of W.settings.stride page.started ≤ rounds) (client_sends W J n.node client).drawn
  starts_in_rounds client few =
      all_by_place (λ (page : DrawnPage). round_of W.settings.stride page.started ≤ rounds) (client_sends W J n.node client).drawn
      (λ i page h.
      let at = page_at (record { node = n.node; number = client }) 0 (timed_pages W.settings.size (ops_of W n.node client)) (draws_at J (place_of W.settings.clients n.node client)) i page h in
      let ops = ops_of W n.node client in
      let starts =
      all_at (λ t. t.started < length ops) (timed_pages W.settings.size ops) i at.timed
      (all_start 0 (length ops) (timed_pages W.settings.size ops) (timely W.settings.size ops fit.least (fit.bracketed (place_of W.settings.clients n.node client)))) at.there in
      let done = p.done client few in
      let is = at.started in
      round_behind W fit page.started rounds (omega (arith, starts, done, is)))

  pub owner_is : (client : ℕ) → AllByRecursion (λ (page : DrawnPage). page.client.number ≡ client) (client_sends W J n.node client).drawn
  owner_is client =
      all_by_place (λ (page : DrawnPage). page.client.number ≡ client) (client_sends W J n.node client).drawn
      (λ i page h.
      ap (λ owner. owner.number)
      (page_at (record { node = n.node; number = client }) 0 (timed_pages W.settings.size (ops_of W n.node client)) (draws_at J (place_of W.settings.clients n.node client)) i page h).owner)

  -- what holds of the answers up to a round, the last of which is the last of all
  pub early_or_all : (P : Answer → Type 0) (round client : ℕ) → client < W.settings.clients → AllByRecursion P ((p.at (min round rounds)).answers client)
      → AllByRecursion (λ (page : DrawnPage). round_of W.settings.stride page.started ≤ round → P (draw_answer page.draw)) (client_sends W J n.node client).drawn
  early_or_all P round client few all =
      let pages = (client_sends W J n.node client).drawn in
      let early = early_pages timely W fit J n rounds p P (min round rounds) client (omega arith) few all in
      let starts = starts_in_rounds client few in
      all_by_place (λ (page : DrawnPage). round_of W.settings.stride page.started ≤ round → P (draw_answer page.draw)) pages
      (λ i page h low.
      let last = all_at (λ (page : DrawnPage). round_of W.settings.stride page.started ≤ rounds) pages i page starts h in
      all_at (λ (page : DrawnPage). round_of W.settings.stride page.started ≤ min round rounds → P (draw_answer page.draw)) pages i page early h (omega (arith, low, last)))

  drawn_low : (round client : ℕ) → client < W.settings.clients → AllByRecursion (λ (a : Answer). a.stamp < giver_knows round) ((p.at (min round rounds)).answers client)
  drawn_low round client few = either (min round rounds) refl
    where
      either : (k : ℕ) → min round rounds ≡ k → AllByRecursion (λ (a : Answer). a.stamp < (p.at k).floor) ((p.at k).answers client)
      either zero is = subst (AllByRecursion (λ (a : Answer). a.stamp < (p.at 0).floor)) (sym (p.new client few)) tt
      either (suc k) is = (p.meets k client (omega (arith, is)) few).drawn_below

  pub known : (client round : ℕ) → client < W.settings.clients → round ≤ rounds → drawer_knows client round ≡ (p.at round).floors client
  known client round few low = ap (λ b. cond b ((p.at round).floors client) all_stamps.bound) (and_both (nat_lt client W.settings.clients) (nat_lt round (suc rounds)) (lt-ltb client W.settings.clients few) (lt-ltb round (suc rounds) (omega (arith, low))))
    where
      and_both : (a b : Bool) → a ≡ true → b ≡ true → (a && b) ≡ true
      and_both a b ha hb = ap (λ x. x && b) ha ∙ hb

  stamps_of_pass : (k place : ℕ) (pass : List AgentEvent) → place < k → k ≤ length n.passes → slice_get n.passes place ≡ Some pass → (bound : ℕ) → AllByRecursion (λ (a : Answer). a.stamp < bound) (answers_in (p.at k).turns)
      → AllByRecursion (λ stamp. stamp < bound) (log_stamps (steps_of pass))
  stamps_of_pass k place pass low high there bound all = all_within (λ stamp. stamp < bound) (events_in n k) pass (stands_in n.passes place k pass there low) (stamps_below k high bound all)

  given_low : (client round place : ℕ) (pass : List AgentEvent) → place < round → slice_get n.passes place ≡ Some pass → AllByRecursion (λ stamp. stamp < drawer_knows client round) (log_stamps (steps_of pass))
  given_low client zero place pass low there = absurd (omega (arith, low))
  given_low client (suc k) place pass low there = either (nat_lt client W.settings.clients) refl (nat_lt (suc k) (suc rounds)) refl
    where
      whole_below : AllByRecursion (λ stamp. stamp < all_stamps.bound) (log_stamps (steps_of pass))
      whole_below =
          all_within (λ stamp. stamp < all_stamps.bound) (all_events n) pass
          (subst (λ (list : List AgentEvent). StandsIn list pass) (ap joined (take_length n.passes)) (stands_in n.passes place (length n.passes) pass there (slice_get_within n.passes place pass there))) all_stamps.below

      either : (a : Bool) → nat_lt client W.settings.clients ≡ a → (b : Bool) → nat_lt (suc k) (suc rounds) ≡ b
          → AllByRecursion (λ stamp. stamp < cond (a && b) ((p.at (suc k)).floors client) all_stamps.bound) (log_stamps (steps_of pass))
      either true e true f =
          let few = ltb-true client W.settings.clients e in
          let within = ltb-true (suc k) (suc rounds) f in
          let enough = p.enough in
          stamps_of_pass (suc k) place pass low (omega (arith, within, enough)) there ((p.at (suc k)).floors client) (p.meets k client (omega (arith, within)) few).given_below
      either true e false f = whole_below
      either false e b f = whole_below

  pub meets_in_rounds : MeetsInRounds W J n
  meets_in_rounds =
      record {
        giver = giver_knows;
        drawer = drawer_knows;
        drawn_below = λ round.
            all_pages_at (λ (page : DrawnPage). round_of W.settings.stride page.started ≤ round → stamp_of page.draw < giver_knows round) W J n.node
            (λ client few.
            all_each (λ (page : DrawnPage). round_of W.settings.stride page.started ≤ round → (draw_answer page.draw).stamp < giver_knows round)
            (λ (page : DrawnPage). round_of W.settings.stride page.started ≤ round → stamp_of page.draw < giver_knows round) (client_sends W J n.node client).drawn
            (λ page below low. subst (λ stamp. stamp < giver_knows round) (stamp_same page.draw) (below low))
            (early_or_all (λ (a : Answer). a.stamp < giver_knows round) round client few (drawn_low round client few)));
        given_above = λ round place pass low there.
            let within = slice_get_within n.passes place pass there in
            let rises = floor_rises (min round rounds) place (omega (arith, low)) (omega (arith, within)) in
            all_each (λ stamp. (p.at place).floor ≤ stamp) (λ stamp. giver_knows round ≤ stamp) (log_stamps (steps_of pass)) (λ stamp high. omega (arith, high, rises)) (p.passes place pass there).high;
        given_below = given_low;
        drawn_above = λ round.
            all_pages_at (λ (page : DrawnPage). round < round_of W.settings.stride page.started → drawer_knows page.client.number round ≤ stamp_of page.draw) W J n.node
            (λ client few.
            all_by_place (λ (page : DrawnPage). round < round_of W.settings.stride page.started → drawer_knows page.client.number round ≤ stamp_of page.draw) (client_sends W J n.node client).drawn
            (λ i page h behind.
            let last = all_at (λ (page : DrawnPage). round_of W.settings.stride page.started ≤ rounds) (client_sends W J n.node client).drawn i page (starts_in_rounds client few) h in
            let low : round ≤ rounds = omega (arith, behind, last) in
            let owner = all_at (λ (page : DrawnPage). page.client.number ≡ client) (client_sends W J n.node client).drawn i page (owner_is client) h in
            let above =
            all_at (λ (page : DrawnPage). round < round_of W.settings.stride page.started → (p.at round).floors client ≤ (draw_answer page.draw).stamp) (client_sends W J n.node client).drawn i page
            (late_pages timely W fit J n rounds p round client low few) h behind in
            let knows = ap (λ c. drawer_knows c round) owner ∙ known client round few low in
            let stamp = stamp_same page.draw in
            omega (arith, above, knows, stamp)));
      }
