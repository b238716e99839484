-- Behind each pass there is a number above all draws and gives up to there, and below all later ones.
use Rattle.std.proofs.Common.{◌≡◌, ℕ, zero, suc, ◌+◌, ◌*◌, ◌<◌, ◌≤◌, min, Bool, true, false, cond, List, [], ◌∷◌, ◌++◌, length, refl, sym, ap, subst, ◌∙◌, Some, None, arith, map, option_map, filter, slice_get, nat_lt, ltb-true, ltb-false, append-nil}
use Rattle.hs_law_run.proofs.Prelude.{ends_at, place_low, AllByRecursion, cons_option, range_with_len, slice_get-map, mul-le-mul_right, ClientId, Draw, Step, PlainJournal, sheets_of, AgentEvent, PlainWorkload, DrawnPage, stamp_of, IsTimely, ClientSends, client_sends, operations_at, draws_at, place_of, TimedPage, timed_pages, IsValid, rounds_of, NodeRun, followed, StampedPoolEvent, pool_history, step_stamp, log_stamps, IsRunnable, pass_steps, agents_take, agents_give, node_at, same_Some, all_append, all_at, range_at, Known, all_by_place}
use Rattle.hs_law_journal.specs.Doings.{steps_of, journal_of}
use Rattle.hs_law_journal.specs.Unreads.{round_of}
use Rattle.hs_law_run.proofs.Giving.{history_long}
use Rattle.hs_law_run.proofs.Held.{node_events}
use Rattle.hs_law_run.proofs.Holding.{gives_in, at_page}
use Rattle.hs_law_run.proofs.Marks.{given, Since, then_since, taken_since}
use Rattle.hs_law_run.proofs.Passes.{run_there, pass_at}
use Rattle.hs_law_run.proofs.Shapes.{all_covered}
use Rattle.hs_law_run.proofs.Stages.{reached, gone_reached}
use Rattle.hs_law_run.proofs.Standing.{held_at}
use Rattle.hs_law_run.proofs.Takes.{before_turn, all_takes}
use Rattle.hs_law_run.proofs.Told.{added_are, long, journal_is}
use Rattle.hs_law_run.specs.Told.{stage, gone, events_at, node_doings, doings_of}
use Rattle.hs_law_journal.proofs.Joined.{unmapped_at}
use Rattle.hs_law_run.proofs.Lists.{get_low, get_high}
use Rattle.hs_law_run.proofs.Rounds.{IsFit, starts_before, IsSplitAt, split_at, all_start, IsPageAt, page_at, page_of_draw, all_pages_at, round_within, round_behind}
use Rattle.hs_law_run.proofs.Workloads.{fit_of}
use Rattle.hs_law_run.specs.Facts.{MeetsInRounds}
use Rattle.hs_law_run.specs.Stories.{added}
use Rattle.std.proofs.lemmas.List.Elements.{filter_map-append}
use Rattle.hs_records.specs.declared.journal.Step.TheVariants as steps
use Rattle.hs_records.specs.declared.setting.Setting.TheVariants as settings
use Rattle.hs_law_run.proofs.Gone as gone_is
use Rattle.hs_law_run.specs.Reaching as reaching
use Rattle.hs_law_run.proofs.Fitting.{agents_give_so}
use Rattle.hs_law_run.proofs.Standing.{whole}
use Rattle.hs_law_run.proofs.Valid.{valid_workloads_run}

-- ---- stamps of a pass

none_stamped : (log : List Step) → AllByRecursion (λ (step : Step). step_stamp step ≡ None) log → log_stamps log ≡ []
none_stamped [] all = refl
none_stamped (step ∷ log) all = ap (λ o. cons_option o (log_stamps log)) all.0 ∙ none_stamped log all.1

gives_stamped : (stamps : List ℕ) → log_stamps (map (λ (stamp : ℕ). steps.Given stamp) stamps) ≡ stamps
gives_stamped [] = refl
gives_stamped (stamp ∷ stamps) = ap (λ (rest : List ℕ). stamp ∷ rest) (gives_stamped stamps)

in_range : (P : ℕ → Type 0) (first count : ℕ) → ((t : ℕ) → first ≤ t → t < first + count → P t) → AllByRecursion P (range_with_len first count)
in_range P first zero each = tt
in_range P first (suc count) each = (each first (omega arith) (omega arith), in_range P (first + 1) count (λ t high low. each t (omega (arith, high)) (omega (arith, low))))

module _ (known : Known) (W : PlainWorkload) (valid : IsValid W) (count : ℕ) (enough : rounds_of W ≤ count) (i : ℕ) (low : i < W.settings.nodes) where
  abbrev J : PlainJournal
  J = (stage W count).journal

  fit : IsFit W
  fit = fit_of W valid

  runs : IsRunnable W
  runs = valid_workloads_run W valid

  -- the node at a stage, and how far its pool is
  abbrev run_at : (p : ℕ) → (run : NodeRun) × (node_at W (stage W p).journal i ≡ Some run)
  run_at p = run_there known W (stage W p) i low

  abbrev mark : ℕ → ℕ
  mark p = length (pool_history (run_at p).0)

  module _ (client : ℕ) (few : client < W.settings.clients) where
    abbrev place : ℕ
    place = place_of W.settings.clients i client

    abbrev owner : ClientId
    owner = record { node = i; number = client }

    abbrev pages : List TimedPage
    pages = timed_pages W.settings.size (operations_at W (place_of W.settings.clients i client))

    abbrev ends : ℕ
    ends = length (operations_at W (place_of W.settings.clients i client))

    timely : IsTimely 0 ends pages
    timely = known.timely W.settings.size (operations_at W place) runs.size (ends_at W.clients place runs.laid.ends)

    abbrev draws_by : ℕ → List Draw
    draws_by p = draws_at (stage W p).journal (place_of W.settings.clients i client)

    drawn_is : (p : ℕ) → length (draws_by p) ≡ length (filter (starts_before (min (p * W.settings.stride) ends)) pages)
    drawn_is p =
        let below = place_low W valid i client low few in
        (whole known W runs.laid (stage W p) (reached W p)).drawn place below
        ∙ ap (λ n. length (filter (starts_before n) pages)) (gone_is.done_is known W runs.laid place below p)

    since : (p : ℕ) → p ≤ count → Since known W valid i client low few (mark p) (draws_by p) (stage W count)
    since p high =
        then_since known W valid i client low few (mark p) (draws_by p) p
        (record { run = (run_at p).0; at = (run_at p).1; high = marked p; more = []; draws = sym (append-nil (draws_by p)); above = tt }) count high
      where
        marked : (p : ℕ) → mark p ≤ length (pool_history (run_at p).0)
        marked p = omega arith

    -- a draw up to a stage is below its number
    below_mark : (p j : ℕ) (draw : Draw) → slice_get (draws_by p) j ≡ Some draw → stamp_of draw < mark p
    below_mark p j draw h =
        let r = run_at p in
        let held = held_at known W (stage W p) (reached W p) i r.0 r.1 in
        let w = (whole known W runs.laid (stage W p) (reached W p)).each i r.0 r.1 in
        let shorter = drawn_is p in
        let most = few_drawn (min (p * W.settings.stride) ends) pages in
        let page = page_of_draw owner 0 pages (draws_by p) j draw (omega (arith, shorter, most)) h in
        let zeroth : 0 + client ≡ client = omega arith in
        let there : slice_get r.0.sends client ≡ Some (client_sends W (stage W p).journal i client) =
        ap (λ (all : List ClientSends). slice_get all client) w.sends ∙ slice_get-map (client_sends W (stage W p).journal i) (range_with_len 0 W.settings.clients) client
        ∙ ap (option_map (client_sends W (stage W p).journal i)) (range_at 0 W.settings.clients client few ∙ ap Some zeroth)
        in
        let at =
        at_page (λ (v : StampedPoolEvent). v.stamp < length (node_events r.0)) r.0.sends (gives_in r.0.sends (sheets_of r.0.state.taken) r.0.state.given) client j (client_sends W (stage W p).journal i client) page.page
        held.holds.pooled.low there page.there
        in
        let long = history_long W.settings r.0 held in
        let is = ap stamp_of page.draw_is in
        omega (arith, at, long, is)
      where
        few_drawn : (m : ℕ) (pages : List TimedPage) → length (filter (starts_before m) pages) ≤ length pages
        few_drawn m [] = omega arith
        few_drawn m (page ∷ pages) = either (starts_before m page) (few_drawn m pages)
          where
            either : (b : Bool) → length (filter (starts_before m) pages) ≤ length pages → length (cond b (page ∷ filter (starts_before m) pages) (filter (starts_before m) pages)) ≤ suc (length pages)
            either true h = omega (arith, h)
            either false h = omega (arith, h)

    -- the rounds cover all operations
    covered : ends ≤ count * W.settings.stride
    covered =
        let cover = all_covered known W runs.laid place (place_low W valid i client low few) in
        let more = mul-le-mul_right W.settings.stride enough in
        omega (arith, cover, more)

    module _ (j : ℕ) (page : DrawnPage) (h : slice_get (client_sends W J i client).drawn j ≡ Some page) (round : ℕ) where
      at : IsPageAt owner 0 pages (draws_at J place) j page
      at = page_at owner 0 pages (draws_at J place) j page h

      s : Since known W valid i client low few (mark (min round count)) (draws_by (min round count)) (stage W count)
      s = since (min round count) (omega arith)

      split : IsSplitAt (min (min round count * W.settings.stride) ends) pages j at.timed
      split = split_at 0 ends (min (min round count * W.settings.stride) ends) pages timely j at.timed at.there

      in_time : at.timed.started < ends
      in_time = all_at (λ (p : TimedPage). p.started < ends) pages j at.timed (all_start 0 ends pages timely) at.there

      there : slice_get (draws_by (min round count) ++ s.more) j ≡ Some page.draw
      there = ap (λ (draws : List Draw). slice_get draws j) (sym s.draws) ∙ at.draw

      below : round_of W.settings.stride page.started ≤ round → stamp_of page.draw < mark (min round count)
      below early =
          let inside : at.timed.started < min round count * W.settings.stride = cases (nat_lt count round) refl in
          let time = in_time in
          let few_are = split.early (omega (arith, inside, time)) in
          let drawn = drawn_is (min round count) in
          below_mark (min round count) j page.draw (get_low (draws_by (min round count)) s.more j page.draw there (omega (arith, few_are, drawn)))
        where
          cases : (b : Bool) → nat_lt count round ≡ b → at.timed.started < min round count * W.settings.stride
          cases true e =
              let high = ltb-true count round e in
              let same : count ≡ min round count = omega (arith, high) in
              subst (λ n. at.timed.started < n * W.settings.stride) same (let time = in_time in let all = covered in omega (arith, time, all))
          cases false e =
              let few = ltb-false count round e in
              let same : round ≡ min round count = omega (arith, few) in
              subst (λ n. at.timed.started < n * W.settings.stride) same (subst (λ n. n < round * W.settings.stride) at.started (round_within W fit page.started round early))

      above : round < round_of W.settings.stride page.started → mark (min round count) ≤ stamp_of page.draw
      above late = cases (nat_lt j (length (draws_by (min round count)))) refl
        where
          cases : (b : Bool) → nat_lt j (length (draws_by (min round count))) ≡ b → mark (min round count) ≤ stamp_of page.draw
          cases true e =
              let short = ltb-true j (length (draws_by (min round count))) e in
              let drawn = drawn_is (min round count) in
              let early = split.late (omega (arith, short, drawn)) in
              let least : min round count ≤ round = omega arith in
              let more = mul-le-mul_right W.settings.stride least in
              let started = at.started in
              let behind = round_behind W fit page.started round (omega (arith, early, more, started)) in
              absurd (omega (arith, behind, late))
          cases false e =
              let b = get_high (draws_by (min round count)) s.more j page.draw there (ltb-false j (length (draws_by (min round count))) e) in
              all_at (λ (draw : Draw). mark (min round count) ≤ stamp_of draw) s.more b.place page.draw s.above b.there

  -- ---- gives

  stamps_are : (k : ℕ) → log_stamps (steps_of (pass_at known W k i low).from.new) ≡ range_with_len (pass_at known W k i low).from.from (pass_at known W k i low).from.count
  stamps_are k =
      let a = (pass_at known W k i low).from in
      let front = pass_steps W (gone W k) (followed W (gone W k).journal) a.node in
      ap log_stamps a.noted
      ∙ filter_map-append step_stamp front (map (λ (stamp : ℕ). steps.Given stamp) (range_with_len a.from a.count))
      ∙ ap (λ (first : List ℕ). first ++ log_stamps (map (λ (stamp : ℕ). steps.Given stamp) (range_with_len a.from a.count)))
      (none_stamped front
      (all_append (λ (step : Step). step_stamp step ≡ None) (before_turn W (gone W k) (followed W (gone W k).journal) a.node) (steps.Turn ∷ [])
      (all_takes (λ (step : Step). step_stamp step ≡ None) (λ client. refl) (λ client. refl) (λ client. refl) refl W (gone W k) (followed W (gone W k).journal) a.node) (refl, tt)))
      ∙ gives_stamped (range_with_len a.from a.count)

  some_client : 0 < W.settings.clients
  some_client = let some = (valid.head settings.Clients).0 in omega (arith, some)

  -- the gives of a pass stand between the numbers of the stages around it
  between : (p q k t : ℕ) → p ≤ k → suc k ≤ q → (pass_at known W k i low).from.from ≤ t → t < (pass_at known W k i low).from.from + (pass_at known W k i low).from.count → (mark p ≤ t) × (t < mark q)
  between p q k t before behind high less =
      let a = pass_at known W k i low in
      let f = a.from in
      let m = agents_take W (gone W k) in
      let v = agents_give_so known valid_workloads_run W valid m (reaching.Takes (gone W k) (gone_reached W k)) i f.taken f.taken_there in
      let s = taken_since known W valid i 0 low some_client (mark p) (draws_at (stage W p).journal (place_of W.settings.clients i 0)) p (start p) k before in
      let u = then_since known W valid i 0 low some_client (mark (suc k)) (draws_at (stage W (suc k)).journal (place_of W.settings.clients i 0)) (suc k) (start (suc k)) q behind in
      let same = ap (λ (r : NodeRun). length (pool_history r)) (same_Some s.run f.taken (sym s.at ∙ f.taken_there)) in
      let from = f.from_is in
      let many = f.count_is in
      let g = (given W m (agents_give W m) i f.taken v).holds t (omega (arith, high, from)) (omega (arith, less, from, many)) in
      let first = g.0 in
      let second = g.1 in
      let later_is = same_Some v.later a.later (sym v.node ∙ f.given_there) in
      let is = ap (λ (r : NodeRun). length (pool_history r)) (later_is ∙ same_Some a.later (run_at (suc k)).0 (sym a.later_there ∙ (run_at (suc k)).1)) in
      let rises = ap (λ (r : NodeRun). length (pool_history r)) (same_Some u.run (run_at q).0 (sym u.at ∙ (run_at q).1)) in
      let here = marked (suc k) in
      let there = marked q in
      let high_s = s.high in
      let high_u = u.high in
      (omega (arith, same, first, high_s), omega (arith, second, is, rises, here, there, high_u))
    where
      marked : (p : ℕ) → mark p ≡ length (pool_history (run_at p).0)
      marked p = refl

      start : (p : ℕ) → Since known W valid i 0 low some_client (mark p) (draws_at (stage W p).journal (place_of W.settings.clients i 0)) (stage W p)
      start p = record { run = (run_at p).0; at = (run_at p).1; high = omega arith; more = []; draws = sym (append-nil (draws_at (stage W p).journal (place_of W.settings.clients i 0))); above = tt }

  passes_are : (k : ℕ) (pass : List AgentEvent) → slice_get (node_doings W count i).passes k ≡ Some pass → (k < count) × (log_stamps (steps_of pass) ≡ range_with_len (pass_at known W k i low).from.from (pass_at known W k i low).from.count)
  passes_are k pass h =
      let at = unmapped_at (added (events_at W i)) count k pass h in
      (at.low, ap (λ (events : List AgentEvent). log_stamps (steps_of events)) (sym at.is ∙ added_are known W count i low k) ∙ stamps_are k)

  meets : MeetsInRounds W J (node_doings W count i)
  meets =
      record {
        giver = λ round. mark (min round count);
        drawer = λ client round. mark (min round count);
        drawn_below = λ round.
            all_pages_at (λ (page : DrawnPage). round_of W.settings.stride page.started ≤ round → stamp_of page.draw < mark (min round count)) W J i
            (λ client few. all_by_place (λ (page : DrawnPage). round_of W.settings.stride page.started ≤ round → stamp_of page.draw < mark (min round count)) (client_sends W J i client).drawn (λ j page h early. below client few j page h round early));
        given_above = λ round k pass low_round h.
            let p = passes_are k pass h in
            let within = p.0 in
            subst (AllByRecursion (λ stamp. mark (min round count) ≤ stamp)) (sym p.1)
            (in_range (λ stamp. mark (min round count) ≤ stamp) (pass_at known W k i low).from.from (pass_at known W k i low).from.count
            (λ t high less. (between (min round count) (suc k) k t (omega (arith, low_round)) (omega arith) high less).0));
        given_below = λ client round k pass before h.
            let p = passes_are k pass h in
            let within = p.0 in
            subst (AllByRecursion (λ stamp. stamp < mark (min round count))) (sym p.1)
            (in_range (λ stamp. stamp < mark (min round count)) (pass_at known W k i low).from.from (pass_at known W k i low).from.count
            (λ t high less. (between k (min round count) k t (omega arith) (omega (arith, before, within)) high less).1));
        drawn_above = λ round.
            all_pages_at (λ (page : DrawnPage). round < round_of W.settings.stride page.started → mark (min round count) ≤ stamp_of page.draw) W J i
            (λ client few. all_by_place (λ (page : DrawnPage). round < round_of W.settings.stride page.started → mark (min round count) ≤ stamp_of page.draw) (client_sends W J i client).drawn (λ j page h late. above client few j page h round late));
      }

  pub meets_in_rounds : MeetsInRounds W (journal_of W (doings_of W count)) (node_doings W count i)
  meets_in_rounds = subst (λ (J : PlainJournal). MeetsInRounds W J (node_doings W count i)) (sym (journal_is known W count)) meets
