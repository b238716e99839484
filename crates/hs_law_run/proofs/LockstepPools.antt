-- What is held at the end shows the three clauses of pools: the stamps number the events, the events are a history, and each give
-- answers the draw of its chunk.
use Rattle.std.proofs.Common.{◌≡◌, ℕ, zero, suc, ◌+◌, ◌<◌, ◌≤◌, true, false, List, [], ◌∷◌, ◌++◌, length, refl, sym, ap, subst, ◌∙◌, Some, arith, map, option_map, slice_get, count_by, eqb, nat_eq, eq-eqb}
use Rattle.hs_law_run.proofs.Prelude.{AllByRecursion, flat_map, range_with_len, list_all, cons_option, option_and_then, option_map_or, both_true, map-append, length-map, mul-add-lt, slice_get-map, all_each, all_at, get_there, list_all_from, list_all_range_below, range_at, ClientId, Draw, PlainJournal, sheets_of, GivenPlace, PlainWorkload, DrawnPage, stamp_of, drawn_from, ClientSends, client_sends, node_sends, operations_at, draws_at, place_of, TimedPage, timed_pages, IsHistoryBack, NodeRun, followed, log_at, played, StampedPoolEvent, drawn_event, page_of, given_page, pool_events, pool_history, answers_draw, log_stamps, rise, IsLaidOut, Known, lockstep}
use Rattle.hs_base.proofs.Tests.{list_all_map}
use Rattle.hs_words.specs.PoolHistory.{IsPoolHistory}
use Rattle.hs_law_journal.specs.Pooled.{gives_answer, has_answers}
use Rattle.hs_law_journal.specs.Shape.{node_draws, draw_stamps, node_stamps, are_numbered, node_has_stamps, has_stamps}
use Rattle.hs_law_run.specs.Clauses.{ScheduleHasStamps, ScheduleHasHistory, ScheduleHasAnswers}
use Rattle.hs_law_run.proofs.Followed.{count_nodes, number_is, log_of}
use Rattle.hs_law_run.proofs.Growing.{events_back, stamps_of, IsAnswered, answer_passes}
use Rattle.hs_law_run.proofs.Held.{node_events, HoldsAt, IsHeld, pool_is, sheet_at}
use Rattle.hs_law_run.proofs.Holding.{pages_in, gives_in, event_there, GiveAnswers}
use Rattle.hs_law_run.proofs.Keeping.{Keeps, ends_keep, own_sends}
use Rattle.hs_law_run.proofs.Machines.{machine_end}
use Rattle.hs_law_run.proofs.Shapes.{all_timed}

-- ---- a node

module _ (W : PlainWorkload) (run : NodeRun) (h : HoldsAt W.settings run) where
  pub history_there : IsPoolHistory W.settings.buffers (pool_history run)
  history_there = subst (λ (es : List StampedPoolEvent). IsHistoryBack W.settings.buffers (events_back es)) (sym (pool_is run h.missed)) h.pooled.history

  give_passes : (g : GivenPlace) → GiveAnswers run.sends (sheets_of run.state.taken) run.state.given g
      → option_map_or (λ (d : DrawnPage). answers_draw (pool_events run) g.stamp d.draw) (given_page run run.state g.place) false ≡ true
  give_passes g a =
      let found : given_page run run.state g.place ≡ Some a.drawn.page = sheet_at (page_of run) run.state.taken g.place ∙ ap (option_and_then (page_of run)) a.is ∙ a.drawn.there in
      ap (λ o. option_map_or (λ (d : DrawnPage). answers_draw (pool_events run) g.stamp d.draw) o false) found
      ∙ ap (answers_draw (pool_events run) g.stamp) a.drawn.got
      ∙ answer_passes (pool_events run) a.drawn.buffer a.drawn.stamp g.stamp
      (subst (λ (es : List StampedPoolEvent). IsAnswered es a.drawn.buffer a.drawn.stamp g.stamp) (sym (pool_is run h.missed)) a.answers)

  answers_there : gives_answer run ≡ true
  answers_there =
      list_all_from (λ (g : GivenPlace). option_map_or (λ (d : DrawnPage). answers_draw (pool_events run) g.stamp d.draw) (given_page run run.state g.place) false) run.state.given
      (all_each (GiveAnswers run.sends (sheets_of run.state.taken) run.state.given)
      (λ (g : GivenPlace). option_map_or (λ (d : DrawnPage). answers_draw (pool_events run) g.stamp d.draw) (given_page run run.state g.place) false ≡ true) run.state.given give_passes h.answers)

  gives_stamped : (givens : List GivenPlace) → AllByRecursion (GiveAnswers run.sends (sheets_of run.state.taken) run.state.given) givens
      → stamps_of (gives_in run.sends (sheets_of run.state.taken) givens) ≡ map (λ (g : GivenPlace). g.stamp) givens
  gives_stamped [] all = refl
  gives_stamped (g ∷ givens) all =
      let a = all.0 in
      ap (λ o. stamps_of (cons_option o (gives_in run.sends (sheets_of run.state.taken) givens))) (event_there run.sends (sheets_of run.state.taken) g a.sheet a.is a.drawn)
      ∙ ap (λ (rest : List ℕ). g.stamp ∷ rest) (gives_stamped givens all.1)

page_stamps : (pages : List DrawnPage) → stamps_of (map drawn_event pages) ≡ map (λ (d : DrawnPage). stamp_of d.draw) pages
page_stamps [] = refl
page_stamps (d ∷ pages) = ap (λ (rest : List ℕ). stamp_of d.draw ∷ rest) (page_stamps pages)

drawn_stamps : (client : ClientId) (k : ℕ) (timed : List TimedPage) (draws : List Draw) → length timed ≡ length draws → map (λ (d : DrawnPage). stamp_of d.draw) (drawn_from client k timed draws) ≡ draw_stamps draws
drawn_stamps client k [] [] same = refl
drawn_stamps client k [] (draw ∷ draws) same = let no : 0 ≡ suc (length draws) = same in absurd (omega (arith, no))
drawn_stamps client k (page ∷ timed) [] same = let no : suc (length timed) ≡ 0 = same in absurd (omega (arith, no))
drawn_stamps client k (page ∷ timed) (draw ∷ draws) same =
    let tails : suc (length timed) ≡ suc (length draws) = same in ap (λ (rest : List ℕ). stamp_of draw ∷ rest) (drawn_stamps client (k + 1) timed draws (omega (arith, tails)))

module _ (k : Known) (W : PlainWorkload) where
  abbrev J : PlainJournal
  J = lockstep W

  kept : Keeps k W (machine_end W)
  kept = ends_keep k W

  pub history_all : AllByRecursion (λ (run : NodeRun). IsPoolHistory W.settings.buffers (pool_history run)) (followed W J).nodes
  history_all = all_each (IsHeld W.settings) (λ (run : NodeRun). IsPoolHistory W.settings.buffers (pool_history run)) (followed W J).nodes (λ run h. history_there W run h.holds) kept.held

  pub answers_all : has_answers (played W J) ≡ true
  answers_all = list_all_from gives_answer (followed W J).nodes (all_each (IsHeld W.settings) (λ (run : NodeRun). gives_answer run ≡ true) (followed W J).nodes (λ run h. answers_there W run h.holds) kept.held)

  module _ (laid : IsLaidOut W) (node : ℕ) (low : node < W.settings.nodes) where
    here : (run : NodeRun) × (slice_get (followed W J).nodes node ≡ Some run)
    here = let count = count_nodes k W J in get_there (followed W J).nodes node (omega (arith, count, low))

    abbrev run : NodeRun
    run = here.0

    number : run.node ≡ node
    number = number_is k W J node run here.1

    holds : HoldsAt W.settings run
    holds = (all_at (IsHeld W.settings) (followed W J).nodes node run kept.held here.1).holds

    log : log_at J node ≡ run.state.log
    log = sym (log_of k W (machine_end W) kept.done node run here.1)

    sends : run.sends ≡ node_sends W J node
    sends = own_sends k W J node run here.1 ∙ ap (node_sends W J) number

    client_stamps : (client : ℕ) → client < W.settings.clients → map (λ (d : DrawnPage). stamp_of d.draw) (client_sends W J node client).drawn ≡ draw_stamps (draws_at J (place_of W.settings.clients node client))
    client_stamps client below =
        let place = place_of W.settings.clients node client in
        let there = mul-add-lt node W.settings.clients client W.settings.nodes low below in
        let count = laid.clients in
        drawn_stamps (record { node = node; number = client }) 0 (timed_pages W.settings.size (operations_at W place)) (draws_at J place) (all_timed k W laid place (omega (arith, there, count)))

    -- the stamps of the draws
    all_stamps : (start count : ℕ) → start + count ≤ W.settings.clients → stamps_of (map drawn_event (pages_in (map (client_sends W J node) (range_with_len start count))))
        ≡ flat_map draw_stamps (map (λ client. draws_at J (place_of W.settings.clients node client)) (range_with_len start count))
    all_stamps start zero few = refl
    all_stamps start (suc count) few =
        let first = (client_sends W J node start).drawn in
        let rest = pages_in (map (client_sends W J node) (range_with_len (start + 1) count)) in
        ap stamps_of (map-append drawn_event first rest)
        ∙ map-append (λ (e : StampedPoolEvent). e.stamp) (map drawn_event first) (map drawn_event rest)
        ∙ ap (λ (front : List ℕ). front ++ stamps_of (map drawn_event rest)) (page_stamps first ∙ client_stamps start (omega (arith, few)))
        ∙ ap (λ (more : List ℕ). draw_stamps (draws_at J (place_of W.settings.clients node start)) ++ more) (all_stamps (start + 1) count (omega (arith, few)))

    stamps_are : node_stamps W J node ≡ stamps_of (node_events run)
    stamps_are =
        let sheets = sheets_of run.state.taken in
        sym
        (map-append (λ (e : StampedPoolEvent). e.stamp) (map drawn_event (pages_in run.sends)) (gives_in run.sends sheets run.state.given)
        ∙ ap (λ (sends : List ClientSends). stamps_of (map drawn_event (pages_in sends)) ++ stamps_of (gives_in run.sends sheets run.state.given)) sends
        ∙ ap (λ (front : List ℕ). front ++ stamps_of (gives_in run.sends sheets run.state.given)) (all_stamps 0 W.settings.clients (omega arith))
        ∙ ap (λ (gives : List ℕ). flat_map draw_stamps (node_draws W J node) ++ gives) (gives_stamped W run holds run.state.given holds.answers ∙ sym holds.stamps ∙ ap log_stamps (sym log)))

    numbered : are_numbered (node_stamps W J node) ≡ true
    numbered =
        subst (λ (stamps : List ℕ). are_numbered stamps ≡ true) (sym stamps_are)
        (list_all_range_below (λ s. nat_eq (count_by (λ t. eqb t s) (stamps_of (node_events run))) 1) 0 (length (stamps_of (node_events run)))
        (λ s below.
        let long = length-map (node_events run) (λ (e : StampedPoolEvent). e.stamp) in
        eq-eqb (count_by (λ t. eqb t s) (stamps_of (node_events run))) 1 (holds.pooled.each s (omega (arith, below, long)))))

    client_there : (client : ℕ) → client < W.settings.clients → slice_get run.sends client ≡ Some (client_sends W J node client)
    client_there client below =
        let zeroth : 0 + client ≡ client = omega arith in
        ap (λ (all : List ClientSends). slice_get all client) sends
        ∙ slice_get-map (client_sends W J node) (range_with_len 0 W.settings.clients) client
        ∙ ap (option_map (client_sends W J node)) (range_at 0 W.settings.clients client below ∙ ap Some zeroth)

    draws_rise : list_all (λ draws. rise (draw_stamps draws)) (node_draws W J node) ≡ true
    draws_rise =
        list_all_map (λ draws. rise (draw_stamps draws)) (λ client. draws_at J (place_of W.settings.clients node client)) (range_with_len 0 W.settings.clients)
        ∙ list_all_range_below (λ client. rise (draw_stamps (draws_at J (place_of W.settings.clients node client)))) 0 W.settings.clients
        (λ client below.
        let low : client < W.settings.clients = omega (arith, below) in
        ap rise (sym (client_stamps client low)) ∙ (holds.clients client (client_sends W J node client) (client_there client low)).rises)

    stamps_there : node_has_stamps W J node ≡ true
    stamps_there = both_true (both_true numbered draws_rise) (ap (λ log. rise (log_stamps log)) log ∙ holds.rising)

  pub stamps_all : IsLaidOut W → has_stamps (played W J) ≡ true
  stamps_all laid = list_all_range_below (node_has_stamps W J) 0 W.settings.nodes (λ node h. stamps_there laid node (omega (arith, h)))

pub schedule_has_history : Known → ScheduleHasHistory
schedule_has_history k W = history_all k W

pub schedule_has_answers : Known → ScheduleHasAnswers
schedule_has_answers k W = answers_all k W

pub schedule_has_stamps : Known → ScheduleHasStamps
schedule_has_stamps k W laid = stamps_all k W laid
