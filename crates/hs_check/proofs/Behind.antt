-- The state of a followed node's agent behind some steps of its log: it has given back the first buffers that it gives back, as many
-- as these steps have gives, each with the chunk that lies at its place in the end too.
use Rattle.std.proofs.Common.{◌≡◌, ℕ, zero, suc, ◌+◌, ◌<◌, ◌≤◌, Bool, false, cond, List, [], ◌∷◌, ◌++◌, length, map, take, drop, Option, Some, None, refl, sym, ap, ◌∙◌, inl, inr, arith}
use Rattle.hs_check.proofs.Prelude.{slice_get, option_map, count_by, ◌||◌, flat_map, list_any, option_and_then, option_map_or, take-append_seam, eq-eqb, cases_lt, append_assoc, append-nil, length-append, length-map, map-append, take-append-drop, take-map, sum_by-cons, slice_get-map, one_if, Step, EventsAddThis, EventsGoOn, ListsHaveTheirChunks, Taken, AgentState, GivenPlace, PlainSettings, DrawnPage, NodeRun, ComesByEvents, state_behind, page_of, given_page, is_give}
use Rattle.std.specs.Prelude.{filter_map}
use Rattle.std.proofs.lemmas.List.Sums.{sum_by-append}
use Rattle.hs_base.proofs.Places.{get_front_same}
use Rattle.hs_records.specs.declared.journal.Step.TheVariants as steps
use Rattle.hs_law_agent.specs.Laws.{count_of, given_places, sheets_of, brought_by, noted_as}
use Rattle.hs_law_agent.specs.Standings.{is_let_go, stands}
use Rattle.hs_law_agent.specs.State.{start}
use Rattle.hs_law_agent.specs.Stepping.{Given, Missed, Unread, AgentEvent, Took, Gave, give_back, step_of, after_event, after_from, after}
use Rattle.hs_words.specs.Pages.{Sheet}
use Rattle.hs_law_journal.specs.Gives.{given_stamp}

-- ---- counts of gives

counted : (step : Step) (log : List Step) → count_by is_give (step ∷ log) ≡ one_if (is_give step) + count_by is_give log
counted step log = sum_by-cons (λ (s : Step). cond (is_give s) 1 0) step log

pub gives_joined : (earlier later : List Step) → count_by is_give (earlier ++ later) ≡ count_by is_give earlier + count_by is_give later
gives_joined earlier later = sum_by-append (λ (s : Step). cond (is_give s) 1 0) earlier later

stamps_counted : (log : List Step) → length (filter_map given_stamp log) ≡ count_by is_give log
stamps_counted [] = refl
stamps_counted (steps.Given stamp ∷ log) = let e = counted (steps.Given stamp) log in let rest = stamps_counted log in omega (arith, e, rest)
stamps_counted (steps.Missed stamp ∷ log) = let e = counted (steps.Missed stamp) log in let rest = stamps_counted log in omega (arith, e, rest)
stamps_counted (steps.Unread ∷ log) = let e = counted steps.Unread log in let rest = stamps_counted log in omega (arith, e, rest)
stamps_counted (steps.Chunk client ∷ log) = let e = counted (steps.Chunk client) log in let rest = stamps_counted log in omega (arith, e, rest)
stamps_counted (steps.Crumb client ∷ log) = let e = counted (steps.Crumb client) log in let rest = stamps_counted log in omega (arith, e, rest)
stamps_counted (steps.Trigger client ∷ log) = let e = counted (steps.Trigger client) log in let rest = stamps_counted log in omega (arith, e, rest)
stamps_counted (steps.Ask ∷ log) = let e = counted steps.Ask log in let rest = stamps_counted log in omega (arith, e, rest)
stamps_counted (steps.Turn ∷ log) = let e = counted steps.Turn log in let rest = stamps_counted log in omega (arith, e, rest)

-- ---- what events add

-- a list with at most so many more behind it
record Grows {A : Type 0} (list longer : List A) (most : ℕ) : Type 0 where
  more : List A
  is : longer ≡ list ++ more
  few : length more ≤ most

grows_not : {A : Type 0} (list longer : List A) (most : ℕ) → longer ≡ list → Grows list longer most
grows_not list longer most same = record { more = []; is = same ∙ sym (append-nil list); few = omega arith }

module _ (adds : EventsAddThis) (settings : PlainSettings) (node : ℕ) where
  log_after : (state : AgentState) (events : List AgentEvent) → (after_from settings node state events).log ≡ state.log ++ map noted_as events
  log_after state [] = sym (append-nil state.log)
  log_after state (event ∷ events) =
      log_after (after_event settings node state event) events
      ∙ ap (λ (l : List Step). l ++ map noted_as events) ((adds settings node state).log event)
      ∙ append_assoc state.log (noted_as event ∷ []) (map noted_as events)

  sheets_after : (state : AgentState) (events : List AgentEvent) → sheets_of (after_from settings node state events).taken ≡ sheets_of state.taken ++ flat_map brought_by events
  sheets_after state [] = sym (append-nil (sheets_of state.taken))
  sheets_after state (event ∷ events) =
      sheets_after (after_event settings node state event) events
      ∙ ap (λ (l : List Sheet). l ++ flat_map brought_by events) ((adds settings node state).chunks event)
      ∙ append_assoc (sheets_of state.taken) (brought_by event) (flat_map brought_by events)

  gives_one : (stamp : ℕ) (hand : List ℕ) (state : AgentState) → Grows state.given (give_back stamp hand state).given 1
  gives_one stamp [] state = grows_not state.given state.given 1 refl
  gives_one stamp (place ∷ hand) state = record { more = record { place = place; stamp = stamp } ∷ []; is = refl; few = omega arith }

  given_by_one : (state : AgentState) (event : AgentEvent) → Grows state.given (after_event settings node state event).given (one_if (is_give (noted_as event)))
  given_by_one state (Took input) = grows_not state.given (after_event settings node state (Took input)).given (one_if (is_give (step_of input))) ((adds settings node state).given input)
  given_by_one state (Gave (Given stamp)) = gives_one stamp state.hand state
  given_by_one state (Gave (Missed stamp)) = grows_not state.given state.given 0 refl
  given_by_one state (Gave Unread) = grows_not state.given state.given 0 refl

  given_after : (state : AgentState) (events : List AgentEvent) → Grows state.given (after_from settings node state events).given (count_by is_give (map noted_as events))
  given_after state [] = grows_not state.given state.given 0 refl
  given_after state (event ∷ events) =
      let next = after_event settings node state event in
      let one = given_by_one state event in
      let rest = given_after next events in
      let count = counted (noted_as event) (map noted_as events) in
      let a = one.few in
      let b = rest.few in
      record {
        more = one.more ++ rest.more;
        is = rest.is ∙ ap (λ (l : List GivenPlace). l ++ rest.more) one.is ∙ append_assoc state.given one.more rest.more;
        few = let both = length-append one.more rest.more in omega (arith, both, count, a, b);
      }

-- ---- behind some steps

module _ (adds : EventsAddThis) (goes_on : EventsGoOn) (lists : ListsHaveTheirChunks) (settings : PlainSettings) (run : NodeRun) (come : ComesByEvents settings run) where
  logged : run.state.log ≡ map noted_as run.events
  logged = ap (λ (s : AgentState). s.log) come ∙ log_after adds settings run.node (start settings) run.events

  module _ (earlier later : List Step) (parts : earlier ++ later ≡ run.state.log) where
    n : ℕ
    n = length earlier

    abbrev state : AgentState
    state = state_behind settings run (length earlier)

    first : map noted_as (take (length earlier) run.events) ≡ earlier
    first = sym (take-map noted_as (length earlier) run.events) ∙ ap (take (length earlier)) (sym (parts ∙ logged)) ∙ take-append_seam earlier later

    split : run.state ≡ after_from settings run.node (state_behind settings run (length earlier)) (drop (length earlier) run.events)
    split =
        come ∙ ap (after settings run.node) (sym (take-append-drop (length earlier) run.events))
        ∙ goes_on settings run.node (take (length earlier) run.events) (drop (length earlier) run.events)

    rest : earlier ++ map noted_as (drop (length earlier) run.events) ≡ earlier ++ later
    rest =
        sym (ap (λ (l : List Step). l ++ map noted_as (drop (length earlier) run.events)) first)
        ∙ sym (map-append noted_as (take (length earlier) run.events) (drop (length earlier) run.events))
        ∙ ap (map noted_as) (take-append-drop (length earlier) run.events) ∙ sym (parts ∙ logged)

    -- the gives so far are the first ones
    pub given_behind : map (λ (g : GivenPlace). g.stamp) run.state.given ≡ filter_map given_stamp run.state.log
        → (state_behind settings run (length earlier)).given ≡ take (count_by is_give earlier) run.state.given
    given_behind noted =
        let state = state_behind settings run (length earlier) in
        let a = given_after adds settings run.node (start settings) (take (length earlier) run.events) in
        let b = given_after adds settings run.node state (drop (length earlier) run.events) in
        let whole : run.state.given ≡ state.given ++ b.more = ap (λ (s : AgentState). s.given) split ∙ b.is in
        let counts = ap (count_by is_give) rest in
        let x = gives_joined earlier (map noted_as (drop (length earlier) run.events)) in
        let y = gives_joined earlier later in
        let z = ap (count_by is_give) parts in
        let all : length run.state.given ≡ count_by is_give run.state.log =
        sym (length-map run.state.given (λ (g : GivenPlace). g.stamp)) ∙ ap length noted ∙ stamps_counted run.state.log in
        let sum = ap length whole ∙ length-append state.given b.more in
        let few_a = a.few in
        let few_b = b.few in
        let same_a = ap (count_by is_give) first in
        let len_a = ap length a.is in
        let many : length state.given ≡ count_by is_give earlier = omega (arith, counts, x, y, z, all, sum, few_a, few_b, same_a, len_a) in
        sym (ap (take (count_by is_give earlier)) whole ∙ sym (ap (λ k. take k (state.given ++ b.more)) many) ∙ take-append_seam state.given b.more)

    -- the chunk at a place stays there
    sheet_stays : (place : ℕ) → place < length (state_behind settings run (length earlier)).taken → given_page run (state_behind settings run (length earlier)) place ≡ given_page run run.state place
    sheet_stays place low =
        let state = state_behind settings run (length earlier) in
        let more = flat_map brought_by (drop (length earlier) run.events) in
        let whole : sheets_of run.state.taken ≡ sheets_of state.taken ++ more = ap (λ (s : AgentState). sheets_of s.taken) split ∙ sheets_after adds settings run.node state (drop (length earlier) run.events) in
        let long = length-map state.taken (λ (chunk : Taken). chunk.sheet) in
        by_sheet state.taken place
        ∙ ap (λ (o : Option Sheet). option_and_then (page_of run) o) (sym (ap (λ (l : List Sheet). slice_get l place) whole ∙ get_front_same (sheets_of state.taken) more place (omega (arith, long, low))))
        ∙ sym (by_sheet run.state.taken place)
      where
        by_sheet : (taken : List Taken) (place : ℕ) → option_and_then (λ (chunk : Taken). page_of run chunk.sheet) (slice_get taken place) ≡ option_and_then (page_of run) (slice_get (sheets_of taken) place)
        by_sheet taken place = mapped (slice_get taken place) ∙ sym (ap (option_and_then (page_of run)) (slice_get-map (λ (chunk : Taken). chunk.sheet) taken place))
          where
            mapped : (o : Option Taken) → option_and_then (λ (chunk : Taken). page_of run chunk.sheet) o ≡ option_and_then (page_of run) (option_map (λ (chunk : Taken). chunk.sheet) o)
            mapped (Some chunk) = refl
            mapped None = refl

    -- a buffer that was given back is that of a chunk that was taken
    taken_before : (place : ℕ) → 1 ≤ count_of (given_places (state_behind settings run (length earlier)) ++ (state_behind settings run (length earlier)).hand) place
        → place < length (state_behind settings run (length earlier)).taken
    taken_before place some =
        let state = state_behind settings run (length earlier) in
        elim (cases_lt place (length state.taken)) [
          | inl low ↦ low
          | inr high ↦
              (let each = (lists settings run.node (take (length earlier) run.events)).gone_each place in
              let nobody : stands is_let_go state.taken place ≡ false = nowhere state.taken place high in
              let none = ap one_if nobody in
              absurd (omega (arith, each, none, some)))
        ]
      where
        nowhere : (taken : List Taken) (place : ℕ) → length taken ≤ place → stands is_let_go taken place ≡ false
        nowhere [] place high = refl
        nowhere (chunk ∷ taken) zero high = absurd (omega arith)
        nowhere (chunk ∷ taken) (suc place) high = nowhere taken place (omega arith)

    -- so a test of the pages that were given back can look at the end
    pub pages_stay : (test : DrawnPage → Bool)
        → list_any (λ (g : GivenPlace). option_map_or test (given_page run (state_behind settings run (length earlier)) g.place) false) (state_behind settings run (length earlier)).given
        ≡ list_any (λ (g : GivenPlace). option_map_or test (given_page run run.state g.place) false) (state_behind settings run (length earlier)).given
    pages_stay test = each (state_behind settings run (length earlier)).given (λ place some. sheet_stays place (taken_before place some))
      where
        each : (given : List GivenPlace)
            → ((place : ℕ) → 1 ≤ count_of (map (λ (g : GivenPlace). g.place) given ++ (state_behind settings run (length earlier)).hand) place → given_page run (state_behind settings run (length earlier)) place ≡ given_page run run.state place)
            → list_any (λ (g : GivenPlace). option_map_or test (given_page run (state_behind settings run (length earlier)) g.place) false) given
            ≡ list_any (λ (g : GivenPlace). option_map_or test (given_page run run.state g.place) false) given
        each [] same = refl
        each (g ∷ given) same =
            let here = ap one_if (eq-eqb g.place g.place refl) in
            ap (λ (o : Option DrawnPage). option_map_or test o false || list_any (λ (g : GivenPlace). option_map_or test (given_page run (state_behind settings run (length earlier)) g.place) false) given) (same g.place (omega (arith, here)))
            ∙ ap (λ b. option_map_or test (given_page run run.state g.place) false || b) (each given (λ place some. same place (omega (arith, some))))
