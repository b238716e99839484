-- What an agent noted: a step for each of its events, and no more gives than chunks.
use Rattle.std.proofs.Common.{◌≡◌, ℕ, ◌+◌, ◌<◌, ◌≤◌, Bool, true, false, cond, eq-eqb, List, [], ◌∷◌, ◌++◌, length, refl, ap, ◌∙◌, inl, inr, arith, slice_get, count_by, length-append}
use Rattle.hs_run.proofs.Prelude.{cases_lt, length-map, sum_by-cons, AllByRecursion, flat_map, steps_of, Step, EventsAddThis, ListsHaveTheirChunks, brought_by, noted_as, AgentEvent, after, is_chunk, is_given, PlainSettings}
use Rattle.std.specs.Prelude.{IsSome}
use Rattle.hs_base.proofs.Counts.{one_if, one_few}
use Rattle.hs_law_journal.specs.LoopPasses.{HandsReady}
use Rattle.hs_law_agent.proofs.Counts.{passes_past}
use Rattle.hs_law_agent.specs.Laws.{ListsEach, count_of, given_places}
use Rattle.hs_law_agent.specs.Standings.{Taken, is_let_go, stands}
use Rattle.hs_law_agent.specs.State.{AgentState, GivenPlace, start}
use Rattle.hs_law_agent.specs.Stepping.{Input, Chunk, Crumbed, Triggered, Asked, Turn, Given, Missed, Unread, Took, Gave, after_event, after_from, give_back, step_of}
use Rattle.hs_law_journal.proofs.ItemsTaken.{sheets_taken}
use Rattle.hs_run.proofs.TallyLists.{few_for_each}

-- ---- steps

one_chunk : (event : AgentEvent) → one_if (is_chunk (noted_as event)) ≡ length (brought_by event)
one_chunk (Took (Chunk client sheet)) = refl
one_chunk (Took (Crumbed client crumb)) = refl
one_chunk (Took (Triggered client trigger)) = refl
one_chunk (Took (Asked ask)) = refl
one_chunk (Took Turn) = refl
one_chunk (Gave (Given stamp)) = refl
one_chunk (Gave (Missed stamp)) = refl
one_chunk (Gave Unread) = refl

-- as many chunks are noted as came
pub chunks_noted : (events : List AgentEvent) → count_by is_chunk (steps_of events) ≡ length (flat_map brought_by events)
chunks_noted [] = refl
chunks_noted (event ∷ events) =
    let both = sum_by-cons (λ (step : Step). cond (is_chunk step) 1 0) (noted_as event) (steps_of events) in
    let long = length-append (brought_by event) (flat_map brought_by events) in
    let here : cond (is_chunk (noted_as event)) 1 0 ≡ length (brought_by event) = one_chunk event in
    let rest = chunks_noted events in
    omega (arith, both, long, here, rest)

-- ---- gives

gives_one : (stamp : ℕ) (hand : List ℕ) (state : AgentState) → IsSome (slice_get hand 0) → length (give_back stamp hand state).given ≡ length state.given + 1
gives_one stamp [] state some = let no : false ≡ true = some in absurd cc
gives_one stamp (place ∷ hand) state some = length-append state.given (record { place = place; stamp = stamp } ∷ [])

no_give : (input : Input) → one_if (is_given (step_of input)) ≡ 0
no_give (Chunk client sheet) = refl
no_give (Crumbed client crumb) = refl
no_give (Triggered client trigger) = refl
no_give (Asked ask) = refl
no_give Turn = refl

-- each give that is noted gave a buffer of the hand
gives_noted : EventsAddThis → (settings : PlainSettings) (node : ℕ) (state : AgentState) (events : List AgentEvent) → HandsReady settings node state events
    → length state.given + count_by is_given (steps_of events) ≤ length (after_from settings node state events).given
gives_noted adds settings node state [] ready = omega arith
gives_noted adds settings node state (Took input ∷ events) ready =
    let both = sum_by-cons (λ (step : Step). cond (is_given step) 1 0) (noted_as (Took input)) (steps_of events) in
    let none : cond (is_given (noted_as (Took input))) 1 0 ≡ 0 = no_give input in
    let same = ap length ((adds settings node state).given input) in
    let rest = gives_noted adds settings node (after_event settings node state (Took input)) events ready in
    omega (arith, both, none, same, rest)
gives_noted adds settings node state (Gave (Given stamp) ∷ events) ready =
    let both = sum_by-cons (λ (step : Step). cond (is_given step) 1 0) (noted_as (Gave (Given stamp))) (steps_of events) in
    let more = gives_one stamp state.hand state ready.0 in
    let rest = gives_noted adds settings node (after_event settings node state (Gave (Given stamp))) events ready.1 in
    omega (arith, both, more, rest)
gives_noted adds settings node state (Gave (Missed stamp) ∷ events) ready =
    let both = sum_by-cons (λ (step : Step). cond (is_given step) 1 0) (noted_as (Gave (Missed stamp))) (steps_of events) in
    let rest = gives_noted adds settings node (after_event settings node state (Gave (Missed stamp))) events ready.1 in
    omega (arith, both, rest)
gives_noted adds settings node state (Gave Unread ∷ events) ready =
    let both = sum_by-cons (λ (step : Step). cond (is_given step) 1 0) (noted_as (Gave Unread)) (steps_of events) in
    let rest = gives_noted adds settings node (after_event settings node state (Gave Unread)) events ready.1 in
    omega (arith, both, rest)

-- ---- places

-- no place is let go that has no chunk
places_low : (count : ℕ) (gone : List ℕ) → ((place : ℕ) → count ≤ place → count_of gone place ≡ 0) → AllByRecursion (λ (place : ℕ). (k : ℕ) × (k < count) × (place ≡ k)) gone
places_low count [] none = tt
places_low count (place ∷ gone) none = ((place, low, refl), places_low count gone (λ other high. rest other (none other high)))
  where
    rest : (other : ℕ) → count_of (place ∷ gone) other ≡ 0 → count_of gone other ≡ 0
    rest other e = omega (arith, e)

    here : count_of (place ∷ gone) place ≡ 1 + count_of gone place
    here = ap (λ (b : Bool). cond b 1 0 + count_of gone place) (eq-eqb place place refl)

    low : place < count
    low =
        elim (cases_lt place count) [
          | inl less ↦ less
          | inr high ↦
              let e = none place high in
              let one = here in
              absurd (omega (arith, e, one))
        ]

-- each chunk is let go once
few_gone : (taken : List Taken) (gone : List ℕ) → ListsEach is_let_go taken gone → length gone ≤ length taken
few_gone taken gone each =
    let low = places_low (length taken) gone (λ place high. each place ∙ ap (λ (b : Bool). cond b 1 0) (passes_past (λ (chunk : Taken). is_let_go chunk.standing) taken place high)) in
    let most =
    few_for_each (λ (k place : ℕ). place ≡ k) count_of here more (length taken) 1 gone low
    (λ place _.
    let e = each place in
    let one = one_few (stands is_let_go taken place) in
    omega (arith, e, one)) in
    omega (arith, most)
  where
    here : (k place : ℕ) (places : List ℕ) → place ≡ k → count_of places k + 1 ≤ count_of (place ∷ places) k
    here k place places same =
        let e : count_of (place ∷ places) k ≡ 1 + count_of places k = ap (λ (b : Bool). cond b 1 0 + count_of places k) (eq-eqb place k same) in
        omega (arith, e)

    more : (k place : ℕ) (places : List ℕ) → count_of places k ≤ count_of (place ∷ places) k
    more k place places = omega arith

-- no more gives are noted than chunks
pub few_gives : EventsAddThis → ListsHaveTheirChunks → (settings : PlainSettings) (node : ℕ) (events : List AgentEvent) → HandsReady settings node (start settings) events → count_by is_given (steps_of events) ≤ count_by is_chunk (steps_of events)
few_gives adds lists settings node events ready =
    let state = after settings node events in
    let gives = gives_noted adds settings node (start settings) events ready in
    let gone = few_gone state.taken (given_places state ++ state.hand) (lists settings node events).gone_each in
    let both = length-append (given_places state) state.hand in
    let places = length-map state.given (λ (g : GivenPlace). g.place) in
    let sheets = length-map state.taken (λ (chunk : Taken). chunk.sheet) in
    let came = ap length (sheets_taken adds settings node events) in
    let chunks = chunks_noted events in
    omega (arith, gives, gone, both, places, sheets, came, chunks)
