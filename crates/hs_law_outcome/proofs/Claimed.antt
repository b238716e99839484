-- Event by event: a claim stays, the chunks keep their places and their pages, and what is claimed is not evicted.
use Rattle.std.proofs.Common.{◌≡◌, ℕ, Bool, true, false, ◌||◌, List, [], ◌∷◌, ◌++◌, take, drop, refl, sym, ap, ◌∙◌, Option, Some, None, option_map, slice_get}
use Rattle.hs_law_outcome.proofs.Prelude.{list_any, option_map_or, slice_get-map, all_each, get_front, TraceId, same_trace, EventsGoOn, sheets_of, Taken, trace_of, stands, is_of_trace, AgentState, ClaimedTrace, is_claimed, AgentEvent, after_event, after, PlainSettings, Sheet, followed, ComesByEvents, AgentsComeByEvents}
use Rattle.std.proofs.lemmas.List.{take-append-drop}
use Rattle.hs_law_agent.specs.Laws.{EventsAddThis, ClaimsHoldForGood, NothingClaimedIsEvicted, brought_by}
use Rattle.hs_law_agent.specs.Standings.{is_evicted}
use Rattle.hs_law_agent.specs.Stepping.{after_from}
use Rattle.hs_law_journal.specs.Extending.{HasMore}
use Rattle.hs_law_outcome.specs.Causes.{KeepsItsClaims, NothingClaimedWasEvicted}

-- whether the page at a place is of the trace
abbrev page_of_trace : TraceId → Option Sheet → Bool
page_of_trace trace o = option_map_or (λ (sheet : Sheet). same_trace trace sheet.header.trace) o false

chunk_or_page : (trace : TraceId) (o : Option Taken) → option_map_or (λ (chunk : Taken). same_trace trace (trace_of chunk)) o false ≡ page_of_trace trace (option_map (λ (chunk : Taken). chunk.sheet) o)
chunk_or_page trace None = refl
chunk_or_page trace (Some chunk) = refl

by_pages : (taken : List Taken) (trace : TraceId) (place : ℕ) → is_of_trace taken trace place ≡ page_of_trace trace (slice_get (sheets_of taken) place)
by_pages taken trace place = chunk_or_page trace (slice_get taken place) ∙ ap (page_of_trace trace) (sym (slice_get-map (λ (chunk : Taken). chunk.sheet) taken place))

longer_case : (trace : TraceId) (before more : List Sheet) (place : ℕ) (o : Option Sheet) → slice_get before place ≡ o → page_of_trace trace o ≡ true → page_of_trace trace (slice_get (before ++ more) place) ≡ true
longer_case trace before more place None e h = let no : false ≡ true = h in absurd cc
longer_case trace before more place (Some sheet) e h = ap (page_of_trace trace) (get_front before more place sheet e) ∙ h

stays_of_trace : (before after : List Taken) → HasMore (sheets_of before) (sheets_of after) → (trace : TraceId) (place : ℕ) → is_of_trace before trace place ≡ true → is_of_trace after trace place ≡ true
stays_of_trace before after f trace place h =
    by_pages after trace place ∙ ap (λ (all : List Sheet). page_of_trace trace (slice_get all place)) f.is
    ∙ longer_case trace (sheets_of before) f.more place (slice_get (sheets_of before) place) refl (sym (by_pages before trace place) ∙ h)

any_case : (a b c : Bool) → (a || b) ≡ true → (b ≡ true → c ≡ true) → (a || c) ≡ true
any_case true b c h on = refl
any_case false b c h on = on h

any_more : {X : Type 0} (p : X → Bool) (xs ys : List X) → list_any p xs ≡ true → list_any p (xs ++ ys) ≡ true
any_more p [] ys h = let no : false ≡ true = h in absurd cc
any_more p (x ∷ xs) ys h = any_case (p x) (list_any p xs) (list_any p (xs ++ ys)) h (any_more p xs ys)

module _ (adds : EventsAddThis) (goes : EventsGoOn) (hold : ClaimsHoldForGood) (kept : NothingClaimedIsEvicted) (settings : PlainSettings) (node : ℕ) (trace : TraceId) (place : ℕ) where
  claimed_later : (later earlier : List AgentEvent) → is_of_trace (after settings node earlier).taken trace place ≡ true → is_claimed (after settings node earlier).claims trace ≡ true
      → stands is_evicted (after_from settings node (after settings node earlier) later).taken place ≡ stands is_evicted (after settings node earlier).taken place
  claimed_later [] earlier of_trace claimed = refl
  claimed_later (event ∷ later) earlier of_trace claimed =
      let state = after settings node earlier in
      let next : after settings node (earlier ++ event ∷ []) ≡ after_event settings node state event = goes settings node earlier (event ∷ []) in
      let claims = hold settings node earlier (event ∷ []) in
      let still : is_claimed (after_event settings node state event).claims trace ≡ true =
      ap (λ (all : List ClaimedTrace). is_claimed all trace) claims.1 ∙ any_more (λ (claim : ClaimedTrace). same_trace trace claim.trace) state.claims claims.0 claimed
      in
      let there : is_of_trace (after_event settings node state event).taken trace place ≡ true =
      stays_of_trace state.taken (after_event settings node state event).taken (record { more = brought_by event; is = (adds settings node state).chunks event }) trace place of_trace
      in
      let rest =
      claimed_later later (earlier ++ event ∷ []) (ap (λ (s : AgentState). is_of_trace s.taken trace place) next ∙ there) (ap (λ (s : AgentState). is_claimed s.claims trace) next ∙ still)
      in
      ap (λ (s : AgentState). stands is_evicted (after_from settings node s later).taken place) (sym next)
      ∙ rest
      ∙ ap (λ (s : AgentState). stands is_evicted s.taken place) next
      ∙ kept settings node earlier event place trace of_trace claimed

pub nothing_claimed_was_evicted : EventsAddThis → EventsGoOn → ClaimsHoldForGood → NothingClaimedIsEvicted → AgentsComeByEvents → NothingClaimedWasEvicted
nothing_claimed_was_evicted adds goes hold kept comes W J =
    all_each (ComesByEvents W.settings) (KeepsItsClaims W.settings) (followed W J).nodes
    (λ run c n trace place of_trace claimed.
    let whole : run.state ≡ after_from W.settings run.node (after W.settings run.node (take n run.events)) (drop n run.events) =
    c ∙ ap (after W.settings run.node) (sym (take-append-drop n run.events)) ∙ goes W.settings run.node (take n run.events) (drop n run.events)
    in
    ap (λ (s : AgentState). stands is_evicted s.taken place) whole
    ∙ claimed_later adds goes hold kept W.settings run.node trace place (drop n run.events) (take n run.events) of_trace claimed)
    (comes W J)
