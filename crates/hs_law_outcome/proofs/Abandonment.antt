-- An event leads on with another limit on pins as it does with the own one, as far as all may be pinned; then abandonment follows,
-- and where it stops no more is pinned than may be, since nothing more is behind any event.
use Rattle.std.proofs.Common.{◌≡◌, inl, inr, ℕ, zero, suc, ◌<◌, ◌≤◌, Bool, true, false, ◌||◌, cond, List, [], ◌∷◌, ◌++◌, length, refl, sym, ap, subst, ◌∙◌, arith, Option, Some, None, take, filter}
use Rattle.hs_law_outcome.proofs.Prelude.{nat_lt, AllByRecursion, list_any, option_map_or, ltb-true, all_each, TraceId, Ask, Crumb, Group, Told, Trigger, Fired, Step, PlainSettings, Sheet, ChunkStanding, Indexed, Pinned, Reported, Evicted, Abandoned, Taken, AgentState, ClaimedTrace, claim_of, is_claimed, told_of, Input, Chunk, Crumbed, Triggered, Asked, Turn, AgentEvent, Took, Gave, admits, group_of, after_event, after, LimitsHold, EventsGoOn, NodeRun, followed, ComesByEvents, AgentsComeByEvents}
use Rattle.std.specs.Prelude.{fold, slice_get}
use Rattle.std.proofs.lemmas.Bool.{le-ltb}
use Rattle.std.proofs.lemmas.List.{take_all}
use Rattle.hs_base.proofs.Places.{take_more}
use Rattle.hs_base.specs.declared.told.Why.TheVariants.{Answer}
use Rattle.hs_sched.specs.declared.share.Share.{Share}
use Rattle.hs_law_agent.specs.Standings.{same_group, is_pinned_for, is_among, indexed_places, indexed_count, moved_from}
use Rattle.hs_law_agent.specs.State.{is_abandoned}
use Rattle.hs_law_agent.specs.Evicting.{is_over, evict_trace, evict_from, evict}
use Rattle.hs_law_agent.specs.Claiming.{claim_trace, claim_unclaimed, traces_of, claim_each}
use Rattle.hs_law_agent.specs.Abandoning.{pinned_groups, next_to_go, abandon_group, abandon_within, abandon}
use Rattle.hs_law_agent.specs.Turning.{reported_standing, visit}
use Rattle.hs_law_agent.specs.Messages.{has_crumb, say}
use Rattle.hs_law_agent.specs.Stepping.{Answered, Given, Missed, Unread, with_taken, with_indexed, with_pinned, with_abandoned, pin_chunk, with_touched, tell_late, late_crumb, claim_for, note_trigger, count_admitted, admit, note, take_input, step_of, give_back, take_answer}
use Rattle.hs_law_agent.specs.Laws.{TheLeastGoes, MatchNextToGo, Abandons, Remains, Leaves}
use Rattle.hs_pins.proofs.Order.{same_group-true}
use Rattle.hs_law_outcome.specs.Abandonment.{AbandonsTheLeast, IsOneToGo, WasChosen, StandsForChosen, GivesWayInOrder, OnlyTheLeastIsAbandoned}

-- ---- abandonment, where it ends within the limit

module _ (least : TheLeastGoes) (settings : PlainSettings) where
  abbrev Ends : List ℕ → Type 0
  Ends places = (s : AgentState) → length (abandon_within settings places s).pinned ≤ settings.pins → Abandons settings s (abandon_within settings places s)

  ends_chosen : (places : List ℕ) (s : AgentState) → Ends places → settings.pins < length s.pinned → (o : Option Group) → MatchNextToGo (pinned_groups s) o
      → length (option_map_or (λ group. abandon_within settings places (abandon_group group s)) o s).pinned ≤ settings.pins
      → Abandons settings s (option_map_or (λ group. abandon_within settings places (abandon_group group s)) o s)
  ends_chosen places s rest many None next few = Remains s few
  ends_chosen places s rest many (Some group) next few = Leaves s (abandon_within settings places (abandon_group group s)) group many next (rest (abandon_group group s) few)

  ends_if : (places : List ℕ) (s : AgentState) → Ends places → (b : Bool) → nat_lt settings.pins (length s.pinned) ≡ b
      → length (cond b (option_map_or (λ group. abandon_within settings places (abandon_group group s)) (next_to_go (pinned_groups s)) s) s).pinned ≤ settings.pins
      → Abandons settings s (cond b (option_map_or (λ group. abandon_within settings places (abandon_group group s)) (next_to_go (pinned_groups s)) s) s)
  ends_if places s rest true many few = ends_chosen places s rest (ltb-true _ _ many) (next_to_go (pinned_groups s)) (least (pinned_groups s)) few
  ends_if places s rest false many few = Remains s few

  ends : (places : List ℕ) → Ends places
  ends [] s few = Remains s few
  ends (place ∷ places) s few = ends_if places s (ends places) (nat_lt settings.pins (length s.pinned)) refl few

-- with a limit that is high enough nothing is abandoned
within : (settings : PlainSettings) (places : List ℕ) (s : AgentState) → length s.pinned ≤ settings.pins → abandon_within settings places s ≡ s
within settings [] s few = refl
within settings (place ∷ places) s few =
    ap (λ b. cond b (option_map_or (λ group. abandon_within settings places (abandon_group group s)) (next_to_go (pinned_groups s)) s) s) (le-ltb settings.pins (length s.pinned) few)

-- what is said and noted changes nothing of it
said : (settings : PlainSettings) (m : Told) (a b : AgentState) → Abandons settings a b → Abandons settings (say m a) (say m b)
said settings m a b (Remains s few) = Remains (say m s) few
said settings m a b (Leaves s later group many next rest) = Leaves (say m s) (say m later) group many next (said settings m (abandon_group group s) later rest)

noted : (settings : PlainSettings) (step : Step) (a b : AgentState) → Abandons settings a b → Abandons settings (note step a) (note step b)
noted settings step a b (Remains s few) = Remains (note step s) few
noted settings step a b (Leaves s later group many next rest) = Leaves (note step s) (note step later) group many next (noted settings step (abandon_group group s) later rest)

-- ---- what else an event does

-- evictions know nothing of pins, and abandon nothing
evicts_alike : (settings : PlainSettings) (limit : ℕ) (traces : List TraceId) (s : AgentState) → evict_from (record settings { pins = limit }) traces s ≡ evict_from settings traces s
evicts_alike settings limit [] s = refl
evicts_alike settings limit (trace ∷ later) s = ap (λ u. cond (is_over settings s) u s) (evicts_alike settings limit later (evict_trace trace later s))

evicted_none : (b : Bool) (s t u : AgentState) → t.abandoned ≡ u.abandoned → u.abandoned ≡ s.abandoned → (cond b t s).abandoned ≡ s.abandoned
evicted_none true s t u same none = same ∙ none
evicted_none false s t u same none = refl

evicts_none : (settings : PlainSettings) (traces : List TraceId) (s : AgentState) → (evict_from settings traces s).abandoned ≡ s.abandoned
evicts_none settings [] s = refl
evicts_none settings (trace ∷ later) s =
    let u = evict_trace trace later s in evicted_none (is_over settings s) s (evict_from settings later u) u (evicts_none settings later u) refl

claims_none : (ask : Ask) (traces : List TraceId) (s : AgentState) → (fold (claim_unclaimed ask) s traces).abandoned ≡ s.abandoned
claims_none ask [] s = refl
claims_none ask (trace ∷ traces) s = claims_none ask traces (claim_unclaimed ask s trace) ∙ by (is_claimed s.claims trace)
  where
    by : (b : Bool) → (cond b s (claim_trace ask trace s)).abandoned ≡ s.abandoned
    by true = refl
    by false = refl

visits_alike : (settings : PlainSettings) (limit : ℕ) (shares : List Share) (s : AgentState) → fold (visit (record settings { pins = limit })) s shares ≡ fold (visit settings) s shares
visits_alike settings limit [] s = refl
visits_alike settings limit (share ∷ shares) s = visits_alike settings limit shares (visit settings s share)

visits_none : (settings : PlainSettings) (shares : List Share) (s : AgentState) → (fold (visit settings) s shares).abandoned ≡ s.abandoned
visits_none settings [] s = refl
visits_none settings (share ∷ shares) s = visits_none settings shares (visit settings s share)

-- ---- what stands abandoned

module _ (C : Group → Type 0) where
  abbrev AllMarked : List Taken → Type 0
  AllMarked taken = AllByRecursion (λ (chunk : Taken). StandsForChosen C chunk.standing) taken

  -- all groups that were abandoned keep it, and all chunks
  abbrev Keeps : AgentState → Type 0
  Keeps s = AllMarked s.taken × AllByRecursion C s.abandoned

  move_case : (chunk : Taken) (change : ChunkStanding → ChunkStanding) (b : Bool) → ((standing : ChunkStanding) → StandsForChosen C standing → StandsForChosen C (change standing)) → StandsForChosen C chunk.standing
      → StandsForChosen C (cond b (record chunk { standing = change chunk.standing }) chunk).standing
  move_case chunk change true on h = on chunk.standing h
  move_case chunk change false on h = h

  moves : (from : ℕ) (places : List ℕ) (change : ChunkStanding → ChunkStanding) (taken : List Taken) → ((standing : ChunkStanding) → StandsForChosen C standing → StandsForChosen C (change standing)) → AllMarked taken
      → AllMarked (moved_from from places change taken)
  moves from places change [] on all = tt
  moves from places change (chunk ∷ taken) on all = (move_case chunk change (is_among places from) on all.0, moves (suc from) places change taken on all.1)

  reports : (standing : ChunkStanding) → StandsForChosen C standing → StandsForChosen C (reported_standing standing)
  reports Indexed h = tt
  reports (Pinned group) h = tt
  reports (Reported group) h = tt
  reports (Evicted chunks traces) h = tt
  reports (Abandoned group) h = h

  one_more : {X : Type 0} (P : X → Type 0) (xs : List X) (x : X) → AllByRecursion P xs → P x → AllByRecursion P (xs ++ x ∷ [])
  one_more P [] x all h = (h, tt)
  one_more P (first ∷ xs) x all h = (all.0, one_more P xs x all.1 h)

  chunk_more : (sheet : Sheet) (standing : ChunkStanding) (s : AgentState) → Keeps s → StandsForChosen C standing → Keeps (with_taken sheet standing s)
  chunk_more sheet standing s k h = (one_more (λ (chunk : Taken). StandsForChosen C chunk.standing) s.taken (record { sheet = sheet; standing = standing }) k.0 h, k.1)

  -- a group that was abandoned keeps it
  any_group : (group : Group) (groups : List Group) → AllByRecursion C groups → list_any (same_group group) groups ≡ true → C group
  any_group group [] all h = let no : false ≡ true = h in absurd cc
  any_group group (other ∷ groups) all h =
      any_if (same_group group other) refl h (λ here. subst C (sym (same_group-true group other here)) all.0) (any_group group groups all.1)
    where
      any_if : (b : Bool) → same_group group other ≡ b → (b || list_any (same_group group) groups) ≡ true → (same_group group other ≡ true → C group) → (list_any (same_group group) groups ≡ true → C group) → C group
      any_if true e h here later = here e
      any_if false e h here later = later h

  evict_if : (b : Bool) (s t : AgentState) → Keeps s → Keeps t → Keeps (cond b t s)
  evict_if true s t k more = more
  evict_if false s t k more = k

  evicts_keep : (settings : PlainSettings) (traces : List TraceId) (s : AgentState) → Keeps s → Keeps (evict_from settings traces s)
  evicts_keep settings [] s k = k
  evicts_keep settings (trace ∷ later) s k =
      evict_if (is_over settings s) s (evict_from settings later (evict_trace trace later s)) k
      (evicts_keep settings later (evict_trace trace later s) (moves 0 (indexed_places s.taken trace) (λ _. Evicted (indexed_count s.taken) (length s.touched)) s.taken (λ standing h. tt) k.0, k.1))

  claims_keep : (ask : Ask) (traces : List TraceId) (s : AgentState) → Keeps s → Keeps (fold (claim_unclaimed ask) s traces)
  claims_keep ask [] s k = k
  claims_keep ask (trace ∷ traces) s k =
      claims_keep ask traces (claim_unclaimed ask s trace)
      (evict_if (is_claimed s.claims trace) (claim_trace ask trace s) s (moves 0 (indexed_places s.taken trace) (λ _. Pinned ask.group) s.taken (λ standing h. tt) k.0, k.1) k)

  visits_keep : (settings : PlainSettings) (shares : List Share) (s : AgentState) → Keeps s → Keeps (fold (visit settings) s shares)
  visits_keep settings [] s k = k
  visits_keep settings (share ∷ shares) s k = visits_keep settings shares (visit settings s share) (moves 0 _ reported_standing s.taken reports k.0, k.1)

  -- where groups go that keep it, all still do
  goes_keep : (settings : PlainSettings) (s later : AgentState) (goes : Abandons settings s later) → ((group : Group) → IsOneToGo settings s later goes group → C group) → Keeps s → Keeps later
  goes_keep settings s later (Remains u few) on k = k
  goes_keep settings s later (Leaves u last group many next rest) on k =
      let own = on group (inl refl) in
      goes_keep settings (abandon_group group u) last rest (λ other one. on other (inr one))
      (moves 0 (filter (is_pinned_for u.taken group) u.pinned) (λ _. Abandoned group) u.taken (λ standing h. own) k.0, one_more C u.abandoned group k.1 own)

-- ---- one event

-- What leads to a state, by the limit on pins.
record Leads (settings : PlainSettings) (before : AgentState) (to : ℕ → AgentState) : Type 1 where
  over : AgentState
  free : (limit : ℕ) → length over.pinned ≤ limit → to limit ≡ over
  none : over.abandoned ≡ before.abandoned
  keeps : (C : Group → Type 0) → Keeps C before → Keeps C over
  goes : length (to settings.pins).pinned ≤ settings.pins → Abandons settings over (to settings.pins)

module _ (least : TheLeastGoes) (settings : PlainSettings) (node : ℕ) (s : AgentState) where
  abbrev with : ℕ → PlainSettings
  with limit = record settings { pins = limit }

  plainly : (to : ℕ → AgentState) → ((limit : ℕ) → to limit ≡ to settings.pins) → (to settings.pins).abandoned ≡ s.abandoned → ((C : Group → Type 0) → Keeps C s → Keeps C (to settings.pins)) → Leads settings s to
  plainly to same none keeps = record { over = to settings.pins; free = λ limit few. same limit; none = none; keeps = keeps; goes = λ few. Remains (to settings.pins) few }

  by_abandoning : (u : AgentState) → u.abandoned ≡ s.abandoned → ((C : Group → Type 0) → Keeps C s → Keeps C u) → Leads settings s (λ limit. abandon (with limit) u)
  by_abandoning u none keeps = record { over = u; free = λ limit few. within (with limit) u.pinned u few; none = none; keeps = keeps; goes = ends least settings u.pinned u }

  saying : (m : Told) (to : ℕ → AgentState) → Leads settings s to → Leads settings s (λ limit. say m (to limit))
  saying m to l =
      record {
        over = say m l.over;
        free = λ limit few. ap (say m) (l.free limit few);
        none = l.none;
        keeps = l.keeps;
        goes = λ few. said settings m l.over (to settings.pins) (l.goes few);
      }

  noting : (step : Step) (to : ℕ → AgentState) → Leads settings s to → Leads settings s (λ limit. note step (to limit))
  noting step to l =
      record {
        over = note step l.over;
        free = λ limit few. ap (note step) (l.free limit few);
        none = l.none;
        keeps = l.keeps;
        goes = λ few. noted settings step l.over (to settings.pins) (l.goes few);
      }

  evicting : (u : AgentState) → u.abandoned ≡ s.abandoned → ((C : Group → Type 0) → Keeps C s → Keeps C u) → Leads settings s (λ limit. evict (with limit) u)
  evicting u none keeps =
      plainly (λ limit. evict (with limit) u) (λ limit. evicts_alike settings limit u.touched u) (evicts_none settings u.touched u ∙ none) (λ C k. evicts_keep C settings u.touched u (keeps C k))

  pinning : (sheet : Sheet) (group : Group) (b : Bool) → is_abandoned s.abandoned group ≡ b → Leads settings s (λ limit. cond b (with_abandoned sheet group s) (abandon (with limit) (with_pinned sheet group s)))
  pinning sheet group true gone = plainly (λ limit. with_abandoned sheet group s) (λ limit. refl) refl (λ C k. chunk_more C sheet (Abandoned group) s k (any_group C group s.abandoned k.1 gone))
  pinning sheet group false gone = by_abandoning (with_pinned sheet group s) refl (λ C k. chunk_more C sheet (Pinned group) s k tt)

  chunk : (sheet : Sheet) (o : Option ClaimedTrace) → Leads settings s (λ limit. option_map_or (λ (claim : ClaimedTrace). pin_chunk (with limit) sheet claim.group s) o (evict (with limit) (with_indexed sheet s)))
  chunk sheet None = evicting (with_indexed sheet s) refl (λ C k. chunk_more C sheet Indexed s k tt)
  chunk sheet (Some claim) = pinning sheet claim.group (is_abandoned s.abandoned claim.group) refl

  late : (crumb : Crumb) (claim : ClaimedTrace) (b : Bool) → Leads settings s (λ limit. cond b s (tell_late crumb claim s))
  late crumb claim true = plainly (λ limit. s) (λ limit. refl) refl (λ C k. k)
  late crumb claim false = plainly (λ limit. tell_late crumb claim s) (λ limit. refl) refl (λ C k. k)

  crumbed : (crumb : Crumb) (o : Option ClaimedTrace) → Leads settings s (λ limit. option_map_or (λ claim. late_crumb crumb claim s) o (evict (with limit) (with_touched crumb s)))
  crumbed crumb None = evicting (with_touched crumb s) refl (λ C k. k)
  crumbed crumb (Some claim) = late crumb claim (has_crumb s.crumbs crumb)

  claiming : (ask : Ask) (u : AgentState) → u.abandoned ≡ s.abandoned → ((C : Group → Type 0) → Keeps C s → Keeps C u) → Leads settings s (λ limit. claim_for (with limit) ask u)
  claiming ask u none keeps = by_abandoning (claim_each ask u) (claims_none ask (traces_of ask) u ∙ none) (λ C k. claims_keep C ask (traces_of ask) u (keeps C k))

  triggered : (trigger : Trigger) (b : Bool) → Leads settings s (λ limit. cond b (admit (with limit) node trigger (note_trigger trigger s)) (note_trigger trigger s))
  triggered trigger true =
      let ask = group_of node s trigger in
      saying (told_of s.crumbs ask Fired) (λ limit. claim_for (with limit) ask (count_admitted (note_trigger trigger s))) (claiming ask (count_admitted (note_trigger trigger s)) refl (λ C k. k))
  triggered trigger false = plainly (λ limit. note_trigger trigger s) (λ limit. refl) refl (λ C k. k)

  taking : (input : Input) → Leads settings s (λ limit. take_input (with limit) node s input)
  taking (Chunk client sheet) = chunk sheet (claim_of s.claims sheet.header.trace)
  taking (Crumbed client crumb) = crumbed crumb (claim_of s.claims crumb.trace)
  taking (Triggered client trigger) = triggered trigger (admits settings s.tried trigger)
  taking (Asked ask) = saying (told_of s.crumbs ask Answer) (λ limit. claim_for (with limit) ask s) (claiming ask s refl (λ C k. k))
  taking Turn =
      plainly (λ limit. take_input (with limit) node s Turn)
      (λ limit. ap (λ (u : AgentState). record u { shares = (take_input settings node s Turn).shares }) (visits_alike settings limit s.shares s))
      (visits_none settings s.shares s)
      (λ C k. visits_keep C settings s.shares s k)

  given_none : (stamp : ℕ) (hand : List ℕ) → (give_back stamp hand s).abandoned ≡ s.abandoned
  given_none stamp [] = refl
  given_none stamp (place ∷ hand) = refl

  answer_none : (answer : Answered) → (take_answer s answer).abandoned ≡ s.abandoned
  answer_none (Given stamp) = given_none stamp s.hand
  answer_none (Missed stamp) = refl
  answer_none Unread = refl

  given_keeps : (stamp : ℕ) (hand : List ℕ) (C : Group → Type 0) → Keeps C s → Keeps C (give_back stamp hand s)
  given_keeps stamp [] C k = k
  given_keeps stamp (place ∷ hand) C k = k

  answer_keeps : (answer : Answered) (C : Group → Type 0) → Keeps C s → Keeps C (take_answer s answer)
  answer_keeps (Given stamp) C k = given_keeps stamp s.hand C k
  answer_keeps (Missed stamp) C k = k
  answer_keeps Unread C k = k

  one_event : (event : AgentEvent) → Leads settings s (λ limit. after_event (with limit) node s event)
  one_event (Took input) = noting (step_of input) (λ limit. take_input (with limit) node s input) (taking input)
  one_event (Gave answer) = plainly (λ limit. after_event (with limit) node s (Gave answer)) (λ limit. refl) (answer_none answer) (answer_keeps answer)

-- ---- a journal

none_there : {X : Type 0} (xs : List X) (n : ℕ) → slice_get xs n ≡ None → length xs ≤ n
none_there [] n h = omega arith
none_there (x ∷ xs) zero h = let no : Some x ≡ None = h in absurd cc
none_there (x ∷ xs) (suc n) h = omega (arith, none_there xs n h)

module _ (least : TheLeastGoes) (limits : LimitsHold) (goes : EventsGoOn) (settings : PlainSettings) (run : NodeRun) where
  abbrev before : ℕ → AgentState
  before n = after settings run.node (take n run.events)

  module _ (n : ℕ) (event : AgentEvent) (there : slice_get run.events n ≡ Some event) where
    behind : before (suc n) ≡ after_event settings run.node (before n) event
    behind = ap (after settings run.node) (take_more run.events n event there) ∙ goes settings run.node (take n run.events) (event ∷ [])

    lead : Leads settings (before n) (λ limit. after_event (record settings { pins = limit }) run.node (before n) event)
    lead = one_event least settings run.node (before n) event

    gone : Abandons settings lead.over (before (suc n))
    gone =
        let few = subst (λ (s : AgentState). length s.pinned ≤ settings.pins) behind (limits settings run.node (take (suc n) run.events)).pins in
        subst (λ (s : AgentState). Abandons settings lead.over s) (sym behind) (lead.goes few)

    at_event : AbandonsTheLeast settings run.node (before n) event (before (suc n))
    at_event = record { over = lead.over; free = lead.free; none = lead.none; goes = gone }

    keeps_over : (C : Group → Type 0) → Keeps C (before n) → Keeps C at_event.over
    unfolding at_event
    keeps_over C k = lead.keeps C k

  -- behind any of the events each abandoned chunk is of a group that was chosen
  abbrev Chosen : Group → Type 0
  Chosen group = WasChosen settings run at_event group

  keeps_at : (n : ℕ) (o : Option AgentEvent) → slice_get run.events n ≡ o → Keeps Chosen (before n) → Keeps Chosen (before (suc n))
  keeps_at n None past k =
      let all = take_all n run.events (none_there run.events n past) in
      let more = take_all (suc n) run.events (omega (arith, none_there run.events n past)) in
      subst (λ (events : List AgentEvent). Keeps Chosen (after settings run.node events)) (all ∙ sym more) k
  keeps_at n (Some event) there k =
      let one = at_event n event there in
      goes_keep Chosen settings one.over (before (suc n)) one.goes (λ group went. record { n = n; event = event; there = there; went = went }) (keeps_over n event there Chosen k)

  keeps_all : (n : ℕ) → Keeps Chosen (before n)
  keeps_all zero = (tt, tt)
  keeps_all (suc n) = keeps_at n (slice_get run.events n) refl (keeps_all n)

  gives_way : ComesByEvents settings run → GivesWayInOrder settings run
  gives_way comes =
      let whole : before (length run.events) ≡ run.state = ap (after settings run.node) (take_all (length run.events) run.events (omega arith)) ∙ sym comes in
      record {
        first = refl;
        each = at_event;
        last = whole;
        within = λ n. (limits settings run.node (take n run.events)).pins;
        chosen = subst (λ (s : AgentState). AllMarked Chosen s.taken) whole (keeps_all (length run.events)).0;
      }

pub only_the_least_is_abandoned : TheLeastGoes → LimitsHold → EventsGoOn → AgentsComeByEvents → OnlyTheLeastIsAbandoned
only_the_least_is_abandoned least limits goes comes W J =
    all_each (ComesByEvents W.settings) (GivesWayInOrder W.settings) (followed W J).nodes (gives_way least limits goes W.settings) (comes W J)
