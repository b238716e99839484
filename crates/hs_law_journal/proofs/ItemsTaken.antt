-- A log notes each event of its agent, so it has as many steps of a queue as items of it were taken. The chunks that an agent took are those
-- that its events brought.
use Rattle.std.proofs.Common.{◌≡◌, ℕ, Bool, true, false, cond, List, [], ◌∷◌, ◌++◌, length, nat_eq, append-nil, append_assoc, length-append, refl, sym, ap, ◌∙◌, arith}
use Rattle.hs_law_journal.proofs.Prelude.{flat_map, sum_by-cons, one_if, Step, EventsAddThis, noted_as, AgentState, AgentEvent, Took, Gave, Chunk, Crumbed, Triggered, Asked, Turn, Given, Missed, Unread, after_event, PlainSettings, Queue, Chunks, Crumbs, Triggers, Asks, takes, taken}
use Rattle.hs_law_agent.specs.Laws.{brought_by, sheets_of}
use Rattle.hs_law_agent.specs.State.{start}
use Rattle.hs_law_agent.specs.Stepping.{after, after_from}
use Rattle.hs_law_journal.specs.Doings.{steps_of, chunk_in, crumb_in, trigger_in, ask_in, chunks_in, crumbs_in, triggers_in, asks_in}

-- ---- logs

pub log_on : EventsAddThis → (settings : PlainSettings) (node : ℕ) (events : List AgentEvent) (state : AgentState) → (after_from settings node state events).log ≡ state.log ++ steps_of events
log_on adds settings node [] state = sym (append-nil state.log)
log_on adds settings node (event ∷ events) state =
    log_on adds settings node events (after_event settings node state event)
    ∙ ap (λ log. log ++ steps_of events) ((adds settings node state).log event)
    ∙ append_assoc state.log (noted_as event ∷ []) (steps_of events)

pub own_log : EventsAddThis → (settings : PlainSettings) (node : ℕ) (events : List AgentEvent) → (after settings node events).log ≡ steps_of events
own_log adds settings node events = log_on adds settings node events (start settings)

-- ---- chunks

pub sheets_on : EventsAddThis → (settings : PlainSettings) (node : ℕ) (events : List AgentEvent) (state : AgentState) → sheets_of (after_from settings node state events).taken ≡ sheets_of state.taken ++ flat_map brought_by events
sheets_on adds settings node [] state = sym (append-nil (sheets_of state.taken))
sheets_on adds settings node (event ∷ events) state =
    sheets_on adds settings node events (after_event settings node state event)
    ∙ ap (λ sheets. sheets ++ flat_map brought_by events) ((adds settings node state).chunks event)
    ∙ append_assoc (sheets_of state.taken) (brought_by event) (flat_map brought_by events)

pub sheets_taken : EventsAddThis → (settings : PlainSettings) (node : ℕ) (events : List AgentEvent) → sheets_of (after settings node events).taken ≡ flat_map brought_by events
sheets_taken adds settings node events = sheets_on adds settings node events (start settings)

-- ---- items

counts_items : {A : Type 0} (queue : Queue) (f : AgentEvent → List A) → ((event : AgentEvent) → length (f event) ≡ one_if (takes queue (noted_as event))) → (events : List AgentEvent) → taken queue (steps_of events) ≡ length (flat_map f events)
counts_items queue f each [] = refl
counts_items queue f each (event ∷ events) =
    let first = each event in
    let rest = counts_items queue f each events in
    let sum = sum_by-cons (λ (step : Step). cond (takes queue step) 1 0) (noted_as event) (steps_of events) in
    let all = length-append (f event) (flat_map f events) in
    omega (arith, first, rest, sum, all)

kept_length : {A : Type 0} (b : Bool) (x : A) → length (cond b (x ∷ []) []) ≡ one_if b
kept_length true x = refl
kept_length false x = refl

chunk_counts : (client : ℕ) (event : AgentEvent) → length (chunk_in client event) ≡ one_if (takes (Chunks client) (noted_as event))
chunk_counts client (Took (Chunk other sheet)) = kept_length (nat_eq other client) sheet
chunk_counts client (Took (Crumbed other crumb)) = refl
chunk_counts client (Took (Triggered other trigger)) = refl
chunk_counts client (Took (Asked ask)) = refl
chunk_counts client (Took Turn) = refl
chunk_counts client (Gave (Given stamp)) = refl
chunk_counts client (Gave (Missed stamp)) = refl
chunk_counts client (Gave Unread) = refl

crumb_counts : (client : ℕ) (event : AgentEvent) → length (crumb_in client event) ≡ one_if (takes (Crumbs client) (noted_as event))
crumb_counts client (Took (Chunk other sheet)) = refl
crumb_counts client (Took (Crumbed other crumb)) = kept_length (nat_eq other client) crumb
crumb_counts client (Took (Triggered other trigger)) = refl
crumb_counts client (Took (Asked ask)) = refl
crumb_counts client (Took Turn) = refl
crumb_counts client (Gave (Given stamp)) = refl
crumb_counts client (Gave (Missed stamp)) = refl
crumb_counts client (Gave Unread) = refl

trigger_counts : (client : ℕ) (event : AgentEvent) → length (trigger_in client event) ≡ one_if (takes (Triggers client) (noted_as event))
trigger_counts client (Took (Chunk other sheet)) = refl
trigger_counts client (Took (Crumbed other crumb)) = refl
trigger_counts client (Took (Triggered other trigger)) = kept_length (nat_eq other client) trigger
trigger_counts client (Took (Asked ask)) = refl
trigger_counts client (Took Turn) = refl
trigger_counts client (Gave (Given stamp)) = refl
trigger_counts client (Gave (Missed stamp)) = refl
trigger_counts client (Gave Unread) = refl

ask_counts : (event : AgentEvent) → length (ask_in event) ≡ one_if (takes Asks (noted_as event))
ask_counts (Took (Chunk other sheet)) = refl
ask_counts (Took (Crumbed other crumb)) = refl
ask_counts (Took (Triggered other trigger)) = refl
ask_counts (Took (Asked ask)) = refl
ask_counts (Took Turn) = refl
ask_counts (Gave (Given stamp)) = refl
ask_counts (Gave (Missed stamp)) = refl
ask_counts (Gave Unread) = refl

pub taken_chunks : (client : ℕ) (events : List AgentEvent) → taken (Chunks client) (steps_of events) ≡ length (chunks_in client events)
taken_chunks client events = counts_items (Chunks client) (chunk_in client) (chunk_counts client) events

pub taken_crumbs : (client : ℕ) (events : List AgentEvent) → taken (Crumbs client) (steps_of events) ≡ length (crumbs_in client events)
taken_crumbs client events = counts_items (Crumbs client) (crumb_in client) (crumb_counts client) events

pub taken_triggers : (client : ℕ) (events : List AgentEvent) → taken (Triggers client) (steps_of events) ≡ length (triggers_in client events)
taken_triggers client events = counts_items (Triggers client) (trigger_in client) (trigger_counts client) events

pub taken_asks : (events : List AgentEvent) → taken Asks (steps_of events) ≡ length (asks_in events)
taken_asks events = counts_items Asks ask_in ask_counts events
