-- What was taken of a client is a front of what it sent, whose pages rise.
use Rattle.std.proofs.Common.{◌≡◌, ℕ, zero, suc, ◌+◌, ◌<◌, ◌≤◌, Bool, true, false, cond, List, [], ◌∷◌, ◌++◌, length, take, refl, sym, ap, subst, ◌∙◌, Option, Some, None, arith, map, filter, option_map, slice_get, nat_eq, eqb, eq-eqb}
use Rattle.hs_law_journal.proofs.Prelude.{AllByRecursion, flat_map, range_with_len, option_map_or, filter-append, slice_get-map, all_each, mapped_from, ClientId, Messages, Draw, PlainJournal, EventsAddThis, AgentState, AgentEvent, Took, Gave, Chunk, Crumbed, Triggered, Asked, Turn, PlainWorkload, drawn_from, Sent, ClientSends, client_sends, node_sends, sent_chunks, operations_at, draws_at, place_of, TimedPage, timed_pages, Sheet, Chunks, taken, NodeRun}
use Rattle.std.proofs.Math.Seq.{take-append_seam}
use Rattle.hs_base.proofs.Alls.{all_take, all_front, all_back}
use Rattle.hs_base.proofs.Numbers.{nat_eq_itself}
use Rattle.hs_base.proofs.Ranges.{range_found}
use Rattle.hs_records.specs.declared.journal.Draw.TheVariants.{Got, Empty}
use Rattle.hs_law_agent.specs.Laws.{PagesRise, sheets_of, brought_by}
use Rattle.hs_law_journal.specs.Doings.{chunk_in, chunks_in}
use Rattle.hs_law_journal.specs.Taking.{is_by, sheets_sent, TakesInOrder, ChunksAreTakenInOrder, TakenPagesRise}
use Rattle.hs_law_journal.proofs.Fronts.{HasFronts, log_is, all_fronts}
use Rattle.hs_law_journal.proofs.ItemsTaken.{sheets_taken, taken_chunks}

-- ---- what a client sends

abbrev items : List (Sent Sheet) → List Sheet
items sent = map (λ (item : Sent Sheet). item.item) sent

-- all pages have this client
own_pages : (client : ClientId) (k : ℕ) (timed : List TimedPage) (draws : List Draw) → AllByRecursion (λ (sheet : Sheet). sheet.header.client ≡ client) (items (sent_chunks (drawn_from client k timed draws)))
own_pages client k [] draws = tt
own_pages client k (page ∷ timed) [] = tt
own_pages client k (page ∷ timed) (Got buffer stamp ∷ draws) = (refl, own_pages client (k + 1) timed draws)
own_pages client k (page ∷ timed) (Empty stamp ∷ draws) = own_pages client (k + 1) timed draws

-- pages that are numbered in rising order
abbrev Rises : List Sheet → Type 0
Rises [] = Unit {0}
Rises (sheet ∷ sheets) = AllByRecursion (λ (later : Sheet). sheet.header.page < later.header.page) sheets × Rises sheets

record RiseFrom (k : ℕ) (sheets : List Sheet) : Type 0 where
  above : AllByRecursion (λ (sheet : Sheet). k ≤ sheet.header.page) sheets
  rises : Rises sheets

above_more : (k : ℕ) (sheets : List Sheet) → AllByRecursion (λ (sheet : Sheet). k + 1 ≤ sheet.header.page) sheets → AllByRecursion (λ (sheet : Sheet). k ≤ sheet.header.page) sheets
above_more k [] all = tt
above_more k (sheet ∷ sheets) all = let low = all.0 in (omega (arith, low), above_more k sheets all.1)

above_first : (k : ℕ) (sheets : List Sheet) → AllByRecursion (λ (sheet : Sheet). k + 1 ≤ sheet.header.page) sheets → AllByRecursion (λ (later : Sheet). k < later.header.page) sheets
above_first k [] all = tt
above_first k (sheet ∷ sheets) all = let low = all.0 in (omega (arith, low), above_first k sheets all.1)

sent_rises : (client : ClientId) (k : ℕ) (timed : List TimedPage) (draws : List Draw) → RiseFrom k (items (sent_chunks (drawn_from client k timed draws)))
sent_rises client k [] draws = record { above = tt; rises = tt }
sent_rises client k (page ∷ timed) [] = record { above = tt; rises = tt }
sent_rises client k (page ∷ timed) (Got buffer stamp ∷ draws) =
    let rest = sent_rises client (k + 1) timed draws in
    let later = items (sent_chunks (drawn_from client (k + 1) timed draws)) in
    record { above = (omega arith, above_more k later rest.above); rises = (above_first k later rest.above, rest.rises) }
sent_rises client k (page ∷ timed) (Empty stamp ∷ draws) =
    let rest = sent_rises client (k + 1) timed draws in
    record { above = above_more k (items (sent_chunks (drawn_from client (k + 1) timed draws))) rest.above; rises = rest.rises }

taken_rises : (n : ℕ) (sheets : List Sheet) → Rises sheets → Rises (take n sheets)
taken_rises zero sheets h = tt
taken_rises (suc n) [] h = tt
taken_rises (suc n) (sheet ∷ sheets) h = (all_take (λ (later : Sheet). sheet.header.page < later.header.page) n sheets h.0, taken_rises n sheets h.1)

-- ---- pages of all clients

-- what holds of the pages of one client in a list
part_of : (P : Sheet → Type 0) (client : ℕ) (sheet : Sheet) (kept : List Sheet) (b : Bool) → eqb sheet.header.client.number client ≡ b → AllByRecursion P (cond b (sheet ∷ kept) kept)
    → (sheet.header.client.number ≡ client → P sheet) × AllByRecursion P kept
part_of P client sheet kept true e all = (λ same. all.0, all.1)
part_of P client sheet kept false e all = (λ same. let no : true ≡ false = sym (eq-eqb sheet.header.client.number client same) ∙ e in absurd cc, all)

from_part : (P : Sheet → Type 0) (client : ClientId) (sheets : List Sheet) → AllByRecursion P (filter (is_by client.number) sheets) → AllByRecursion (λ (later : Sheet). later.header.client ≡ client → P later) sheets
from_part P client [] all = tt
from_part P client (sheet ∷ sheets) all =
    let parts = part_of P client.number sheet (filter (is_by client.number) sheets) (is_by client.number sheet) refl all in
    (λ same. parts.0 (ap (λ (c : ClientId). c.number) same), from_part P client sheets parts.1)

rest_rises : (client : ℕ) (sheet : Sheet) (kept : List Sheet) (b : Bool) → Rises (cond b (sheet ∷ kept) kept) → Rises kept
rest_rises client sheet kept true h = h.1
rest_rises client sheet kept false h = h

all_rise : (sheets : List Sheet) → ((client : ℕ) → Rises (filter (is_by client) sheets)) → PagesRise sheets
all_rise [] each = tt
all_rise (sheet ∷ sheets) each =
    let client = sheet.header.client in
    let own : is_by client.number sheet ≡ true = eq-eqb client.number client.number refl in
    let first : Rises (sheet ∷ filter (is_by client.number) sheets) = subst (λ (b : Bool). Rises (cond b (sheet ∷ filter (is_by client.number) sheets) (filter (is_by client.number) sheets))) own (each client.number) in (
      from_part (λ (later : Sheet). sheet.header.page < later.header.page) client sheets first.0,
      all_rise sheets (λ other. rest_rises other sheet (filter (is_by other) sheets) (is_by other sheet) (each other)),
    )

-- ---- what an agent took

abbrev IsOwnSheet : ℕ → Sheet → Type 0
IsOwnSheet client sheet = sheet.header.client.number ≡ client

-- of an event that takes a chunk, the page is of the client
abbrev pub BringsOwn : AgentEvent → Type 0
BringsOwn (Took (Chunk client sheet)) = sheet.header.client.number ≡ client
BringsOwn _ = Unit {0}

first_own : (event : AgentEvent) → ((client : ℕ) → AllByRecursion (IsOwnSheet client) (chunk_in client event)) → BringsOwn event
first_own (Took (Chunk client sheet)) each = (subst (λ (b : Bool). AllByRecursion (IsOwnSheet client) (cond b (sheet ∷ []) [])) (nat_eq_itself client) (each client)).0
first_own (Took (Crumbed client crumb)) each = tt
first_own (Took (Triggered client trigger)) each = tt
first_own (Took (Asked ask)) each = tt
first_own (Took Turn) each = tt
first_own (Gave answer) each = tt

all_own : (events : List AgentEvent) → ((client : ℕ) → AllByRecursion (IsOwnSheet client) (chunks_in client events)) → AllByRecursion BringsOwn events
all_own [] each = tt
all_own (event ∷ events) each = (
  first_own event (λ client. all_front (IsOwnSheet client) (chunk_in client event) (chunks_in client events) (each client)),
  all_own events (λ client. all_back (IsOwnSheet client) (chunk_in client event) (chunks_in client events) (each client)),
)

-- what such an event brings of a client
brings : (client : ℕ) (event : AgentEvent) → BringsOwn event → filter (is_by client) (brought_by event) ≡ chunk_in client event
brings client (Took (Chunk other sheet)) own = ap (λ (number : ℕ). cond (nat_eq number client) (sheet ∷ []) []) own
brings client (Took (Crumbed other crumb)) own = refl
brings client (Took (Triggered other trigger)) own = refl
brings client (Took (Asked ask)) own = refl
brings client (Took Turn) own = refl
brings client (Gave answer) own = refl

-- what all such events bring of a client
pub chunks_by : (client : ℕ) (events : List AgentEvent) → AllByRecursion BringsOwn events → filter (is_by client) (flat_map brought_by events) ≡ chunks_in client events
chunks_by client [] own = refl
chunks_by client (event ∷ events) own =
    filter-append (is_by client) (brought_by event) (flat_map brought_by events)
    ∙ ap (λ (front : List Sheet). front ++ filter (is_by client) (flat_map brought_by events)) (brings client event own.0)
    ∙ ap (λ (rest : List Sheet). chunk_in client event ++ rest) (chunks_by client events own.1)

module _ (W : PlainWorkload) (J : PlainJournal) where
  abbrev timed_at : ℕ → ℕ → List TimedPage
  timed_at node client = timed_pages W.settings.size (operations_at W (place_of W.settings.clients node client))

  abbrev drawn_at : ℕ → ℕ → List Draw
  drawn_at node client = draws_at J (place_of W.settings.clients node client)

  -- what holds of no page, and of what each client of the node sends, holds of what is sent by this one
  sent_as : (P : ℕ → List Sheet → Type 0) → ((client : ℕ) → P client []) → (run : NodeRun) → run.sends ≡ node_sends W J run.node → ((client : ℕ) → P client (items (client_sends W J run.node client).chunks)) → (client : ℕ) → P client (sheets_sent run client)
  sent_as P none run are each client = either (slice_get run.sends client) refl
    where
      either : (o : Option ClientSends) → slice_get run.sends client ≡ o → P client (option_map_or (λ (s : ClientSends). items s.chunks) o [])
      either None e = none client
      either (Some sends) e =
          let found : option_map (client_sends W J run.node) (slice_get (range_with_len 0 W.settings.clients) client) ≡ Some sends =
          sym (slice_get-map (client_sends W J run.node) (range_with_len 0 W.settings.clients) client) ∙ ap (λ (all : List ClientSends). slice_get all client) (sym are) ∙ e
          in
          let m = mapped_from (client_sends W J run.node) (slice_get (range_with_len 0 W.settings.clients) client) sends found in
          let number : m.item ≡ client = let is = range_found 0 W.settings.clients client m.item m.there in omega (arith, is) in
          subst (λ (s : ClientSends). P client (items s.chunks)) (sym (m.is ∙ ap (client_sends W J run.node) number)) (each client)

  own_sent : (run : NodeRun) → run.sends ≡ node_sends W J run.node → (client : ℕ) → AllByRecursion (IsOwnSheet client) (sheets_sent run client)
  own_sent run are client =
      sent_as (λ client sheets. AllByRecursion (IsOwnSheet client) sheets) (λ client. tt) run are
      (λ client.
      all_each (λ (sheet : Sheet). sheet.header.client ≡ record { node = run.node; number = client }) (IsOwnSheet client) (items (client_sends W J run.node client).chunks) (λ sheet is. ap (λ (c : ClientId). c.number) is)
      (own_pages (record { node = run.node; number = client }) 0 (timed_at run.node client) (drawn_at run.node client)))
      client

  sent_rise : (run : NodeRun) → run.sends ≡ node_sends W J run.node → (client : ℕ) → Rises (sheets_sent run client)
  sent_rise run are client =
      sent_as (λ client sheets. Rises sheets) (λ client. tt) run are (λ client. (sent_rises (record { node = run.node; number = client }) 0 (timed_at run.node client) (drawn_at run.node client)).rises) client

  module _ (adds : EventsAddThis) (heard : Messages) (run : NodeRun) (f : HasFronts W J heard run) where
    in_order : TakesInOrder run
    in_order client =
        let front = f.chunks client in
        let own = all_own run.events (λ other. all_front (IsOwnSheet other) (chunks_in other run.events) (f.chunks other).more (subst (AllByRecursion (IsOwnSheet other)) (f.chunks other).is (own_sent run f.sends other))) in
        ap (λ (state : AgentState). filter (is_by client) (sheets_of state.taken)) f.comes
        ∙ ap (filter (is_by client)) (sheets_taken adds W.settings run.node run.events) ∙ chunks_by client run.events own
        ∙ sym (take-append_seam (chunks_in client run.events) front.more)
        ∙ ap (take (length (chunks_in client run.events))) (sym front.is)
        ∙ ap (λ (n : ℕ). take n (sheets_sent run client)) (sym (ap (taken (Chunks client)) (log_is W J adds heard run f) ∙ taken_chunks client run.events))

    rising : PagesRise (sheets_of run.state.taken)
    rising = all_rise (sheets_of run.state.taken) (λ client. subst Rises (sym (in_order client)) (taken_rises (taken (Chunks client) run.state.log) (sheets_sent run client) (sent_rise run f.sends client)))

pub chunks_are_taken_in_order : EventsAddThis → ChunksAreTakenInOrder
chunks_are_taken_in_order adds W J run leads = all_each (HasFronts W J run.heard) TakesInOrder run.nodes (in_order W J adds run.heard) (all_fronts W J adds run leads)

pub taken_pages_rise : EventsAddThis → TakenPagesRise
taken_pages_rise adds W J run leads = all_each (HasFronts W J run.heard) (λ (node : NodeRun). PagesRise (sheets_of node.state.taken)) run.nodes (rising W J adds run.heard) (all_fronts W J adds run leads)
