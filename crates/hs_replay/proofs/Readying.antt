-- The next item of a queue, taken out for the agent: the step that takes it is ready, and the other parts stand where they stood.
use Rattle.std.proofs.Common.{◌≡◌, ℕ, ◌+◌, ◌<◌, true, false, List, [], ◌∷◌, ◌++◌, length, set, Option, Some, inl, inr, refl, sym, ap, subst, ◌∙◌, arith, option_map, eq-eqb, nat_eq, length-set}
use Rattle.hs_replay.proofs.Prelude.{ne_eqb, slice_get, option_and_then, get_set_cases, map_range_from, sheet_in, Crumb, Trigger, Step, Chunks, Crumbs, Triggers, takes, taken, NodeRun, event_of, page_of, taken_still, Machine, done_at, heard_in, AgentEvent, Took, Chunk, Crumbed, Triggered, ReplayClientIsAt, PlainReplayClient, PlainWorkload, DrawnPage, ClientSends, client_sends, node_sends, draws_at, operations_at, place_of, Sheet, ReplayClientStands, ReplayClientsStand, IsLent}
use Rattle.hs_records.specs.declared.journal.Step.TheVariants as steps
use Rattle.hs_law_journal.specs.Following.{Queue, next_of}
use Rattle.hs_law_journal.specs.Pooled.{buffer_of as buffer_in_draw}
use Rattle.hs_replay_client.specs.Places.{IsChunkAt}
use Rattle.hs_replay_client.specs.ReplayClients.{Unleased}
use Rattle.hs_client.specs.Sending.{Sent}
use Rattle.hs_replay.proofs.Counting.{taken_once}

-- ---- clients

-- the same client where the log took as much of each of its queues
pub as_much : (W : PlainWorkload) (m : Machine) (node : ℕ) (log log' : List Step) (client : ℕ) (player : PlainReplayClient) → taken (Chunks client) log' ≡ taken (Chunks client) log
    → taken (Crumbs client) log' ≡ taken (Crumbs client) log → taken (Triggers client) log' ≡ taken (Triggers client) log → ReplayClientStands W m node log client player
    → ReplayClientStands W m node log' client player
as_much W m node log log' client player k l t stands =
    let place = place_of W.settings.clients node client in
    let At : ℕ → ℕ → ℕ → Type 0 = λ k l t. ReplayClientIsAt W.settings (record { node = node; number = client }) (operations_at W place) (draws_at m.journal place) (done_at m place) k l t player in
    subst (λ a. At a (taken (Crumbs client) log') (taken (Triggers client) log')) (sym k)
    (subst (λ a. At (taken (Chunks client) log) a (taken (Triggers client) log')) (sym l)
    (subst (λ a. At (taken (Chunks client) log) (taken (Crumbs client) log) a) (sym t) stands))

-- a step that takes from no client leaves the clients where they are
pub none_moves : (W : PlainWorkload) (m : Machine) (node : ℕ) (log : List Step) (step : Step) (players : List PlainReplayClient)
    → ((client : ℕ) → (takes (Chunks client) step ≡ false) × (takes (Crumbs client) step ≡ false) × (takes (Triggers client) step ≡ false))
    → ReplayClientsStand W m node log players → ReplayClientsStand W m node (log ++ step ∷ []) players
none_moves W m node log step players none stand =
    record {
      count = stand.count;
      each =
          λ client player at.
          let no = none client in
          as_much W m node log (log ++ step ∷ []) client player (taken_still (Chunks client) log step no.0) (taken_still (Crumbs client) log step no.1) (taken_still (Triggers client) log step no.2)
          (stand.each client player at);
    }

length_set : {A : Type 0} (xs : List A) (place : ℕ) (x : A) → length (set xs place x) ≡ length xs
length_set xs place x = length-set xs place x

-- a client moved, and no step took from the others
pub one_moves : (W : PlainWorkload) (m : Machine) (node : ℕ) (log log' : List Step) (client : ℕ) (players : List PlainReplayClient) (before now : PlainReplayClient)
    → slice_get players client ≡ Some before
    → ((other : ℕ) → (client ≡ other → ⊥) → (taken (Chunks other) log' ≡ taken (Chunks other) log) × (taken (Crumbs other) log' ≡ taken (Crumbs other) log) × (taken (Triggers other) log' ≡ taken (Triggers other) log))
    → ReplayClientStands W m node log' client now → ReplayClientsStand W m node log players → ReplayClientsStand W m node log' (set players client now)
one_moves W m node log log' client players before now stood others moved stand =
    record {
      count = length_set players client now ∙ stand.count;
      each =
          λ other player at.
          elim (get_set_cases players client other before now player stood at) [
            | inl h ↦ subst (λ (p : PlainReplayClient). ReplayClientStands W m node log' other p) h.1 (subst (λ (c : ℕ). ReplayClientStands W m node log' c now) h.0 moved)
            | inr h ↦ let same = others other h.0 in as_much W m node log log' other player same.0 same.1 same.2 (stand.each other player h.1)
          ];
    }

-- ---- events

pub sends_there : (W : PlainWorkload) (m : Machine) (run : NodeRun) (client : ℕ) → run.sends ≡ node_sends W m.journal run.node → client < W.settings.clients
    → slice_get run.sends client ≡ Some (client_sends W m.journal run.node client)
sends_there W m run client e low =
    let zero_on : 0 + client ≡ client = omega arith in
    ap (λ (s : List ClientSends). slice_get s client) e ∙ map_range_from (client_sends W m.journal run.node) 0 W.settings.clients client low ∙ ap (λ c. Some (client_sends W m.journal run.node c)) zero_on

event_there : {A : Type 0} (f : A → AgentEvent) (queue : Queue) (pick : ClientSends → List (Sent A)) (run : NodeRun) (client : ℕ) (sends : ClientSends) (item : Sent A) → slice_get run.sends client ≡ Some sends
    → slice_get (pick sends) (taken queue run.state.log) ≡ Some item
    → option_and_then (λ (s : ClientSends). option_map f (next_of queue run.state (pick s))) (slice_get run.sends client) ≡ Some (f item.item)
event_there {A = A} f queue pick run client sends item there found =
    ap (option_and_then (λ (s : ClientSends). option_map f (next_of queue run.state (pick s)))) there ∙ ap (λ (o : Option (Sent A)). option_map f (option_map (λ (i : Sent A). i.item) o)) found

pub chunk_ready : (W : PlainWorkload) (m : Machine) (run : NodeRun) (client : ℕ) (item : Sent Sheet) → run.sends ≡ node_sends W m.journal run.node → client < W.settings.clients
    → slice_get (client_sends W m.journal run.node client).chunks (taken (Chunks client) run.state.log) ≡ Some item
    → event_of run (heard_in W m.journal) (steps.Chunk client) ≡ Some (Took (Chunk client item.item))
chunk_ready W m run client item e low found =
    event_there (λ (sheet : Sheet). Took (Chunk client sheet)) (Chunks client) (λ (s : ClientSends). s.chunks) run client (client_sends W m.journal run.node client) item (sends_there W m run client e low) found

pub crumb_ready : (W : PlainWorkload) (m : Machine) (run : NodeRun) (client : ℕ) (item : Sent Crumb) → run.sends ≡ node_sends W m.journal run.node → client < W.settings.clients
    → slice_get (client_sends W m.journal run.node client).crumbs (taken (Crumbs client) run.state.log) ≡ Some item
    → event_of run (heard_in W m.journal) (steps.Crumb client) ≡ Some (Took (Crumbed client item.item))
crumb_ready W m run client item e low found =
    event_there (λ (crumb : Crumb). Took (Crumbed client crumb)) (Crumbs client) (λ (s : ClientSends). s.crumbs) run client (client_sends W m.journal run.node client) item (sends_there W m run client e low) found

pub trigger_ready : (W : PlainWorkload) (m : Machine) (run : NodeRun) (client : ℕ) (item : Sent Trigger) → run.sends ≡ node_sends W m.journal run.node → client < W.settings.clients
    → slice_get (client_sends W m.journal run.node client).triggers (taken (Triggers client) run.state.log) ≡ Some item
    → event_of run (heard_in W m.journal) (steps.Trigger client) ≡ Some (Took (Triggered client item.item))
trigger_ready W m run client item e low found =
    event_there (λ (trigger : Trigger). Took (Triggered client trigger)) (Triggers client) (λ (s : ClientSends). s.triggers) run client (client_sends W m.journal run.node client) item (sends_there W m run client e low) found

-- ---- chunks

pub sheet_is : (buffer : Unleased) (sheet : Sheet) → buffer.chunk.page ≡ Some sheet → sheet_in buffer ≡ sheet
sheet_is buffer sheet e = ap (λ (page : Option Sheet). sheet_in (record buffer { chunk = record (buffer.chunk) { page = page } })) e

-- the chunk came in the buffer of its page's draw
pub chunk_lent : (W : PlainWorkload) (m : Machine) (run : NodeRun) (client done k : ℕ) (buffer : Unleased) → run.sends ≡ node_sends W m.journal run.node → client < W.settings.clients
    → IsChunkAt W.settings (record { node = run.node; number = client }) (operations_at W (place_of W.settings.clients run.node client)) (draws_at m.journal (place_of W.settings.clients run.node client)) done k buffer.chunk
    → IsLent W.settings run buffer
chunk_lent W m run client done k buffer e low at =
    let sheet : sheet_in buffer ≡ at.item.item = sheet_is buffer at.item.item at.sheet in
    let number : at.item.item.header.client.number ≡ client = ap (λ c. c.number) at.owner in
    record {
      drawn =
          ap (λ (s : Sheet). option_and_then (λ (page : DrawnPage). buffer_in_draw page.draw) (page_of run s)) sheet
          ∙ ap (λ c. option_and_then (λ (page : DrawnPage). buffer_in_draw page.draw) (option_and_then (λ (sends : ClientSends). slice_get sends.drawn at.item.item.header.page) (slice_get run.sends c))) number
          ∙ ap (λ (o : Option ClientSends). option_and_then (λ (page : DrawnPage). buffer_in_draw page.draw) (option_and_then (λ (sends : ClientSends). slice_get sends.drawn at.item.item.header.page) o)) (sends_there W m run client e low)
          ∙ ap (option_and_then (λ (page : DrawnPage). buffer_in_draw page.draw)) at.page_is ∙ ap buffer_in_draw at.draw;
      size = at.size;
    }

-- ---- what stands then

module _ (W : PlainWorkload) (m : Machine) (run : NodeRun) (log : List Step) (client : ℕ) where
  own : nat_eq client client ≡ true
  own = eq-eqb client client refl

  abbrev after_taking : Step → List Step
  after_taking step = log ++ step ∷ []

  pub chunks_else : (other : ℕ) → (client ≡ other → ⊥) → (taken (Chunks other) (log ++ steps.Chunk client ∷ []) ≡ taken (Chunks other) log)
      × (taken (Crumbs other) (log ++ steps.Chunk client ∷ []) ≡ taken (Crumbs other) log) × (taken (Triggers other) (log ++ steps.Chunk client ∷ []) ≡ taken (Triggers other) log)
  chunks_else other apart =
      (taken_still (Chunks other) log (steps.Chunk client) (ne_eqb client other apart), taken_still (Crumbs other) log (steps.Chunk client) refl, taken_still (Triggers other) log (steps.Chunk client) refl)

  pub crumbs_else : (other : ℕ) → (client ≡ other → ⊥) → (taken (Chunks other) (log ++ steps.Crumb client ∷ []) ≡ taken (Chunks other) log)
      × (taken (Crumbs other) (log ++ steps.Crumb client ∷ []) ≡ taken (Crumbs other) log) × (taken (Triggers other) (log ++ steps.Crumb client ∷ []) ≡ taken (Triggers other) log)
  crumbs_else other apart =
      (taken_still (Chunks other) log (steps.Crumb client) refl, taken_still (Crumbs other) log (steps.Crumb client) (ne_eqb client other apart), taken_still (Triggers other) log (steps.Crumb client) refl)

  pub triggers_else : (other : ℕ) → (client ≡ other → ⊥) → (taken (Chunks other) (log ++ steps.Trigger client ∷ []) ≡ taken (Chunks other) log)
      × (taken (Crumbs other) (log ++ steps.Trigger client ∷ []) ≡ taken (Crumbs other) log) × (taken (Triggers other) (log ++ steps.Trigger client ∷ []) ≡ taken (Triggers other) log)
  triggers_else other apart =
      (taken_still (Chunks other) log (steps.Trigger client) refl, taken_still (Crumbs other) log (steps.Trigger client) refl, taken_still (Triggers other) log (steps.Trigger client) (ne_eqb client other apart))

  abbrev At : (k l t : ℕ) → PlainReplayClient → Type 0
  At k l t player =
      let place = place_of W.settings.clients run.node client in
      ReplayClientIsAt W.settings (record { node = run.node; number = client }) (operations_at W place) (draws_at m.journal place) (done_at m place) k l t player

  at_counts : (k k' l l' t t' : ℕ) (player : PlainReplayClient) → k ≡ k' → l ≡ l' → t ≡ t' → At k l t player → At k' l' t' player
  at_counts k k' l l' t t' player ek el et at = subst (λ a. At a l' t' player) ek (subst (λ a. At k a t' player) el (subst (λ a. At k l a player) et at))

  pub chunk_moved : (player : PlainReplayClient) → At (taken (Chunks client) log + 1) (taken (Crumbs client) log) (taken (Triggers client) log) player
      → ReplayClientStands W m run.node (log ++ steps.Chunk client ∷ []) client player
  chunk_moved player at =
      at_counts (taken (Chunks client) log + 1) (taken (Chunks client) (log ++ steps.Chunk client ∷ [])) (taken (Crumbs client) log) (taken (Crumbs client) (log ++ steps.Chunk client ∷ []))
      (taken (Triggers client) log) (taken (Triggers client) (log ++ steps.Chunk client ∷ [])) player (sym (taken_once (Chunks client) log (steps.Chunk client) own))
      (sym (taken_still (Crumbs client) log (steps.Chunk client) refl)) (sym (taken_still (Triggers client) log (steps.Chunk client) refl)) at

  pub crumb_moved : (player : PlainReplayClient) → At (taken (Chunks client) log) (taken (Crumbs client) log + 1) (taken (Triggers client) log) player
      → ReplayClientStands W m run.node (log ++ steps.Crumb client ∷ []) client player
  crumb_moved player at =
      at_counts (taken (Chunks client) log) (taken (Chunks client) (log ++ steps.Crumb client ∷ [])) (taken (Crumbs client) log + 1) (taken (Crumbs client) (log ++ steps.Crumb client ∷ []))
      (taken (Triggers client) log) (taken (Triggers client) (log ++ steps.Crumb client ∷ [])) player (sym (taken_still (Chunks client) log (steps.Crumb client) refl))
      (sym (taken_once (Crumbs client) log (steps.Crumb client) own)) (sym (taken_still (Triggers client) log (steps.Crumb client) refl)) at

  pub trigger_moved : (player : PlainReplayClient) → At (taken (Chunks client) log) (taken (Crumbs client) log) (taken (Triggers client) log + 1) player
      → ReplayClientStands W m run.node (log ++ steps.Trigger client ∷ []) client player
  trigger_moved player at =
      at_counts (taken (Chunks client) log) (taken (Chunks client) (log ++ steps.Trigger client ∷ [])) (taken (Crumbs client) log) (taken (Crumbs client) (log ++ steps.Trigger client ∷ []))
      (taken (Triggers client) log + 1) (taken (Triggers client) (log ++ steps.Trigger client ∷ [])) player (sym (taken_still (Chunks client) log (steps.Trigger client) refl))
      (sym (taken_still (Crumbs client) log (steps.Trigger client) refl)) (sym (taken_once (Triggers client) log (steps.Trigger client) own)) at

  -- the clients when this one moved
  pub players_set : (step : Step) (players new : List PlainReplayClient) (before now : PlainReplayClient) → slice_get players client ≡ Some before → new ≡ set players client now
      → ((other : ℕ) → (client ≡ other → ⊥) → (taken (Chunks other) (log ++ step ∷ []) ≡ taken (Chunks other) log) × (taken (Crumbs other) (log ++ step ∷ []) ≡ taken (Crumbs other) log)
      × (taken (Triggers other) (log ++ step ∷ []) ≡ taken (Triggers other) log)) → ReplayClientStands W m run.node (log ++ step ∷ []) client now → ReplayClientsStand W m run.node log players
      → ReplayClientsStand W m run.node (log ++ step ∷ []) new
  players_set step players new before now stood e others moved stand =
      subst (ReplayClientsStand W m run.node (log ++ step ∷ [])) (sym e) (one_moves W m run.node log (log ++ step ∷ []) client players before now stood others moved stand)

  pub players_same : (players new : List PlainReplayClient) (before now : PlainReplayClient) → slice_get players client ≡ Some before → new ≡ set players client now → ReplayClientStands W m run.node log client now
      → ReplayClientsStand W m run.node log players → ReplayClientsStand W m run.node log new
  players_same players new before now stood e moved stand =
      subst (ReplayClientsStand W m run.node log) (sym e) (one_moves W m run.node log log client players before now stood (λ other apart. (refl, refl, refl)) moved stand)
