-- What the events of a pass bring, client by client.
use Rattle.std.proofs.Common.{◌≡◌, ℕ, zero, suc, ◌+◌, ◌<◌, ◌≤◌, Bool, true, false, cond, List, [], ◌∷◌, ◌++◌, length, map, filter, replicate, Option, Some, None, refl, sym, ap, ap₂, ◌∙◌, arith, append_assoc, append-nil, eq-eqb}
use Rattle.hs_run_actors.proofs.Prelude.{ne_eqb, flat_map-append, map-append, same_Some, slice_get, AllByRecursion, flat_map, option_map_or, all_front, all_each, MAX_TAKEN, Ask, Crumb, Trigger, crumb_in, trigger_in, ask_in, crumbs_in, triggers_in, asks_in, sheet_in, Answered, AgentEvent, Took, Turn, step_of_answer, PlainWorkload, Leased, Buffer, IsWithin, events_made, Helping, events_of, events_from, chunks_of, chunk_event, crumb_event, trigger_event, ask_event, gave_event, is_of}
use Rattle.std.proofs.lemmas.List.Elements.{filter-append}
use Rattle.std.specs.List.{range_with_len}
use Rattle.hs_base.proofs.Parts.{map_self}
use Rattle.hs_base.proofs.Numbers.{nat_eq_itself}
use Rattle.hs_base.proofs.Alls.{all_back}
use Rattle.hs_base.proofs.Filters.{filter_all, filter_none}
use Rattle.hs_law_journal.specs.Doings.{chunk_in, chunks_in}
use Rattle.hs_law_journal.specs.LoopPasses.{IsPass, step_from}
use Rattle.hs_records.specs.declared.journal.Step.{Step}
use Rattle.hs_records.specs.declared.journal.Step.TheVariants as steps
use Rattle.hs_law_journal.specs.Following.{Queue, Chunks, Crumbs, Triggers, Asks}
use Rattle.hs_law_journal.specs.Passes.{client_queues, queues_of}
use Rattle.hs_law_agent.specs.Laws.{noted_as}

-- ---- lists

module _ {A B : Type 0} (f : A → List B) where
  -- where each item leads to nothing
  pub flat_none : {C : Type 0} (g : C → A) (xs : List C) → ((x : C) → f (g x) ≡ []) → flat_map f (map g xs) ≡ []
  flat_none g [] none = refl
  flat_none g (x ∷ xs) none = ap₂ (λ (a b : List B). a ++ b) (none x) (flat_none g xs none)

  -- where each item leads to one
  pub flat_each : {C : Type 0} (g : C → A) (h : C → B) (xs : List C) → ((x : C) → f (g x) ≡ h x ∷ []) → flat_map f (map g xs) ≡ map h xs
  flat_each g h [] one = refl
  flat_each g h (x ∷ xs) one = ap₂ (λ (a b : List B). a ++ b) (one x) (flat_each g h xs one)

-- ---- what the lines of one client bring

three : {T : Type 0} (f : AgentEvent → List T) (client : ℕ) (h : Helping) (a b c : List T) → flat_map f (map (chunk_event client) h.chunks) ≡ a → flat_map f (map (crumb_event client) h.crumbs) ≡ b → flat_map f (map (trigger_event client) h.triggers) ≡ c
    → flat_map f (events_of client h) ≡ (a ++ b) ++ c
three f client h a b c e₁ e₂ e₃ =
    flat_map-append f (map (chunk_event client) h.chunks ++ map (crumb_event client) h.crumbs) (map (trigger_event client) h.triggers)
    ∙ ap₂ (λ x y. x ++ y) (flat_map-append f (map (chunk_event client) h.chunks) (map (crumb_event client) h.crumbs) ∙ ap₂ (λ x y. x ++ y) e₁ e₂) e₃

chunks_own : (c : ℕ) (h : Helping) → flat_map (chunk_in c) (events_of c h) ≡ map sheet_in h.chunks
chunks_own c h =
    three (chunk_in c) c h (map sheet_in h.chunks) [] []
    (flat_each (chunk_in c) (chunk_event c) sheet_in h.chunks (λ b. ap (λ t. cond t (sheet_in b ∷ []) []) (nat_eq_itself c))) (flat_none (chunk_in c) (crumb_event c) h.crumbs (λ x. refl)) (flat_none (chunk_in c) (trigger_event c) h.triggers (λ x. refl))
    ∙ append-nil (map sheet_in h.chunks ++ []) ∙ append-nil (map sheet_in h.chunks)

chunks_other : (c k : ℕ) (h : Helping) → (k ≡ c → ⊥) → flat_map (chunk_in c) (events_of k h) ≡ []
chunks_other c k h apart =
    three (chunk_in c) k h [] [] [] (flat_none (chunk_in c) (chunk_event k) h.chunks (λ b. ap (λ t. cond t (sheet_in b ∷ []) []) (ne_eqb k c apart))) (flat_none (chunk_in c) (crumb_event k) h.crumbs (λ x. refl))
    (flat_none (chunk_in c) (trigger_event k) h.triggers (λ x. refl))

crumbs_own : (c : ℕ) (h : Helping) → flat_map (crumb_in c) (events_of c h) ≡ h.crumbs
crumbs_own c h =
    three (crumb_in c) c h [] h.crumbs [] (flat_none (crumb_in c) (chunk_event c) h.chunks (λ x. refl))
    (flat_each (crumb_in c) (crumb_event c) (λ x. x) h.crumbs (λ x. ap (λ t. cond t (x ∷ []) []) (nat_eq_itself c)) ∙ map_self h.crumbs) (flat_none (crumb_in c) (trigger_event c) h.triggers (λ x. refl))
    ∙ append-nil h.crumbs

crumbs_other : (c k : ℕ) (h : Helping) → (k ≡ c → ⊥) → flat_map (crumb_in c) (events_of k h) ≡ []
crumbs_other c k h apart =
    three (crumb_in c) k h [] [] [] (flat_none (crumb_in c) (chunk_event k) h.chunks (λ x. refl)) (flat_none (crumb_in c) (crumb_event k) h.crumbs (λ x. ap (λ t. cond t (x ∷ []) []) (ne_eqb k c apart)))
    (flat_none (crumb_in c) (trigger_event k) h.triggers (λ x. refl))

triggers_own : (c : ℕ) (h : Helping) → flat_map (trigger_in c) (events_of c h) ≡ h.triggers
triggers_own c h =
    three (trigger_in c) c h [] [] h.triggers (flat_none (trigger_in c) (chunk_event c) h.chunks (λ x. refl)) (flat_none (trigger_in c) (crumb_event c) h.crumbs (λ x. refl))
    (flat_each (trigger_in c) (trigger_event c) (λ x. x) h.triggers (λ x. ap (λ t. cond t (x ∷ []) []) (nat_eq_itself c)) ∙ map_self h.triggers)

triggers_other : (c k : ℕ) (h : Helping) → (k ≡ c → ⊥) → flat_map (trigger_in c) (events_of k h) ≡ []
triggers_other c k h apart =
    three (trigger_in c) k h [] [] [] (flat_none (trigger_in c) (chunk_event k) h.chunks (λ x. refl)) (flat_none (trigger_in c) (crumb_event k) h.crumbs (λ x. refl))
    (flat_none (trigger_in c) (trigger_event k) h.triggers (λ x. ap (λ t. cond t (x ∷ []) []) (ne_eqb k c apart)))

-- ---- what those of all clients bring

module _ {T : Type 0} (f : ℕ → AgentEvent → List T) (field : Helping → List T) (mine : (c : ℕ) (h : Helping) → flat_map (f c) (events_of c h) ≡ field h) (other : (c k : ℕ) (h : Helping) → (k ≡ c → ⊥) → flat_map (f c) (events_of k h) ≡ []) where
  none_below : (c k : ℕ) (helpings : List Helping) → c < k → flat_map (f c) (events_from k helpings) ≡ []
  none_below c k [] low = refl
  none_below c k (h ∷ helpings) low =
      flat_map-append (f c) (events_of k h) (events_from (suc k) helpings) ∙ ap₂ (λ (x y : List T). x ++ y) (other c k h (λ e. omega (arith, e, low))) (none_below c (suc k) helpings (omega (arith, low)))

  at_client : (c k i : ℕ) (helpings : List Helping) (h : Helping) → c ≡ k + i → slice_get helpings i ≡ Some h → flat_map (f c) (events_from k helpings) ≡ field h
  at_client c k i [] h e at = let none : None ≡ Some h = at in absurd cc
  at_client c k zero (x ∷ helpings) h e at =
      let same : k ≡ c = omega (arith, e) in
      flat_map-append (f c) (events_of k x) (events_from (suc k) helpings)
      ∙ ap₂ (λ (x y : List T). x ++ y) (ap (λ n. flat_map (f c) (events_of n x)) same ∙ mine c x ∙ ap field (same_Some x h at)) (none_below c (suc k) helpings (omega (arith, same))) ∙ append-nil (field h)
  at_client c k (suc i) (x ∷ helpings) h e at =
      flat_map-append (f c) (events_of k x) (events_from (suc k) helpings) ∙ ap₂ (λ (x y : List T). x ++ y) (other c k x (λ same. omega (arith, same, e))) (at_client c (suc k) i helpings h (omega (arith, e)) at)

  -- of a pass, whose other events bring nothing
  made_at : (c : ℕ) (helpings : List Helping) (asks : List Ask) (answers : List Answered) (h : Helping) → ((ask : Ask) → f c (ask_event ask) ≡ []) → f c (Took Turn) ≡ [] → ((answer : Answered) → f c (gave_event answer) ≡ []) → slice_get helpings c ≡ Some h
      → flat_map (f c) (events_made helpings asks answers) ≡ field h
  made_at c helpings asks answers h no_ask no_turn no_offer at =
      let zero_on : c ≡ 0 + c = omega arith in
      flat_map-append (f c) ((events_from 0 helpings ++ map ask_event asks) ++ Took Turn ∷ []) (map gave_event answers)
      ∙ ap₂ (λ (x y : List T). x ++ y)
      (flat_map-append (f c) (events_from 0 helpings ++ map ask_event asks) (Took Turn ∷ [])
      ∙ ap₂ (λ (x y : List T). x ++ y)
      (flat_map-append (f c) (events_from 0 helpings) (map ask_event asks) ∙ ap₂ (λ (x y : List T). x ++ y) (at_client c 0 c helpings h zero_on at) (flat_none (f c) ask_event asks no_ask) ∙ append-nil (field h))
      (ap (λ (l : List T). l ++ []) no_turn) ∙ append-nil (field h))
      (flat_none (f c) gave_event answers no_offer)
      ∙ append-nil (field h)

module _ (c : ℕ) (helpings : List Helping) (asks : List Ask) (answers : List Answered) (h : Helping) (at : slice_get helpings c ≡ Some h) where
  pub chunks_made : chunks_in c (events_made helpings asks answers) ≡ map sheet_in h.chunks
  chunks_made = made_at chunk_in (λ h. map sheet_in h.chunks) chunks_own chunks_other c helpings asks answers h (λ _. refl) refl (λ _. refl) at

  pub crumbs_made : crumbs_in c (events_made helpings asks answers) ≡ h.crumbs
  crumbs_made = made_at crumb_in (λ h. h.crumbs) crumbs_own crumbs_other c helpings asks answers h (λ _. refl) refl (λ _. refl) at

  pub triggers_made : triggers_in c (events_made helpings asks answers) ≡ h.triggers
  triggers_made = made_at trigger_in (λ h. h.triggers) triggers_own triggers_other c helpings asks answers h (λ _. refl) refl (λ _. refl) at

-- ---- asks

pub asks_of_none : (client : ℕ) (helpings : List Helping) → asks_in (events_from client helpings) ≡ []
asks_of_none client [] = refl
asks_of_none client (h ∷ helpings) =
    flat_map-append ask_in (events_of client h) (events_from (suc client) helpings)
    ∙ ap₂ (λ (a b : List Ask). a ++ b)
    (three ask_in client h [] [] [] (flat_none ask_in (chunk_event client) h.chunks (λ x. refl)) (flat_none ask_in (crumb_event client) h.crumbs (λ x. refl)) (flat_none ask_in (trigger_event client) h.triggers (λ x. refl)))
    (asks_of_none (suc client) helpings)

pub asks_made : (helpings : List Helping) (asks : List Ask) (answers : List Answered) → asks_in (events_made helpings asks answers) ≡ asks
asks_made helpings asks answers =
    flat_map-append ask_in ((events_from 0 helpings ++ map ask_event asks) ++ Took Turn ∷ []) (map gave_event answers)
    ∙ ap₂ (λ (x y : List Ask). x ++ y)
    (flat_map-append ask_in (events_from 0 helpings ++ map ask_event asks) (Took Turn ∷ [])
    ∙ append-nil (asks_in (events_from 0 helpings ++ map ask_event asks))
    ∙ flat_map-append ask_in (events_from 0 helpings) (map ask_event asks) ∙ ap₂ (λ (x y : List Ask). x ++ y) (asks_of_none 0 helpings) (flat_each ask_in ask_event (λ x. x) asks (λ x. refl) ∙ map_self asks))
    (flat_none ask_in gave_event answers (λ x. refl))
    ∙ append-nil asks

-- ---- the chunks of a client among those that came

-- each chunk has a page of its client
abbrev pub OwnChunks : ℕ → List Helping → Type 0
OwnChunks client [] = Unit {0}
OwnChunks client (h ∷ helpings) = AllByRecursion (λ (b : Buffer Leased). (sheet_in b).header.client.number ≡ client) h.chunks × OwnChunks (suc client) helpings

own_of : (W : PlainWorkload) (node client : ℕ) (items : List (Buffer Leased)) (more : List AgentEvent) → AllByRecursion (IsWithin W node) (map (chunk_event client) items ++ more) → AllByRecursion (λ (b : Buffer Leased). (sheet_in b).header.client.number ≡ client) items
own_of W node client [] more all = tt
own_of W node client (item ∷ items) more all = (ap (λ i. i.number) all.0.1, own_of W node client items more all.1)

pub own_chunks : (W : PlainWorkload) (node client : ℕ) (helpings : List Helping) → AllByRecursion (IsWithin W node) (events_from client helpings) → OwnChunks client helpings
own_chunks W node client [] all = tt
own_chunks W node client (h ∷ helpings) all =
    let here = all_front (IsWithin W node) (events_of client h) (events_from (suc client) helpings) all in
    let first = all_front (IsWithin W node) (map (chunk_event client) h.chunks ++ map (crumb_event client) h.crumbs) (map (trigger_event client) h.triggers) here in
    (own_of W node client h.chunks (map (crumb_event client) h.crumbs) first, own_chunks W node (suc client) helpings (all_back (IsWithin W node) (events_of client h) (events_from (suc client) helpings) all))

filter_step : {A : Type 0} (b : Bool) (x : A) (xs ys all : List A) → all ≡ xs ++ ys → cond b (x ∷ all) all ≡ cond b (x ∷ xs) xs ++ ys
filter_step true x xs ys all e = ap (λ l. x ∷ l) e
filter_step false x xs ys all e = e

abbrev number_of : Buffer Leased → ℕ
number_of b = (sheet_in b).header.client.number

came_below : (c k : ℕ) (helpings : List Helping) → c < k → OwnChunks k helpings → filter (is_of c) (chunks_of helpings) ≡ []
came_below c k [] low own_all = refl
came_below c k (h ∷ helpings) low own_all =
    filter-append (is_of c) h.chunks (chunks_of helpings)
    ∙ ap₂ (λ (x y : List (Buffer Leased)). x ++ y)
    (filter_none (is_of c) h.chunks (all_each (λ (b : Buffer Leased). number_of b ≡ k) (λ (b : Buffer Leased). is_of c b ≡ false) h.chunks (λ b e. ne_eqb (number_of b) c (λ same. omega (arith, same, e, low))) own_all.0))
    (came_below c (suc k) helpings (omega (arith, low)) own_all.1)

pub came_at : (c k i : ℕ) (helpings : List Helping) (h : Helping) → c ≡ k + i → OwnChunks k helpings → slice_get helpings i ≡ Some h → filter (is_of c) (chunks_of helpings) ≡ h.chunks
came_at c k i [] h e own_all at = let none : None ≡ Some h = at in absurd cc
came_at c k zero (x ∷ helpings) h e own_all at =
    let low : c < suc k = omega (arith, e) in
    filter-append (is_of c) x.chunks (chunks_of helpings)
    ∙ ap₂ (λ (x y : List (Buffer Leased)). x ++ y)
    (filter_all (is_of c) x.chunks (all_each (λ (b : Buffer Leased). number_of b ≡ k) (λ (b : Buffer Leased). is_of c b ≡ true) x.chunks (λ b same. eq-eqb (number_of b) c (omega (arith, same, e))) own_all.0))
    (came_below c (suc k) helpings low own_all.1)
    ∙ append-nil x.chunks ∙ ap (λ (y : Helping). y.chunks) (same_Some x h at)
came_at c k (suc i) (x ∷ helpings) h e own_all at =
    filter-append (is_of c) x.chunks (chunks_of helpings)
    ∙ ap₂ (λ (x y : List (Buffer Leased)). x ++ y)
    (filter_none (is_of c) x.chunks (all_each (λ (b : Buffer Leased). number_of b ≡ k) (λ (b : Buffer Leased). is_of c b ≡ false) x.chunks (λ b same. ne_eqb (number_of b) c (λ other. omega (arith, same, other, e))) own_all.0))
    (came_at c (suc k) i helpings h (omega (arith, e)) own_all.1 at)

pub came_more : (c : ℕ) (xs ys : List (Buffer Leased)) → filter (is_of c) (xs ++ ys) ≡ filter (is_of c) xs ++ filter (is_of c) ys
came_more c xs ys = filter-append (is_of c) xs ys

-- ---- the steps of a pass

-- how many items are taken of a queue
abbrev pub counted : List Helping → List Ask → Queue → ℕ
counted helpings asks (Chunks client) = option_map_or (λ (h : Helping). length h.chunks) (slice_get helpings client) 0
counted helpings asks (Crumbs client) = option_map_or (λ (h : Helping). length h.crumbs) (slice_get helpings client) 0
counted helpings asks (Triggers client) = option_map_or (λ (h : Helping). length h.triggers) (slice_get helpings client) 0
counted helpings asks Asks = length asks

few_of : {T : Type 0} (f : Helping → List T) (helpings : List Helping) (client : ℕ) → AllByRecursion (λ (items : List T). length items ≤ MAX_TAKEN) (map f helpings) → option_map_or (λ (h : Helping). length (f h)) (slice_get helpings client) 0 ≤ MAX_TAKEN
few_of f [] client all = omega arith
few_of f (h ∷ helpings) zero all = all.0
few_of f (h ∷ helpings) (suc client) all = few_of f helpings client all.1

noted_each : {T : Type 0} (event : T → AgentEvent) (step : Step) (items : List T) → ((item : T) → noted_as (event item) ≡ step) → map noted_as (map event items) ≡ replicate (length items) step
noted_each event step [] one = refl
noted_each event step (item ∷ items) one = ap₂ (λ (s : Step) (l : List Step). s ∷ l) (one item) (noted_each event step items one)

module _ (helpings : List Helping) (asks : List Ask) where
  abbrev steps_of_queue : Queue → List Step
  steps_of_queue queue = replicate (counted helpings asks queue) (step_from queue)

  of_client : (client : ℕ) (h : Helping) → slice_get helpings client ≡ Some h → map noted_as (events_of client h) ≡ flat_map steps_of_queue (client_queues client)
  of_client client h at =
      let count : (f : Helping → ℕ) → option_map_or f (slice_get helpings client) 0 ≡ f h = λ f. ap (λ (o : Option Helping). option_map_or f o 0) at in
      map-append noted_as (map (chunk_event client) h.chunks ++ map (crumb_event client) h.crumbs) (map (trigger_event client) h.triggers)
      ∙ ap₂ (λ (x y : List Step). x ++ y)
      (map-append noted_as (map (chunk_event client) h.chunks) (map (crumb_event client) h.crumbs)
      ∙ ap₂ (λ (x y : List Step). x ++ y)
      (noted_each (chunk_event client) (steps.Chunk client) h.chunks (λ _. refl) ∙ ap (λ n. replicate n (steps.Chunk client)) (sym (count (λ (h : Helping). length h.chunks))))
      (noted_each (crumb_event client) (steps.Crumb client) h.crumbs (λ _. refl) ∙ ap (λ n. replicate n (steps.Crumb client)) (sym (count (λ (h : Helping). length h.crumbs)))))
      (noted_each (trigger_event client) (steps.Trigger client) h.triggers (λ _. refl) ∙ ap (λ n. replicate n (steps.Trigger client)) (sym (count (λ (h : Helping). length h.triggers))))
      ∙ append_assoc (steps_of_queue (Chunks client)) (steps_of_queue (Crumbs client)) (steps_of_queue (Triggers client))
      ∙ ap (λ (l : List Step). steps_of_queue (Chunks client) ++ (steps_of_queue (Crumbs client) ++ l)) (sym (append-nil (steps_of_queue (Triggers client))))

  -- these are the helpings from this client on
  abbrev Behind : ℕ → List Helping → Type 0
  Behind client rest = (i : ℕ) (h : Helping) → slice_get rest i ≡ Some h → slice_get helpings (client + i) ≡ Some h

  of_clients : (client : ℕ) (rest : List Helping) → Behind client rest → map noted_as (events_from client rest) ≡ flat_map steps_of_queue (flat_map client_queues (range_with_len client (length rest)))
  of_clients client [] behind = refl
  of_clients client (h ∷ rest) behind =
      let here : slice_get helpings client ≡ Some h = (let same : client ≡ client + 0 = omega arith in ap (slice_get helpings) same ∙ behind 0 h refl) in
      let later : Behind (client + 1) rest = λ i x at. (let same : client + 1 + i ≡ client + suc i = omega arith in ap (slice_get helpings) same ∙ behind (suc i) x at) in
      let next : client + 1 ≡ suc client = omega arith in
      map-append noted_as (events_of client h) (events_from (suc client) rest)
      ∙ ap₂ (λ (x y : List Step). x ++ y) (of_client client h here) (ap (λ n. map noted_as (events_from n rest)) (sym next) ∙ of_clients (client + 1) rest later)
      ∙ sym (flat_map-append steps_of_queue (client_queues client) (flat_map client_queues (range_with_len (client + 1) (length rest))))

  all_behind_none : Behind 0 helpings
  all_behind_none i h at = let same : 0 + i ≡ i = omega arith in ap (slice_get helpings) same ∙ at

  pub is_pass : (W : PlainWorkload) (answers : List Answered) → length helpings ≡ W.settings.clients → AllByRecursion (λ (items : List (Buffer Leased)). length items ≤ MAX_TAKEN) (map (λ (h : Helping). h.chunks) helpings)
      → AllByRecursion (λ (items : List Crumb). length items ≤ MAX_TAKEN) (map (λ (h : Helping). h.crumbs) helpings) → AllByRecursion (λ (items : List Trigger). length items ≤ MAX_TAKEN) (map (λ (h : Helping). h.triggers) helpings)
      → length asks ≤ MAX_TAKEN → (p : IsPass W (events_made helpings asks answers)) × (p.offers ≡ answers)
  is_pass W answers number chunks crumbs triggers few = (
    record {
      counts = counted helpings asks;
      few = few_queue;
      offers = answers;
      steps_are =
          map-append noted_as ((events_from 0 helpings ++ map ask_event asks) ++ Took Turn ∷ []) (map gave_event answers)
          ∙ ap₂ (λ (x y : List Step). x ++ y)
          (map-append noted_as (events_from 0 helpings ++ map ask_event asks) (Took Turn ∷ [])
          ∙ ap (λ (l : List Step). l ++ steps.Turn ∷ [])
          (map-append noted_as (events_from 0 helpings) (map ask_event asks)
          ∙ ap₂ (λ (x y : List Step). x ++ y)
          (of_clients 0 helpings all_behind_none ∙ ap (λ n. flat_map steps_of_queue (flat_map client_queues (range_with_len 0 n))) number)
          (noted_each ask_event steps.Ask asks (λ _. refl) ∙ sym (append-nil (replicate (length asks) steps.Ask)))
          ∙ sym (flat_map-append steps_of_queue (flat_map client_queues (range_with_len 0 W.settings.clients)) (Asks ∷ []))))
          (offers_noted answers)
          ∙ append_assoc (flat_map steps_of_queue (queues_of W)) (steps.Turn ∷ []) (map step_of_answer answers);
    },
    refl,
  )
    where
      few_queue : (queue : Queue) → counted helpings asks queue ≤ MAX_TAKEN
      few_queue (Chunks client) = few_of (λ (h : Helping). h.chunks) helpings client chunks
      few_queue (Crumbs client) = few_of (λ (h : Helping). h.crumbs) helpings client crumbs
      few_queue (Triggers client) = few_of (λ (h : Helping). h.triggers) helpings client triggers
      few_queue Asks = few

      offers_noted : (answers : List Answered) → map noted_as (map gave_event answers) ≡ map step_of_answer answers
      offers_noted [] = refl
      offers_noted (answer ∷ answers) = ap (λ (l : List Step). step_of_answer answer ∷ l) (offers_noted answers)
