-- The queues of a node by their places: a step takes from the queue at the place that it has.
use Rattle.std.proofs.Common.{◌≡◌, ℕ, zero, suc, ◌+◌, ◌*◌, ◌<◌, ◌≤◌, Bool, true, false, cond, eqb, leb, ltb, List, [], ◌∷◌, ◌++◌, Option, Some, None, refl, sym, ap, ◌∙◌, subst, inl, inr, arith}
use Rattle.hs_check_follow.proofs.Prelude.{filter, count_by, unwrap_or, ◌&&◌, range_with_len, flat_map, list_all, ltb-true, ltb-false, eqb-true, ne_eqb, eq-eqb, cases_eq, filter_agree, range_append, MAX_TAKEN, Step, Queue, Asks, takes, taken, client_queues}
use Rattle.hs_base.proofs.Counts.{count_alike}
use Rattle.hs_records.specs.declared.journal.Step.TheVariants as steps
use Rattle.hs_law_journal.specs.Following.{Chunks, Crumbs, Triggers}
use Rattle.hs_check_follow.specs.Walking.{place_of}

-- how many queues there are
abbrev pub queue_count : ℕ → ℕ
queue_count clients = 3 * clients + 1

-- the place of a step, behind all queues where it takes of none
abbrev pub place : ℕ → Step → ℕ
place clients step = unwrap_or (place_of clients step) (queue_count clients)

-- ---- what each queue is taken by

abbrev placed : ℕ → Bool → ℕ → ℕ
placed clients b p = unwrap_or (cond b (Some p) None) (queue_count clients)

-- a step with a place, against the queue of that kind, and against others
own_place : (clients c a p q : ℕ) (b : Bool) → ltb c clients ≡ b → a < clients → q < 3 * clients → (c ≡ a → p ≡ q) → (p ≡ q → c ≡ a) → eqb c a ≡ eqb (placed clients b p) q
own_place clients c a p q true e low within there back =
    elim (cases_eq c a) [ inl same ↦ eq-eqb c a same ∙ sym (eq-eqb p q (there same)) | inr other ↦ ne_eqb c a other ∙ sym (ne_eqb p q (λ h. other (back h))) ]
own_place clients c a p q false e low within there back =
    let high = ltb-false c clients e in ne_eqb c a (λ h. omega (arith, h, high)) ∙ sym (ne_eqb (queue_count clients) q (λ h. omega (arith, h)))

other_place : (clients p q : ℕ) (b : Bool) → q < queue_count clients → (p ≡ q → ⊥) → false ≡ eqb (placed clients b p) q
other_place clients p q true within differ = sym (ne_eqb p q differ)
other_place clients p q false within differ = sym (ne_eqb (queue_count clients) q (λ h. omega (arith, h)))

module _ (clients a : ℕ) (low : a < clients) where
  pub takes_chunk : (step : Step) → takes (Chunks a) step ≡ eqb (place clients step) (3 * a)
  takes_chunk (steps.Chunk c) = own_place clients c a (3 * c) (3 * a) (ltb c clients) refl low (omega arith) (λ h. omega (arith, h)) (λ h. omega (arith, h))
  takes_chunk (steps.Crumb c) = other_place clients (3 * c + 1) (3 * a) (ltb c clients) (omega arith) (λ h. omega (arith, h))
  takes_chunk (steps.Trigger c) = other_place clients (3 * c + 2) (3 * a) (ltb c clients) (omega arith) (λ h. omega (arith, h))
  takes_chunk steps.Ask = sym (ne_eqb (3 * clients) (3 * a) (λ h. omega (arith, h)))
  takes_chunk steps.Turn = sym (ne_eqb (queue_count clients) (3 * a) (λ h. omega (arith, h)))
  takes_chunk (steps.Given s) = sym (ne_eqb (queue_count clients) (3 * a) (λ h. omega (arith, h)))
  takes_chunk (steps.Missed s) = sym (ne_eqb (queue_count clients) (3 * a) (λ h. omega (arith, h)))
  takes_chunk steps.Unread = sym (ne_eqb (queue_count clients) (3 * a) (λ h. omega (arith, h)))

  pub takes_crumb : (step : Step) → takes (Crumbs a) step ≡ eqb (place clients step) (3 * a + 1)
  takes_crumb (steps.Chunk c) = other_place clients (3 * c) (3 * a + 1) (ltb c clients) (omega arith) (λ h. omega (arith, h))
  takes_crumb (steps.Crumb c) = own_place clients c a (3 * c + 1) (3 * a + 1) (ltb c clients) refl low (omega arith) (λ h. omega (arith, h)) (λ h. omega (arith, h))
  takes_crumb (steps.Trigger c) = other_place clients (3 * c + 2) (3 * a + 1) (ltb c clients) (omega arith) (λ h. omega (arith, h))
  takes_crumb steps.Ask = sym (ne_eqb (3 * clients) (3 * a + 1) (λ h. omega (arith, h)))
  takes_crumb steps.Turn = sym (ne_eqb (queue_count clients) (3 * a + 1) (λ h. omega (arith, h)))
  takes_crumb (steps.Given s) = sym (ne_eqb (queue_count clients) (3 * a + 1) (λ h. omega (arith, h)))
  takes_crumb (steps.Missed s) = sym (ne_eqb (queue_count clients) (3 * a + 1) (λ h. omega (arith, h)))
  takes_crumb steps.Unread = sym (ne_eqb (queue_count clients) (3 * a + 1) (λ h. omega (arith, h)))

  pub takes_trigger : (step : Step) → takes (Triggers a) step ≡ eqb (place clients step) (3 * a + 2)
  takes_trigger (steps.Chunk c) = other_place clients (3 * c) (3 * a + 2) (ltb c clients) (omega arith) (λ h. omega (arith, h))
  takes_trigger (steps.Crumb c) = other_place clients (3 * c + 1) (3 * a + 2) (ltb c clients) (omega arith) (λ h. omega (arith, h))
  takes_trigger (steps.Trigger c) = own_place clients c a (3 * c + 2) (3 * a + 2) (ltb c clients) refl low (omega arith) (λ h. omega (arith, h)) (λ h. omega (arith, h))
  takes_trigger steps.Ask = sym (ne_eqb (3 * clients) (3 * a + 2) (λ h. omega (arith, h)))
  takes_trigger steps.Turn = sym (ne_eqb (queue_count clients) (3 * a + 2) (λ h. omega (arith, h)))
  takes_trigger (steps.Given s) = sym (ne_eqb (queue_count clients) (3 * a + 2) (λ h. omega (arith, h)))
  takes_trigger (steps.Missed s) = sym (ne_eqb (queue_count clients) (3 * a + 2) (λ h. omega (arith, h)))
  takes_trigger steps.Unread = sym (ne_eqb (queue_count clients) (3 * a + 2) (λ h. omega (arith, h)))

ask_place : (clients c p : ℕ) (b : Bool) → ltb c clients ≡ b → (c < clients → p < 3 * clients) → false ≡ eqb (placed clients b p) (3 * clients)
ask_place clients c p true e within = let low = within (ltb-true c clients e) in sym (ne_eqb p (3 * clients) (λ h. omega (arith, h, low)))
ask_place clients c p false e within = sym (ne_eqb (queue_count clients) (3 * clients) (λ h. omega (arith, h)))

takes_ask : (clients : ℕ) (step : Step) → takes Asks step ≡ eqb (place clients step) (3 * clients)
takes_ask clients (steps.Chunk c) = ask_place clients c (3 * c) (ltb c clients) refl (λ h. omega (arith, h))
takes_ask clients (steps.Crumb c) = ask_place clients c (3 * c + 1) (ltb c clients) refl (λ h. omega (arith, h))
takes_ask clients (steps.Trigger c) = ask_place clients c (3 * c + 2) (ltb c clients) refl (λ h. omega (arith, h))
takes_ask clients steps.Ask = sym (eq-eqb (3 * clients) (3 * clients) refl)
takes_ask clients steps.Turn = sym (ne_eqb (queue_count clients) (3 * clients) (λ h. omega (arith, h)))
takes_ask clients (steps.Given s) = sym (ne_eqb (queue_count clients) (3 * clients) (λ h. omega (arith, h)))
takes_ask clients (steps.Missed s) = sym (ne_eqb (queue_count clients) (3 * clients) (λ h. omega (arith, h)))
takes_ask clients steps.Unread = sym (ne_eqb (queue_count clients) (3 * clients) (λ h. omega (arith, h)))

-- ---- queues and places, one for one

-- these queues are those at these places
abbrev pub Match : ℕ → List Queue → List ℕ → Type 0
Match clients [] [] = Unit {0}
Match clients (queue ∷ queues) (p ∷ places) = ((step : Step) → takes queue step ≡ eqb (place clients step) p) × Match clients queues places
Match clients _ _ = ⊥

Match-append : (clients : ℕ) (queues more : List Queue) (places later : List ℕ) → Match clients queues places → Match clients more later → Match clients (queues ++ more) (places ++ later)
Match-append clients [] more [] later m n = n
Match-append clients [] more (p ∷ places) later m n = absurd m
Match-append clients (queue ∷ queues) more [] later m n = absurd m
Match-append clients (queue ∷ queues) more (p ∷ places) later m n = (m.0, Match-append clients queues more places later m.1 n)

clients_match : (clients a count : ℕ) → a + count ≤ clients → Match clients (flat_map client_queues (range_with_len a count)) (range_with_len (3 * a) (3 * count))
clients_match clients a zero few = tt
clients_match clients a (suc count) few =
    let low : a < clients = omega arith in
    let three : 3 * suc count ≡ suc (suc (suc (3 * count))) = omega arith in
    let next : 3 * a + 1 + 1 + 1 ≡ 3 * (a + 1) = omega arith in
    let two : 3 * a + 1 + 1 ≡ 3 * a + 2 = omega arith in
    let later : Match clients (flat_map client_queues (range_with_len (a + 1) count)) (range_with_len (3 * a + 1 + 1 + 1) (3 * count)) =
    subst (λ k. Match clients (flat_map client_queues (range_with_len (a + 1) count)) (range_with_len k (3 * count))) (sym next) (clients_match clients (a + 1) count (omega arith)) in
    subst (λ k. Match clients (flat_map client_queues (range_with_len a (suc count))) (range_with_len (3 * a) k)) (sym three)
    (takes_chunk clients a low, (takes_crumb clients a low, ((λ step. takes_trigger clients a low step ∙ ap (λ k. eqb (place clients step) k) (sym two)), later)))

-- all queues of a node
pub queues_match : (clients : ℕ) → Match clients (flat_map client_queues (range_with_len 0 clients) ++ Asks ∷ []) (range_with_len 0 (queue_count clients))
queues_match clients =
    let last : 0 + 3 * clients ≡ 3 * clients = omega arith in
    let parts : range_with_len 0 (3 * clients) ++ (3 * clients) ∷ [] ≡ range_with_len 0 (queue_count clients) =
    ap (λ k. range_with_len 0 (3 * clients) ++ k ∷ []) (sym last) ∙ sym (range_append 0 (3 * clients) 1) in
    subst (λ (l : List ℕ). Match clients (flat_map client_queues (range_with_len 0 clients) ++ Asks ∷ []) l) parts
    (Match-append clients (flat_map client_queues (range_with_len 0 clients)) (Asks ∷ []) (range_with_len 0 (3 * clients)) ((3 * clients) ∷ []) (clients_match clients 0 clients (omega arith)) (takes_ask clients, tt))

-- ---- what is said of queues, said of places

pub taken_in_order : (clients : ℕ) (pass : List Step) (queues : List Queue) (places : List ℕ) → Match clients queues places
    → flat_map (λ queue. filter (takes queue) pass) queues ≡ flat_map (λ s. filter (λ step. eqb (place clients step) s) pass) places
taken_in_order clients pass [] [] m = refl
taken_in_order clients pass [] (p ∷ places) m = absurd m
taken_in_order clients pass (queue ∷ queues) [] m = absurd m
taken_in_order clients pass (queue ∷ queues) (p ∷ places) m =
    ap (λ (l : List Step). l ++ flat_map (λ queue. filter (takes queue) pass) queues) (filter_agree (takes queue) (λ step. eqb (place clients step) p) m.0 pass)
    ∙ ap (λ (l : List Step). filter (λ step. eqb (place clients step) p) pass ++ l) (taken_in_order clients pass queues places m.1)

pub few_of_each : (clients : ℕ) (pass : List Step) (queues : List Queue) (places : List ℕ) → Match clients queues places
    → list_all (λ queue. leb (taken queue pass) MAX_TAKEN) queues ≡ list_all (λ s. leb (count_by (λ step. eqb (place clients step) s) pass) MAX_TAKEN) places
few_of_each clients pass [] [] m = refl
few_of_each clients pass [] (p ∷ places) m = absurd m
few_of_each clients pass (queue ∷ queues) [] m = absurd m
few_of_each clients pass (queue ∷ queues) (p ∷ places) m =
    ap (λ k. leb k MAX_TAKEN && list_all (λ queue. leb (taken queue pass) MAX_TAKEN) queues) (count_alike (takes queue) (λ step. eqb (place clients step) p) m.0 pass)
    ∙ ap (λ b. leb (count_by (λ step. eqb (place clients step) p) pass) MAX_TAKEN && b) (few_of_each clients pass queues places m.1)
