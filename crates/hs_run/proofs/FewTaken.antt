-- No agent takes more triggers than its clients sent, and these are no more than the workload has.
use Rattle.std.proofs.Common.{◌≡◌, ℕ, zero, suc, ◌+◌, ◌*◌, ◌<◌, ◌≤◌, List, [], ◌∷◌, ◌++◌, length, take, cond, eq-eqb, Bool, false, Option, refl, ap, ◌∙◌, arith, slice_get, unwrap_or, length-append}
use Rattle.hs_run.proofs.Prelude.{AllByRecursion, get_there, triggers_in, Trigger, AgentEvent, Operation, PlainWorkload, NodeWork, IsFew, IsValid, client_pieces, last_low}
use Rattle.hs_base.proofs.Counts.{count_cons}
use Rattle.hs_base.proofs.Places.{take_more}
use Rattle.hs_base.specs.declared.limits.TheConstants.{MAX_CLIENTS}
use Rattle.hs_law_agent.specs.Stepping.{Chunk, Crumbed, Triggered, Asked, Turn, Took, Gave}
use Rattle.hs_law_journal.proofs.Sums.{sum_to, sum_le, sum_lt}
use Rattle.hs_law_journal.specs.Doings.{trigger_in}
use Rattle.hs_records.specs.Validity.{workload_pieces}
use Rattle.hs_records.specs.declared.setting.Setting.TheVariants as settings
use Rattle.hs_run_actors.specs.Agents.{IsWithin}
use Rattle.hs_run_actors.specs.Work.{is_triggered, triggered}

-- ---- the clients of a workload

pub few_clients : (W : PlainWorkload) → IsValid W → W.settings.clients ≤ MAX_CLIENTS
few_clients W valid = (valid.head settings.Clients).1

-- ---- the triggers of all clients

triggers_of : List AgentEvent → ℕ → ℕ
triggers_of events client = length (triggers_in client events)

no_fewer : (e : AgentEvent) (es : List AgentEvent) (client : ℕ) → triggers_of es client ≤ triggers_of (e ∷ es) client
unfolding triggers_of
no_fewer e es client = let h = length-append (trigger_in client e) (triggers_in client es) in omega (arith, h)

one_more : (client : ℕ) (t : Trigger) (es : List AgentEvent) → triggers_of es client < triggers_of (Took (Triggered client t) ∷ es) client
unfolding triggers_of
one_more client t es =
    let h = length-append (trigger_in client (Took (Triggered client t))) (triggers_in client es) in
    let e : length (trigger_in client (Took (Triggered client t))) ≡ 1 = ap (λ (b : Bool). length (cond b (t ∷ []) [])) (eq-eqb client client refl) in
    omega (arith, h, e)

-- an event that is no trigger
other : (n : ℕ) (e : AgentEvent) (es : List AgentEvent) → is_triggered e ≡ false → triggered es ≤ sum_to (triggers_of es) n → triggered (e ∷ es) ≤ sum_to (triggers_of (e ∷ es)) n
other n e es off rest =
    let count : triggered (e ∷ es) ≡ 0 + triggered es = count_cons is_triggered e es ∙ ap (λ (b : Bool). cond b 1 0 + triggered es) off in
    let less = sum_le (triggers_of es) (triggers_of (e ∷ es)) n (λ k _. no_fewer e es k) in
    omega (arith, rest, count, less)

few_taken : (W : PlainWorkload) (node n : ℕ) → n ≡ W.settings.clients → (events : List AgentEvent) → AllByRecursion (IsWithin W node) events → triggered events ≤ sum_to (triggers_of events) n
few_taken W node n is [] h = omega arith
few_taken W node n is (Took (Chunk client sheet) ∷ es) h = other n (Took (Chunk client sheet)) es refl (few_taken W node n is es h.1)
few_taken W node n is (Took (Crumbed client crumb) ∷ es) h = other n (Took (Crumbed client crumb)) es refl (few_taken W node n is es h.1)
few_taken W node n is (Took (Asked ask) ∷ es) h = other n (Took (Asked ask)) es refl (few_taken W node n is es h.1)
few_taken W node n is (Took Turn ∷ es) h = other n (Took Turn) es refl (few_taken W node n is es h.1)
few_taken W node n is (Gave answer ∷ es) h = other n (Gave answer) es refl (few_taken W node n is es h.1)
few_taken W node n is (Took (Triggered client t) ∷ es) h =
    let rest = few_taken W node n is es h.1 in
    let count : triggered (Took (Triggered client t) ∷ es) ≡ 1 + triggered es = count_cons is_triggered (Took (Triggered client t)) es in
    let low = h.0.0 in
    let less = sum_lt (triggers_of es) (triggers_of (Took (Triggered client t) ∷ es)) n client (λ k _. no_fewer (Took (Triggered client t)) es k) (omega (arith, low, is)) (one_more client t es) in
    omega (arith, rest, count, less)

-- ---- the operations of a node's clients

pieces_append : (size : ℕ) (xs ys : List (List Operation)) → workload_pieces size (xs ++ ys) ≡ workload_pieces size xs + workload_pieces size ys
pieces_append size [] ys = omega arith
pieces_append size (x ∷ xs) ys = let rest = pieces_append size xs ys in omega (arith, rest)

-- the pieces of the client at a place
pieces_at : ℕ → List (List Operation) → ℕ → ℕ
pieces_at size lists place = client_pieces size (unwrap_or (slice_get lists place) [])

pieces_first : (size : ℕ) (lists : List (List Operation)) (start n : ℕ) → start + n ≤ length lists
    → sum_to (λ k. pieces_at size lists (start + k)) n + workload_pieces size (take start lists) ≤ workload_pieces size (take (start + n) lists)
unfolding pieces_at
pieces_first size lists start zero high = let e = ap (λ (k : ℕ). workload_pieces size (take k lists)) same in omega (arith, e)
  where
    same : start + 0 ≡ start
    same = omega arith
pieces_first size lists start (suc n) high =
    let rest = pieces_first size lists start n (omega (arith, high)) in
    let (x, at) = get_there lists (start + n) (omega (arith, high)) in
    let more = ap (workload_pieces size) (take_more lists (start + n) x at) ∙ pieces_append size (take (start + n) lists) (x ∷ []) in
    let here = ap (λ (o : Option (List Operation)). client_pieces size (unwrap_or o [])) at in
    let next : start + suc n ≡ suc (start + n) = omega arith in
    let there = ap (λ (k : ℕ). workload_pieces size (take k lists)) next in
    omega (arith, rest, more, here, there)

pieces_all : (size : ℕ) (lists : List (List Operation)) (n : ℕ) → workload_pieces size (take n lists) ≤ workload_pieces size lists
pieces_all size [] zero = omega arith
pieces_all size [] (suc n) = omega arith
pieces_all size (x ∷ xs) zero = omega arith
pieces_all size (x ∷ xs) (suc n) = let rest = pieces_all size xs n in omega (arith, rest)

-- ---- both

-- what the clients of a node sent bounds what its agent takes
pub few_of_sent : (W : PlainWorkload) → IsValid W → (n : ℕ) → n < W.settings.nodes → (work : NodeWork) → AllByRecursion (IsWithin W work.node) work.events
    → ((client : ℕ) → client < W.settings.clients → length (triggers_in client work.events) ≤ client_pieces W.settings.size (unwrap_or (slice_get W.clients (n * W.settings.clients + client)) []))
    → IsFew W work
unfolding triggers_of pieces_at
few_of_sent W valid n low work within sent =
    let taken = few_taken W work.node W.settings.clients refl work.events within in
    let each = sum_le (triggers_of work.events) (λ k. pieces_at W.settings.size W.clients (n * W.settings.clients + k)) W.settings.clients sent in
    let first = pieces_first W.settings.size W.clients (n * W.settings.clients) W.settings.clients (last_low W valid n low) in
    let all = pieces_all W.settings.size W.clients (n * W.settings.clients + W.settings.clients) in
    let most = valid.few in
    record { clients = few_clients W valid; triggers = omega (arith, taken, each, first, all, most) }
