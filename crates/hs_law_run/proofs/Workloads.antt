-- What is needed of a valid workload.
use Rattle.std.proofs.Common.{◌≡◌, ℕ, suc, ◌+◌, ◌-◌, ◌*◌, ◌/◌, ◌%◌, ◌<◌, ◌≤◌, max, false, List, [], ◌∷◌, length, refl, Option, Some, None, unwrap_or, fold, arith, map, slice_get}
use Rattle.hs_law_run.proofs.Prelude.{AllByRecursion, div-lt_iff_lt-mul, slice_get_within, all_at, Operation, PlainWorkload, AreBracketed, place_of, IsValid, rounds_of}
use Rattle.std.proofs.Math.Nat.{mod-lt, mod-eq-sub-div-mul, div-mul-le_self}
use Rattle.hs_records.specs.Validity.{IsClient}
use Rattle.hs_records.specs.declared.setting.Setting.TheVariants as settings
use Rattle.hs_law_journal.specs.Ends.{rounds_for}
use Rattle.hs_law_run.proofs.Rounds.{IsFit}

pub fit_of : (W : PlainWorkload) → IsValid W → IsFit W
fit_of W valid =
    let stride = (valid.head settings.Stride).0 in
    let buffers = (valid.head settings.Buffers).0 in
    record { least = (valid.head settings.Size).0; stride = omega (arith, stride); buffers = omega (arith, buffers); bracketed = λ place. either place (slice_get W.clients place) refl }
  where
    either : (place : ℕ) (o : Option (List Operation)) → slice_get W.clients place ≡ o → AreBracketed false (unwrap_or o [])
    either place None h = refl
    either place (Some ops) h = (all_at (IsClient W.version W.settings) W.clients place ops valid.each h).bracketed

-- ---- rounds

max_low : (bound : ℕ) (list : List ℕ) (from : ℕ) → from ≤ bound → AllByRecursion (λ m. m ≤ bound) list → fold max from list ≤ bound
max_low bound [] from low all = low
max_low bound (x ∷ list) from low all = let first = all.0 in max_low bound list (max from x) (omega (arith, low, first)) all.1

pub rounds_low : (W : PlainWorkload) → IsFit W → (rounds : ℕ) → AllByRecursion (λ (ops : List Operation). length ops ≤ rounds * W.settings.stride) W.clients → rounds_of W ≤ rounds
rounds_low W fit rounds all = max_low rounds (map (λ (ops : List Operation). rounds_for W.settings.stride (length ops)) W.clients) 0 (omega arith) (each W.clients all)
  where
    few : (m : ℕ) → m ≤ rounds * W.settings.stride → rounds_for W.settings.stride m ≤ rounds
    few m low =
        let stride = fit.stride in
        let next : suc rounds * W.settings.stride ≡ rounds * W.settings.stride + W.settings.stride = omega arith in
        let less = (div-lt_iff_lt-mul {k = W.settings.stride} {x = m + (W.settings.stride - 1)} {y = suc rounds} fit.stride).1 (omega (arith, low, stride, next)) in
        omega (arith, less)

    each : (clients : List (List Operation)) → AllByRecursion (λ (ops : List Operation). length ops ≤ rounds * W.settings.stride) clients
        → AllByRecursion (λ m. m ≤ rounds) (map (λ (ops : List Operation). rounds_for W.settings.stride (length ops)) clients)
    each [] all = tt
    each (ops ∷ clients) all = (few (length ops) all.0, each clients all.1)

-- ---- places

-- the node and the number of the client at a place
pub record NodeClient (W : PlainWorkload) (place : ℕ) : Type 0 where
  pub node : ℕ
  pub client : ℕ
  pub low : node < W.settings.nodes
  pub few : client < W.settings.clients
  pub place_is : place ≡ place_of W.settings.clients node client

pub node_client : (W : PlainWorkload) → IsValid W → (place : ℕ) (ops : List Operation) → slice_get W.clients place ≡ Some ops → NodeClient W place
node_client W valid place ops h =
    let count = valid.count in
    let within = slice_get_within W.clients place ops h in
    let some = (valid.head settings.Clients).0 in
    let positive : 0 < W.settings.clients = omega (arith, some) in
    let below : place < W.settings.nodes * W.settings.clients = omega (arith, within, count) in
    let less = (div-lt_iff_lt-mul {k = W.settings.clients} {x = place} {y = W.settings.nodes} positive).1 below in
    record { node = place / W.settings.clients; client = place % W.settings.clients; low = less; few = mod-lt place positive; place_is = let parts = mod-eq-sub-div-mul place W.settings.clients in let below = div-mul-le_self place W.settings.clients in omega (arith, parts, below) }
