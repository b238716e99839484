-- Each client of a workload ends its traces, and a client of a node in a valid workload has a place in the list.
use Rattle.std.proofs.Common.{ℕ, zero, suc, ◌<◌, false, List, [], ◌∷◌, length, refl, arith, slice_get, unwrap_or}
use Rattle.hs_law_journal.proofs.Prelude.{AllByRecursion, Operation, PlainWorkload, IsValid, place_of}
use Rattle.hs_records.specs.Records.{AreBracketed}
use Rattle.hs_records.proofs.Sizes.{last_low}

pub ends_at : (clients : List (List Operation)) (place : ℕ) → AllByRecursion (AreBracketed false) clients → AreBracketed false (unwrap_or (slice_get clients place) [])
ends_at [] place all = refl
ends_at (ops ∷ clients) zero all = all.0
ends_at (ops ∷ clients) (suc place) all = ends_at clients place all.1

pub place_low : (W : PlainWorkload) → IsValid W → (node client : ℕ) → node < W.settings.nodes → client < W.settings.clients → place_of W.settings.clients node client < length W.clients
place_low W valid node client low few = let last = last_low W valid node low in omega (arith, last, few)
