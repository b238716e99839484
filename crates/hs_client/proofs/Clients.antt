-- The clients of a valid workload.
use Rattle.std.proofs.Common.{ℕ, zero, suc, ◌<◌, ◌≤◌, List, [], ◌∷◌, length, arith}
use Rattle.hs_client.proofs.Prelude.{slice_get, AllByRecursion, Operation}
use Rattle.std.specs.Prelude.{unwrap_or}
use Rattle.hs_base.specs.declared.limits.TheConstants.{MAX_OPERATIONS}
use Rattle.hs_records.specs.Plain.{PlainSettings, PlainWorkload}
use Rattle.hs_client.specs.Sending.{operations_at}
use Rattle.hs_records.specs.declared.setting.Setting.TheVariants as words
use Rattle.hs_records.specs.Validity.{IsValid, IsClient, client_pieces, workload_pieces}
use Rattle.hs_client.specs.Playable.{IsPlayable}

record IsOne (version : ℕ) (settings : PlainSettings) (most : ℕ) (ops : List Operation) : Type 0 where
  client : IsClient version settings ops
  few : client_pieces settings.size ops ≤ most

one_of : (version : ℕ) (settings : PlainSettings) (most : ℕ) (clients : List (List Operation)) (place : ℕ) → AllByRecursion (IsClient version settings) clients → workload_pieces settings.size clients ≤ most → place < length clients
    → IsOne version settings most (unwrap_or (slice_get clients place) [])
one_of version settings most [] place each few within = absurd (omega (arith, within))
one_of version settings most (ops ∷ clients) zero each few within = record { client = each.0; few = omega (arith, few) }
one_of version settings most (ops ∷ clients) (suc place) each few within = one_of version settings most clients place each.1 (omega (arith, few)) (omega (arith, within))

pub may_be_played : (W : PlainWorkload) → IsValid W → (place : ℕ) → place < length W.clients → IsPlayable W.settings (operations_at W place)
may_be_played W valid place within =
    let one = one_of W.version W.settings MAX_OPERATIONS W.clients place valid.each valid.few within in
    record {
      version = W.version;
      client = one.client;
      least = (valid.head words.Size).0;
      most = (valid.head words.Size).1;
      autos = valid.autos;
      few = one.few;
    }
