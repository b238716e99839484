-- The scripts of the clients of a workload, and the records that they have.
use Rattle.std.specs.Prelude.{◌≡◌, ℕ, List, length, Some, slice_get}
use Rattle.std.specs.List.{flat_map, range_with_len}
use Rattle.hs_law_outcome.specs.Outcomes.{client_at}
use Rattle.hs_records.specs.Plain.{PlainWorkload}
use Rattle.hs_compare.specs.Coming.{Coming, comings_of}
use Rattle.hs_client.specs.Sending.{operations_at}
use Rattle.hs_compare.specs.declared.script.Script.{Script}
use Rattle.hs_compare.specs.Scripts.{IsClientScript}

-- One script for each client, in their order.
pub record AreScripts (W : PlainWorkload) (scripts : List Script) : Type 0 where
  pub count : length scripts ≡ length W.clients
  pub each : (place : ℕ) (script : Script) → slice_get scripts place ≡ Some script → IsClientScript W.settings.autos (client_at W.settings.clients place) (operations_at W place) script

-- The first so many clients have a script.
pub record AreFirstScripts (W : PlainWorkload) (count : ℕ) (scripts : List Script) : Type 0 where
  pub many : length scripts ≡ count
  pub each : (place : ℕ) (script : Script) → slice_get scripts place ≡ Some script → IsClientScript W.settings.autos (client_at W.settings.clients place) (operations_at W place) script

-- the records of the first so many clients
abbrev pub first_comings : PlainWorkload → ℕ → List Coming
first_comings W count = flat_map (λ place. comings_of (client_at W.settings.clients place) (operations_at W place)) (range_with_len 0 count)
