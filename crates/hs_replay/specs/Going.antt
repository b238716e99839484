-- What is asked of the clients of a node, which go one after another, and what they come to.
use Rattle.std.specs.Prelude.{◌≡◌, ℕ, ◌*◌, ◌<◌, List, map, length, fold, slice_get, Some}
use Rattle.std.specs.List.{range_with_len}
use Rattle.hs_base.specs.Listing.{Listing}
use Rattle.hs_base.specs.declared.settings.Settings.{Settings}
use Rattle.hs_law_run.specs.Lockstep.{Machine, client_goes}
use Rattle.hs_records.specs.Plain.{PlainWorkload, settings_of}
use Rattle.hs_client.specs.Sending.{operations_at, place_of}
use Rattle.hs_records.specs.declared.operation.Op.{Op}
use Rattle.hs_records.specs.Views.{operation_of, operations_of}

-- the machine when the first so many clients of a node went
abbrev pub node_goes : PlainWorkload → Machine → ℕ → ℕ → Machine
node_goes W m n count = fold (client_goes W) m (range_with_len (n * W.settings.clients) count)

-- The settings are those of the workload, and these are the operations of the clients of a node.
pub record AreOf (W : PlainWorkload) (n : ℕ) (settings : Settings) (clients : List (Listing Op)) : Type 0 where
  pub settings_are : settings_of settings ≡ W.settings
  pub count : length clients ≡ W.settings.clients
  pub each : (client : ℕ) (ops : Listing Op) → slice_get clients client ≡ Some ops → operations_of ops ≡ operations_at W (place_of W.settings.clients n client)

-- The settings are those of the workload, and these are the operations of a client of a node.
pub record IsOneOf (W : PlainWorkload) (n client : ℕ) (settings : Settings) (ops : List Op) : Type 0 where
  pub settings_are : settings_of settings ≡ W.settings
  pub low : client < W.settings.clients
  pub ops_are : map operation_of ops ≡ operations_at W (place_of W.settings.clients n client)
