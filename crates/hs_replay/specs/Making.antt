-- A node of a valid workload before anything was done.
use Rattle.std.specs.Prelude.{◌≡◌, ℕ, ◌<◌, List, [], length, slice_get, Some}
use Rattle.hs_base.specs.Listing.{Listing}
use Rattle.hs_base.specs.declared.settings.Settings.{Settings}
use Rattle.hs_law_run.specs.Lockstep.{machine_start}
use Rattle.hs_replay_client.specs.Places.{ReplayClientIsAt}
use Rattle.hs_replay_client.specs.ReplayClients.{PlainReplayClient}
use Rattle.hs_records.specs.Plain.{PlainWorkload}
use Rattle.hs_client.specs.Sending.{operations_at, place_of}
use Rattle.hs_records.specs.declared.operation.Op.{Op}
use Rattle.hs_records.specs.Validity.{IsValid}
use Rattle.hs_replay.specs.Going.{AreOf}
use Rattle.hs_replay.specs.Parts.{PlainReplayNode}
use Rattle.hs_replay.specs.Standing.{NodeIsAt}

-- The workload is valid and has this node, and these are its settings and the operations of the node's clients.
pub record IsNewNode (W : PlainWorkload) (n : ℕ) (settings : Settings) (clients : List (Listing Op)) : Type 0 where
  pub valid : IsValid W
  pub low : n < W.settings.nodes
  pub are : AreOf W n settings clients

-- These are the first so many clients of the node, which have done nothing.
pub record AreNew (W : PlainWorkload) (n count : ℕ) (players : List PlainReplayClient) : Type 0 where
  pub many : length players ≡ count
  pub each : (client : ℕ) (player : PlainReplayClient) → slice_get players client ≡ Some player
      → ReplayClientIsAt W.settings (record { node = n; number = client }) (operations_at W (place_of W.settings.clients n client)) [] 0 0 0 0 player

-- These are the first so many nodes of a workload, where nothing was done.
pub record AreMade (W : PlainWorkload) (count : ℕ) (nodes : List PlainReplayNode) : Type 0 where
  pub many : length nodes ≡ count
  pub each : (n : ℕ) (node : PlainReplayNode) → slice_get nodes n ≡ Some node → NodeIsAt W (machine_start W) n node
