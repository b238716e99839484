-- What is left to do at a node.
use Rattle.std.specs.Prelude.{◌≡◌, ℕ, ◌<◌, Bool, true, false, List, length, zip, slice_get, Some}
use Rattle.std.specs.List.{range_with_len, list_all}
use Rattle.hs_base.specs.Listing.{Listing}
use Rattle.hs_law_journal.specs.Ends.{took_all}
use Rattle.hs_law_journal.specs.Following.{NodeRun}
use Rattle.hs_law_run.specs.Lockstep.{Machine, done_at}
use Rattle.hs_records.specs.Plain.{PlainWorkload}
use Rattle.hs_client.specs.Sending.{ClientSends, operations_at, place_of}
use Rattle.hs_records.specs.declared.operation.Op.{Op}
use Rattle.hs_records.specs.Views.{operations_of}

-- These are the operations of the clients of a node.
pub record HasClients (W : PlainWorkload) (n : ℕ) (clients : List (Listing Op)) : Type 0 where
  pub count : length clients ≡ W.settings.clients
  pub each : (client : ℕ) (ops : Listing Op) → slice_get clients client ≡ Some ops → operations_of ops ≡ operations_at W (place_of W.settings.clients n client)

-- how many operations the client of a node has done, and how many it has
abbrev pub done_of : PlainWorkload → Machine → ℕ → ℕ → ℕ
done_of W m n client = done_at m (place_of W.settings.clients n client)

abbrev pub all_of : PlainWorkload → ℕ → ℕ → ℕ
all_of W n client = length (operations_at W (place_of W.settings.clients n client))

-- All clients of the node have done all of their operations.
abbrev pub IsNodeDone : PlainWorkload → Machine → ℕ → Type 0
IsNodeDone W m n = (client : ℕ) → client < W.settings.clients → done_of W m n client ≡ all_of W n client

-- A client of the node has operations left, or none has.
abbrev pub TellsNodeLeft : PlainWorkload → Machine → ℕ → Bool → Type 0
TellsNodeLeft W m n true = (client : ℕ) × (client < W.settings.clients) × (done_of W m n client < all_of W n client)
TellsNodeLeft W m n false = IsNodeDone W m n

-- whether the agent took all that the clients of its node sent
abbrev pub are_clients_bare : NodeRun → Bool
are_clients_bare run = list_all (λ (c : ℕ × ClientSends). took_all run.state.log c.0 c.1) (zip (range_with_len 0 (length run.sends)) run.sends)
