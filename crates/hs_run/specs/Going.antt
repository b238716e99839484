-- What is asked of the clients of a node, which go at once, each in its own operations, and what each comes to.
use Rattle.std.specs.Prelude.{◌≡◌, ℕ, List, length, slice_get, Some}
use Rattle.hs_base.specs.Listing.{Listing}
use Rattle.hs_base.specs.declared.ids.ClientId.{ClientId}
use Rattle.hs_records.specs.Plain.{PlainSettings}
use Rattle.hs_records.specs.declared.operation.Op.{Op}
use Rattle.hs_records.specs.Views.{operations_of}
use Rattle.hs_run_actors.specs.ClientActors.{PlainClientActor}
use Rattle.hs_run_actors.specs.Standing.{ClientActorIsAt, Goes}

-- The client is somewhere in the operations with its number.
abbrev pub MayGo : PlainSettings → List (Listing Op) → ℕ → PlainClientActor → Type 0
MayGo settings lists number caller = (ops : Listing Op) → slice_get lists number ≡ Some ops → (client : ClientId) × ClientActorIsAt settings client (operations_of ops) caller

-- The client went on in the operations with its number.
abbrev pub HasGone : PlainSettings → List (Listing Op) → ℕ → PlainClientActor → PlainClientActor → Type 0
HasGone settings lists number old new = (ops : Listing Op) → slice_get lists number ≡ Some ops → Goes settings (operations_of ops) old new

pub record AllMayGo (settings : PlainSettings) (lists : List (Listing Op)) (callers : List PlainClientActor) : Type 0 where
  pub count : length callers ≡ length lists
  pub each : (number : ℕ) (caller : PlainClientActor) → slice_get callers number ≡ Some caller → MayGo settings lists number caller

pub record AllHaveGone (settings : PlainSettings) (lists : List (Listing Op)) (old new : List PlainClientActor) : Type 0 where
  pub count : length new ≡ length old
  pub each : (number : ℕ) (caller caller' : PlainClientActor) → slice_get old number ≡ Some caller → slice_get new number ≡ Some caller' → HasGone settings lists number caller caller'
