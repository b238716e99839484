-- The front of a list, and what a client has sent to its node's agent.
use Rattle.std.specs.Prelude.{◌≡◌, ℕ, List, [], ◌∷◌, ◌++◌, slice_get, refl}
use Rattle.std.specs.Option.{option_map_or}
use Rattle.hs_client.specs.OneMore.{items_of}
use Rattle.hs_client.specs.Sending.{Sent, ClientSends}
use Rattle.hs_law_journal.specs.Following.{NodeRun}

pub record IsFront {A : Type 0} (front whole : List A) : Type 0 where
  pub more : List A
  pub is : whole ≡ front ++ more

-- the items of one kind that a client of a node sends, by its number
abbrev pub sent_by : {A : Type 0} → (ClientSends → List (Sent A)) → NodeRun → ℕ → List A
sent_by part run client = option_map_or (λ (sends : ClientSends). items_of (part sends)) (slice_get run.sends client) []

-- ---- examples

first_two : IsFront {A = ℕ} (1 ∷ 2 ∷ []) (1 ∷ 2 ∷ 3 ∷ [])
first_two = record { more = 3 ∷ []; is = refl }

none_of_all : IsFront {A = ℕ} [] (1 ∷ [])
none_of_all = record { more = 1 ∷ []; is = refl }
