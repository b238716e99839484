-- The parts of the nodes before anything was performed.
use Rattle.std.specs.Prelude.{◌≡◌, ℕ, List, [], length, slice_get, Some}
use Rattle.hs_base.specs.Listing.{Listing}
use Rattle.hs_base.specs.declared.told.Ask.{Ask}
use Rattle.hs_coord.specs.Kept.{HasTaken}
use Rattle.hs_check_follow.specs.declared.coordinator.FollowedCoordinator.{FollowedCoordinator}

-- There are so many items, and each is what its place says.
pub record AreFirst {A : Type 0} (Is : ℕ → A → Type 0) (count : ℕ) (items : List A) : Type 0 where
  pub many : length items ≡ count
  pub each : (n : ℕ) (item : A) → slice_get items n ≡ Some item → Is n item

-- These are empty lists of asks, one for each node.
abbrev pub AreNoAsks : (nodes : ℕ) → List (Listing Ask) → Type 0
AreNoAsks nodes lists = AreFirst (λ (n : ℕ) (list : Listing Ask). list.items ≡ []) nodes lists

-- These are counts of 0, one for each node.
abbrev pub AreNoCounts : (nodes : ℕ) → List ℕ → Type 0
AreNoCounts nodes counts = AreFirst (λ (n count : ℕ). count ≡ 0) nodes counts

-- The coordinator has heard nothing of so many nodes, and asked nothing.
pub record IsNewFollowedCoordinator (nodes : ℕ) (h : FollowedCoordinator) : Type 0 where
  pub taken : HasTaken h.coordinator []
  pub nodes_are : h.coordinator.nodes ≡ nodes
  pub asks : AreNoAsks nodes h.asks.items
  pub counts : AreNoCounts nodes h.counts.items
  pub next : h.next ≡ 0
  pub asked : h.asked.items ≡ []
