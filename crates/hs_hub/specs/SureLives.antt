-- What it means that a trace is called whole, in words of the calls that a hub has had: what is out is the trace's first part, and when its
-- first message came, each node that a group which claims it reached was in a life that was heard as long before as the age says.
use Rattle.std.specs.Prelude.{◌≡◌, ◌≤◌, ◌<◌, ◌⊎◌, ℕ, true, List, ◌∷◌, ◌++◌, slice_get, Some}
use Rattle.hs_base.specs.declared.ids.TraceId.{TraceId}
use Rattle.hs_base.specs.NodeSets.{nodes_of}
use Rattle.hs_groups.specs.declared.followed_group.FollowedGroup.{FollowedGroup}
use Rattle.hs_groups.specs.Groups.{latest_of}
use Rattle.hs_saved.specs.Saved.{parts_of}
use Rattle.hs_verdict.specs.Verdict.{claims}
use Rattle.hs_hub.specs.Hub.{PlainHub, birth_of}
use Rattle.hs_hub.specs.Life.{HubAct, after, life}

-- the latest epoch that was heard of a node, 0 where none was
abbrev pub latest_at : PlainHub → ℕ → ℕ
latest_at h node = latest_of h.groups (record { 0 = node })

-- among these calls is the one in which the node's latest life was heard first; by that call it is sure from this pass on
pub record IsHeard (h : PlainHub) (acts : List HubAct) (node birth : ℕ) : Type 0 where
  pub before : List HubAct
  pub act : HubAct
  pub later : List HubAct
  pub split : acts ≡ before ++ act ∷ later
  pub newer : latest_at (life h before) node < latest_at (after (life h before) act) node
  pub latest : latest_at (after (life h before) act) node ≡ latest_at (life h acts) node
  pub sure : birth ≡ birth_of (life h before) (record { 0 = node })

-- no newer life of the node was heard in these calls; it was sure from this pass on before them
pub record IsUnheard (h : PlainHub) (acts : List HubAct) (node birth : ℕ) : Type 0 where
  pub latest : latest_at (life h acts) node ≡ latest_at h node
  pub sure : slice_get h.births node ≡ Some birth

-- the node was sure when the first message came that waited for what is out
abbrev pub IsSureIn : PlainHub → List HubAct → ℕ → Type 0
IsSureIn h acts node = (birth : ℕ) × (birth ≤ (life h acts).out_since) × (IsHeard h acts node birth ⊎ IsUnheard h acts node birth)

pub record IsOfSureLives (h : PlainHub) (acts : List HubAct) (trace : TraceId) : Type 0 where
  -- no part of the trace is known to have been saved before
  pub first : parts_of (life h acts).saved trace ≡ 0
  -- each node that a group which claims it reached was sure
  pub sure : (place : ℕ) (followed : FollowedGroup) → slice_get (life h acts).groups.groups place ≡ Some followed → claims trace followed ≡ true
      → (at node : ℕ) → slice_get (nodes_of followed.asked) at ≡ Some node → IsSureIn h acts node
