-- What a call does to the node behind a handle of C.
use Rattle.std.specs.Prelude.{◌≡◌, ◌++◌, ◌∷◌, [], ℕ, Bool, true, false, List, length, map, drop, nat_lt, Option, Some, None, Ok, Err, Result}
use Rattle.hs_settings.specs.Settings.{PlainService}
use Rattle.hs_settings.specs.Faults.{reading_of}
use Rattle.hs_outbox.specs.Queue.{Pending}
use Rattle.hs_mail.specs.declared.mail.Unposted.{Unposted}
use Rattle.hs_mail.specs.declared.mail.Unposted.TheVariants as unposted
use Rattle.hs_inbox.specs.declared.inbox.AskDelivered.{AskDelivered}
use Rattle.hs_inbox.specs.declared.inbox.AskDelivered.TheVariants as delivered
use Rattle.hs_node_client.specs.declared.limits.MakeFault.{MakeFault}
use Rattle.hs_node_client.specs.declared.limits.MakeFault.TheVariants as faults
use Rattle.hs_node_client.specs.Clients.{PlainNodeClient}
use Rattle.hs_node_client.specs.Fitting.{HasFault}
use Rattle.hs_node.specs.declared.making.MadeNode.{MadeNode}
use Rattle.hs_node.specs.declared.pass.Passed.{Passed}
use Rattle.hs_node.specs.declared.pass.Passed.TheVariants as passed
use Rattle.hs_node.specs.Made.{IsMade, limits_of}
use Rattle.hs_node.specs.Nodes.{PlainNode}
use Rattle.hs_c.specs.declared.cells.ClientCell.{ClientCell}
use Rattle.hs_c.specs.declared.cells.NodeCell.{NodeCell}
use Rattle.hs_c.specs.declared.handles.HindClient.{HindClient}
use Rattle.hs_c.specs.declared.handles.HindNode.{HindNode}
use Rattle.hs_c.specs.declared.codes.TheConstants.{DONE, VACANT, NOTHING, SHORT}

-- The handle is in use, and this stands behind it.
pub record HoldsNode (handle : HindNode) (cell : NodeCell) : Type 0 where
  pub live : handle.live ≡ 1
  pub held : handle.slot.held ≡ Some cell

-- A handle that is not in use answers so, and stays as it is.
abbrev pub IsIdleNode : HindNode → ℕ → HindNode → Type 0
IsIdleNode old code new = (old.live ≡ 1 → ⊥) → (code ≡ VACANT) × (new ≡ old)

-- The node behind the handle does this, with this code. The same handle holds what it is then, and the same clients.
abbrev pub DoesNode : (PlainNode → ℕ → PlainNode → Type 0) → HindNode → ℕ → HindNode → Type 0
DoesNode does old code new = (cell : NodeCell) → HoldsNode old cell → (after : NodeCell) × HoldsNode new after × (after.left ≡ cell.left) × does cell.node code after.node

-- ---- how it is made

-- the clients that were not handed out
abbrev pub left_of : NodeCell → List PlainNodeClient
left_of cell = map (λ boxed. boxed.value.client) cell.left.items

-- Behind the handle stands the node that was made, with all its clients.
pub record FillsNode (made : MadeNode) (node : HindNode) : Type 0 where
  pub cell : NodeCell
  pub holds : HoldsNode node cell
  pub node_is : cell.node ≡ made.node
  pub left : left_of cell ≡ made.clients.items

-- The text reads as settings, and behind the handle stands the node that is made by them.
pub record OpensNode (text : List ℕ) (number epoch : ℕ) (node : HindNode) : Type 0 where
  pub made : MadeNode
  pub by_settings : IsMade text number epoch made
  pub fills : FillsNode made node

-- The text reads as settings, but by them clients of this node cannot be made.
abbrev pub IsUnfitNode : List ℕ → ℕ → Type 0
IsUnfitNode text number =
    (settings : PlainService) × (why : MakeFault) × (reading_of text ≡ Ok settings) × (why ≡ faults.Memory → ⊥)
    × HasFault (limits_of settings number) settings.autos settings.triggers settings.nodes why

-- The next client goes to the handle, and the node keeps the others.
pub record HandsOutTo (cell : NodeCell) (node : HindNode) (client : HindClient) : Type 0 where
  pub next : PlainNodeClient
  pub others : NodeCell
  pub live : client.live ≡ 1
  pub held : client.slot.held ≡ Some (record { client = next })
  pub holds : HoldsNode node others
  pub left : left_of cell ≡ left_of others ++ next ∷ []
  pub only : others ≡ record cell { left = others.left }

-- ---- codes

abbrev pub passed_code : Passed → ℕ
passed_code passed.Done = 0
passed_code passed.Spent = 11

abbrev pub flag_code : Bool → ℕ
flag_code true = 0
flag_code false = 12

abbrev pub asked_code : AskDelivered → ℕ
asked_code delivered.Taken = 0
asked_code delivered.Full = 9
asked_code delivered.Refused = 13

abbrev pub posted_code : Result ℕ Unposted → ℕ
posted_code (Ok number) = 0
posted_code (Err unposted.Full) = 9
posted_code (Err unposted.TooLong) = 5
posted_code (Err unposted.NoSpelling) = 5
posted_code (Err unposted.Ended) = 11

-- ---- messages

-- A message is copied, with its number and length; or it is too long for this room, and its length is written.
abbrev pub ShowsMessage : (is_long : Bool) → Pending → (number : ℕ) (out : List ℕ) (new_number : ℕ) (new_out : List ℕ) (new_len : ℕ) → ℕ → Type 0
ShowsMessage true pending number out new_number new_out new_len code = (code ≡ SHORT) × ((new_number ≡ number) × ((new_out ≡ out) × (new_len ≡ length pending.bytes)))
ShowsMessage false pending number out new_number new_out new_len code =
    (code ≡ DONE) × ((new_number ≡ pending.number) × ((new_out ≡ pending.bytes ++ drop (length pending.bytes) out) × (new_len ≡ length pending.bytes)))

-- That of the next message, or there is none.
abbrev pub ShowsNext : Option Pending → (number : ℕ) (out : List ℕ) (len : ℕ) (new_number : ℕ) (new_out : List ℕ) (new_len : ℕ) → ℕ → Type 0
ShowsNext None number out len new_number new_out new_len code = (code ≡ NOTHING) × ((new_number ≡ number) × ((new_out ≡ out) × (new_len ≡ len)))
ShowsNext (Some pending) number out len new_number new_out new_len code = ShowsMessage (nat_lt (length out) (length pending.bytes)) pending number out new_number new_out new_len code
