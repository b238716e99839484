-- How the clients of a node are opened by the text of a service's settings, and handed out.
use Rattle.std.specs.Prelude.{◌≡◌, ◌⊎◌, ℕ, List, [], ◌∷◌, ◌++◌, map, Some, Ok, Err}
use Rattle.hs_node_client.specs.declared.limits.ClientLimits.{ClientLimits}
use Rattle.hs_node_client.specs.declared.limits.MakeFault.{MakeFault}
use Rattle.hs_node_client.specs.declared.limits.MakeFault.TheVariants as faults
use Rattle.hs_node_client.specs.declared.making.Made.{Made}
use Rattle.hs_node_client.specs.Clients.{PlainNodeClient}
use Rattle.hs_node_client.specs.Fitting.{HasFault}
use Rattle.hs_node_client.specs.Making.{AreMade, rules_by}
use Rattle.hs_settings.specs.Faults.{reading_of}
use Rattle.hs_settings.specs.Settings.{PlainService}
use Rattle.hs_settings.specs.declared.refusal.SettingsFault.{SettingsFault}
use Rattle.hs_settings.specs.declared.refusal.SettingsFault.TheVariants as stops
use Rattle.hs_settings.specs.declared.refusal.SettingsReason.{SettingsReason}
use Rattle.hs_settings.specs.declared.refusal.SettingsReason.TheVariants as reasons
use Rattle.hs_c.specs.declared.cells.ClientCell.{ClientCell}
use Rattle.hs_c.specs.declared.cells.PortCell.{PortCell}
use Rattle.hs_c.specs.declared.handles.HindClient.{HindClient}
use Rattle.hs_c.specs.declared.handles.HindFault.{HindFault}
use Rattle.hs_c.specs.declared.handles.HindPort.{HindPort}
use Rattle.hs_c.specs.declared.opening.TheConstants.{CALLS}

-- The port's handle is in use, and this stands behind it.
pub record HoldsPort (handle : HindPort) (cell : PortCell) : Type 0 where
  pub live : handle.live ≡ 1
  pub held : handle.slot.held ≡ Some cell

-- what the clients of a node are made with by settings
abbrev pub limits_in : PlainService → ℕ → ClientLimits
limits_in s node =
    record { node = node; clients = s.clients; buffers = s.buffers; size = s.size; backlog = s.backlog; notes = s.backlog; calls = CALLS }

-- the clients that a port has not handed out
abbrev pub left_in : PortCell → List PlainNodeClient
left_in cell = map (λ boxed. boxed.value.client) cell.left.items

-- Behind the port stand the clients that were made, all of which are left, and their port.
pub record Fills (made : Made) (port : HindPort) : Type 0 where
  pub cell : PortCell
  pub live : port.live ≡ 1
  pub held : port.slot.held ≡ Some cell
  pub port_is : cell.port ≡ made.port
  pub late : cell.late ≡ made.late
  pub notes : cell.notes ≡ made.segments
  pub left : left_in cell ≡ made.clients.items

-- The text reads as settings, and behind the port stand the clients that are made by them for this node.
pub record Opens (text : List ℕ) (node : ℕ) (port : HindPort) : Type 0 where
  pub settings : PlainService
  pub read : reading_of text ≡ Ok settings
  pub made : Made
  pub by_settings : AreMade (limits_in settings node) (rules_by settings.autos settings.triggers settings.nodes) made
  pub fills : Fills made port

-- the number of a reason
abbrev pub reason_number : SettingsReason → ℕ
reason_number reasons.Truncated = 1
reason_number reasons.Byte = 2
reason_number reasons.Spaces = 3
reason_number reasons.Word = 4
reason_number reasons.Twice = 5
reason_number reasons.Count = 6
reason_number reasons.Number = 7
reason_number reasons.Range = 8
reason_number reasons.Order = 9
reason_number reasons.Unknown = 10

-- The text is refused, for this line and this reason.
abbrev pub IsRefused : List ℕ → HindFault → Type 0
IsRefused text fault = ((reading_of text ≡ Err stops.NoRoom) × (fault.line ≡ 0) × (fault.reason ≡ 11)) ⊎
    ((refusal : _) × (reading_of text ≡ Err (stops.Refused refusal)) × (fault.line ≡ refusal.line) × (fault.reason ≡ reason_number refusal.reason))

-- The text reads as settings, but by them clients of this node cannot be made.
abbrev pub IsUnfit : List ℕ → ℕ → Type 0
IsUnfit text node =
    (settings : PlainService) × (fault : MakeFault) × (reading_of text ≡ Ok settings) × (fault ≡ faults.Memory → ⊥)
    × HasFault (limits_in settings node) settings.autos settings.triggers settings.nodes fault

-- The next client of the port goes to the handle, and the port keeps the others.
pub record HandsOut (cell : PortCell) (port : HindPort) (client : HindClient) : Type 0 where
  pub next : PlainNodeClient
  pub others : PortCell
  pub live : client.live ≡ 1
  pub held : client.slot.held ≡ Some (record { client = next })
  pub port_live : port.live ≡ 1
  pub port_held : port.slot.held ≡ Some others
  pub left : left_in cell ≡ left_in others ++ next ∷ []
  pub only : others ≡ record cell { left = others.left }
