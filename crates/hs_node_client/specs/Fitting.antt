-- By which limits and rules clients can be made, and what fault stands for which of these.
use Rattle.std.specs.Prelude.{◌≡◌, ℕ, ◌<◌, ◌≤◌, true, List, All}
use Rattle.hs_base.specs.Rules.{IsAutoRule, fired_by, is_declared}
use Rattle.hs_base.specs.declared.limits.TheConstants.{MIN_SIZE, MAX_SIZE, MOST_BUFFERS, MOST_CLIENTS, MOST_NODES}
use Rattle.hs_base.specs.declared.settings.AutoRule.{AutoRule}
use Rattle.hs_base.specs.declared.settings.TriggerRule.{TriggerRule}
use Rattle.hs_node_client.specs.declared.limits.ClientLimits.{ClientLimits}
use Rattle.hs_node_client.specs.declared.limits.MakeFault.{MakeFault}
use Rattle.hs_node_client.specs.declared.limits.MakeFault.TheVariants as fault
use Rattle.hs_node_client.specs.declared.limits.TheConstants.{MIN_CALLS, MAX_BACKLOG}

-- it is one of so many nodes
abbrev pub IsNodeOf : ℕ → ℕ → Type 0
IsNodeOf nodes node = (nodes ≤ MOST_NODES) × (node < nodes)

abbrev pub AreClients : ℕ → Type 0
AreClients clients = (1 ≤ clients) × (clients ≤ MOST_CLIENTS)

abbrev pub AreBuffers : ℕ → Type 0
AreBuffers buffers = (1 ≤ buffers) × (buffers ≤ MOST_BUFFERS)

abbrev pub IsSize : ℕ → Type 0
IsSize size = (MIN_SIZE ≤ size) × (size ≤ MAX_SIZE)

abbrev pub IsBacklog : ℕ → Type 0
IsBacklog places = (1 ≤ places) × (places ≤ MAX_BACKLOG)

-- an autotrigger within its limits, of a declared id
abbrev pub IsFitAuto : List TriggerRule → AutoRule → Type 0
IsFitAuto rules auto = IsAutoRule auto × (is_declared rules (fired_by auto) ≡ true)

pub record AreSizes (limits : ClientLimits) : Type 0 where
  pub clients : AreClients limits.clients
  pub buffers : AreBuffers limits.buffers
  pub size : IsSize limits.size
  pub backlog : IsBacklog limits.backlog × IsBacklog limits.notes
  pub calls : MIN_CALLS ≤ limits.calls

pub record AreFit (limits : ClientLimits) (autos : List AutoRule) (rules : List TriggerRule) (nodes : ℕ) : Type 0 where
  pub node : IsNodeOf nodes limits.node
  pub sizes : AreSizes limits
  pub autos_are : All (IsFitAuto rules) autos

-- what a fault says that the sizes are not; the others are of none of these
abbrev pub HasSizeFault : ClientLimits → MakeFault → Type 0
HasSizeFault limits fault.Memory = ⊥
HasSizeFault limits fault.Node = ⊥
HasSizeFault limits fault.Clients = AreClients limits.clients → ⊥
HasSizeFault limits fault.Buffers = AreBuffers limits.buffers → ⊥
HasSizeFault limits fault.Size = IsSize limits.size → ⊥
HasSizeFault limits fault.Backlog = IsBacklog limits.backlog × IsBacklog limits.notes → ⊥
HasSizeFault limits fault.Calls = MIN_CALLS ≤ limits.calls → ⊥
HasSizeFault limits fault.Autos = ⊥

-- what a fault says that limits and rules are not; want of memory says nothing of them
abbrev pub HasFault : ClientLimits → List AutoRule → List TriggerRule → ℕ → MakeFault → Type 0
HasFault limits autos rules nodes fault.Memory = AreFit limits autos rules nodes
HasFault limits autos rules nodes fault.Node = IsNodeOf nodes limits.node → ⊥
HasFault limits autos rules nodes fault.Clients = AreClients limits.clients → ⊥
HasFault limits autos rules nodes fault.Buffers = AreBuffers limits.buffers → ⊥
HasFault limits autos rules nodes fault.Size = IsSize limits.size → ⊥
HasFault limits autos rules nodes fault.Backlog = IsBacklog limits.backlog × IsBacklog limits.notes → ⊥
HasFault limits autos rules nodes fault.Calls = MIN_CALLS ≤ limits.calls → ⊥
HasFault limits autos rules nodes fault.Autos = All (IsFitAuto rules) autos → ⊥
