-- The asks that wait in a node's inbox, and what becomes of a message that is delivered there.
use Rattle.std.specs.Prelude.{◌≡◌, ℕ, ◌<◌, ◌≤◌, true, List, [], ◌∷◌, ◌++◌, length}
use Rattle.hs_base.specs.Rules.{is_declared}
use Rattle.hs_base.specs.declared.ids.NodeId.{NodeId}
use Rattle.hs_base.specs.declared.settings.TriggerRule.{TriggerRule}
use Rattle.hs_base.specs.declared.told.Ask.{Ask}
use Rattle.hs_wire.specs.Messages.{PlainMessage, IsMessage, SaysAsk, message_bytes}
use Rattle.hs_inbox.specs.declared.inbox.AskDelivered.{AskDelivered}
use Rattle.hs_inbox.specs.declared.inbox.AskDelivered.TheVariants.{Taken, Full, Refused}

pub record PlainInbox : Type 0 where
  pub node : NodeId
  pub rules : List TriggerRule
  -- the oldest first
  pub asks : List Ask
  -- how many may wait
  pub places : ℕ

-- one in which none waits
abbrev pub no_asks : NodeId → List TriggerRule → ℕ → PlainInbox
no_asks node rules places = record { node = node; rules = rules; asks = []; places = places }

-- Bytes spell an ask of this node for a declared trigger id.
pub record IsAskFor (node : NodeId) (rules : List TriggerRule) (bytes : List ℕ) (ask : Ask) : Type 0 where
  pub message : PlainMessage
  pub is : IsMessage message
  pub spells : message_bytes message ≡ bytes
  pub says : message.said ≡ SaysAsk ask
  pub to : message.head.node.0 ≡ node.0
  pub declared : is_declared rules ask.group.trigger ≡ true

abbrev pub with_ask : PlainInbox → Ask → PlainInbox
with_ask inbox ask = record inbox { asks = inbox.asks ++ ask ∷ [] }

-- Each answer comes just where this holds.
abbrev pub Delivers : PlainInbox → List ℕ → AskDelivered → PlainInbox → Type 0
Delivers old bytes Taken new = (ask : Ask) × IsAskFor old.node old.rules bytes ask × (length old.asks < old.places) × (new ≡ with_ask old ask)
Delivers old bytes Full new = (ask : Ask) × IsAskFor old.node old.rules bytes ask × (old.places ≤ length old.asks) × (new ≡ old)
Delivers old bytes Refused new = ((ask : Ask) → IsAskFor old.node old.rules bytes ask → ⊥) × (new ≡ old)
