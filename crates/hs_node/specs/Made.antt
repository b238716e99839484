-- A node as it was made by the settings of a service: its agent has taken nothing, nothing was said, claimed or heard.
use Rattle.std.specs.Prelude.{◌≡◌, ℕ, ◌+◌, List, Ok}
use Rattle.hs_records.specs.Plain.{PlainSettings}
use Rattle.hs_settings.specs.Settings.{PlainService}
use Rattle.hs_settings.specs.Faults.{reading_of, Refuses}
use Rattle.hs_mail.specs.Letters.{no_letters}
use Rattle.hs_node_client.specs.declared.limits.ClientLimits.{ClientLimits}
use Rattle.hs_node_client.specs.Fitting.{HasFault}
use Rattle.hs_whole.specs.Notes.{no_notes_in}
use Rattle.hs_intake.specs.Making as intake
use Rattle.hs_node.specs.declared.making.MadeNode.{MadeNode}
use Rattle.hs_node.specs.declared.making.NodeFault.{NodeFault}
use Rattle.hs_node.specs.declared.making.NodeFault.TheVariants as fault
use Rattle.hs_node.specs.declared.making.TheConstants.{WORDS, WORD_BYTES, PAGE_MORE, ASKS, CLAIMS_MORE, CALLS}

-- what the clients are made with
abbrev pub limits_of : PlainService → ℕ → ClientLimits
limits_of s node = record { node = node; clients = s.clients; buffers = s.buffers; size = s.size; backlog = s.backlog; notes = s.backlog; calls = CALLS }

-- the settings by which the agent goes
abbrev pub run_settings : PlainService → PlainSettings
run_settings s =
    record {
      nodes = s.nodes;
      clients = s.clients;
      buffers = s.buffers;
      size = s.size;
      threshold = s.threshold;
      traces = s.traces;
      pins = s.pins;
      stride = 1;
      triggers = s.triggers;
      autos = s.autos;
    }

pub record IsMadeBy (s : PlainService) (node epoch : ℕ) (made : MadeNode) : Type 0 where
  -- the room of the list of ends for notes
  pub room : ℕ
  -- the intake is made with an empty mail, which has a place for the page of each chunk that may be pinned
  pub intake :
      intake.IsMade (run_settings s) (limits_of s node)
      (no_letters (record { 0 = node }) epoch (record { places = s.pins; bytes = s.size + PAGE_MORE }) (record { places = WORDS; bytes = WORD_BYTES }))
      ASKS (s.claims + CLAIMS_MORE) (record { intake = made.node.intake; segments = record { items = made.node.segments; room = room }; clients = made.clients })
  pub notes : made.node.notes ≡ no_notes_in (record { clients = s.clients; traces = s.remember })
  pub clients : made.node.clients ≡ s.clients
  pub limit : made.node.limit ≡ s.claims
  pub limited : made.node.limited ≡ 0

-- The text says the settings by which the node was made.
abbrev pub IsMade : List ℕ → ℕ → ℕ → MadeNode → Type 0
IsMade text node epoch made = (s : PlainService) × (reading_of text ≡ Ok s) × IsMadeBy s node epoch made

-- Why none was made: want of memory has no cause in the settings.
abbrev pub IsCauseBy : PlainService → ℕ → NodeFault → Type 0
IsCauseBy s node (fault.Settings refusal) = ⊥
IsCauseBy s node (fault.Clients why) = HasFault (limits_of s node) s.autos s.triggers s.nodes why
IsCauseBy s node fault.Memory = Unit {0}

abbrev pub HasCause : List ℕ → ℕ → NodeFault → Type 0
HasCause text node (fault.Settings refusal) = Refuses text refusal
HasCause text node (fault.Clients why) = (s : PlainService) × (reading_of text ≡ Ok s) × IsCauseBy s node (fault.Clients why)
HasCause text node fault.Memory = Unit {0}
