-- Workloads as plain data, without where they lie in memory: what a client does, the settings without the room of
-- their lists, and both with the version.
use Rattle.std.specs.Prelude.{ℕ, List}
use Rattle.hs_base.specs.declared.ids.TraceId.{TraceId}
use Rattle.hs_base.specs.declared.ids.NodeId.{NodeId}
use Rattle.hs_base.specs.declared.told.Trigger.{Trigger}
use Rattle.hs_base.specs.declared.settings.TriggerRule.{TriggerRule}
use Rattle.hs_base.specs.declared.settings.AutoRule.{AutoRule}
use Rattle.hs_base.specs.declared.settings.Settings.{Settings}

-- an operation of a client; moments are in microseconds
pub data Operation : Type 0 where
  Begin : (trace : TraceId) → Operation
  Point : (moment : ℕ) (payload : List ℕ) → Operation
  Crumb : (node : NodeId) → Operation
  End : Operation
  Fire : (trigger : Trigger) → Operation
  Sample : (moment auto value : ℕ) → Operation

pub record PlainSettings : Type 0 where
  pub nodes : ℕ
  pub clients : ℕ
  pub buffers : ℕ
  pub size : ℕ
  pub threshold : ℕ
  pub traces : ℕ
  pub pins : ℕ
  pub stride : ℕ
  pub triggers : List TriggerRule
  pub autos : List AutoRule

-- the clients stand in the order of node and number
pub record PlainWorkload : Type 0 where
  pub version : ℕ
  pub settings : PlainSettings
  pub clients : List (List Operation)

abbrev pub settings_of : Settings → PlainSettings
settings_of s =
    record {
      nodes = s.nodes;
      clients = s.clients;
      buffers = s.buffers;
      size = s.size;
      threshold = s.threshold;
      traces = s.traces;
      pins = s.pins;
      stride = s.stride;
      triggers = s.triggers.items;
      autos = s.autos.items;
    }
