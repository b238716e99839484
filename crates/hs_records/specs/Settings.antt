-- The nine numbers at the head of a workload: in which order they stand, the least and the greatest value of each, and which
-- a workload has.
use Rattle.std.specs.Prelude.{ℕ}
use Rattle.hs_base.specs.declared.limits.TheConstants.{MAX_NODES, MAX_CLIENTS, MIN_SIZE, MAX_SIZE, MAX_BUFFERS, MAX_THRESHOLD, MAX_TRACES, MAX_PINS, MAX_STRIDE}
use Rattle.hs_records.specs.Plain.{PlainWorkload}
use Rattle.hs_records.specs.declared.setting.Setting.{Setting}
use Rattle.hs_records.specs.declared.setting.Setting.TheVariants as settings

-- how many settings stand before one
abbrev pub setting_place : Setting → ℕ
setting_place settings.Version = 0
setting_place settings.Nodes = 1
setting_place settings.Clients = 2
setting_place settings.Buffers = 3
setting_place settings.Size = 4
setting_place settings.Threshold = 5
setting_place settings.Traces = 6
setting_place settings.Pins = 7
setting_place settings.Stride = 8

abbrev pub least : Setting → ℕ
least settings.Size = MIN_SIZE
least settings.Threshold = 0
least settings.Pins = 0
least _ = 1

abbrev pub most : Setting → ℕ
most settings.Version = 2
most settings.Nodes = MAX_NODES
most settings.Clients = MAX_CLIENTS
most settings.Buffers = MAX_BUFFERS
most settings.Size = MAX_SIZE
most settings.Threshold = MAX_THRESHOLD
most settings.Traces = MAX_TRACES
most settings.Pins = MAX_PINS
most settings.Stride = MAX_STRIDE

-- a setting of a workload
abbrev pub setting_of : PlainWorkload → Setting → ℕ
setting_of W settings.Version = W.version
setting_of W settings.Nodes = W.settings.nodes
setting_of W settings.Clients = W.settings.clients
setting_of W settings.Buffers = W.settings.buffers
setting_of W settings.Size = W.settings.size
setting_of W settings.Threshold = W.settings.threshold
setting_of W settings.Traces = W.settings.traces
setting_of W settings.Pins = W.settings.pins
setting_of W settings.Stride = W.settings.stride
