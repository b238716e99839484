-- For the worked examples: settings with pages of 64 bytes, whose page with one piece of one byte has 35 used bytes,
-- operations and workloads, with traces as small numbers.
use Rattle.std.specs.Prelude.{ℕ, List, [], ◌∷◌, replicate}
use Rattle.hs_base.specs.declared.ids.NodeId.{NodeId}
use Rattle.hs_base.specs.declared.settings.AutoRule.{AutoRule}
use Rattle.hs_base.specs.declared.settings.TriggerRule.{TriggerRule}
use Rattle.hs_base.specs.Samples.{t}
use Rattle.hs_records.specs.Plain.{Operation, Begin, Point, Crumb, End, Fire, PlainSettings, PlainWorkload}

abbrev pub node : ℕ → NodeId
node number = record { 0 = number }

-- one node with one client
abbrev pub settings : (buffers threshold traces pins stride : ℕ) → List TriggerRule → PlainSettings
settings buffers threshold traces pins stride rules =
    record {
      nodes = 1;
      clients = 1;
      buffers = buffers;
      size = 64;
      threshold = threshold;
      traces = traces;
      pins = pins;
      stride = stride;
      triggers = rules;
      autos = [];
    }

abbrev pub on_nodes : ℕ → ℕ → PlainSettings → PlainSettings
on_nodes nodes clients s = record s { nodes = nodes; clients = clients }

abbrev pub with_autos : List AutoRule → PlainSettings → PlainSettings
with_autos autos s = record s { autos = autos }

abbrev pub workload : PlainSettings → List (List Operation) → PlainWorkload
workload s clients = record { version = 1; settings = s; clients = clients }

abbrev pub begin : ℕ → Operation
begin trace = Begin (t trace)

-- a point with one byte
abbrev pub point : ℕ → Operation
point moment = Point moment (0xaa ∷ [])

abbrev pub crumb : ℕ → Operation
crumb to = Crumb (node to)

abbrev pub fire : (moment id lead : ℕ) → Operation
fire moment id lead = Fire (record { moment = moment; trigger = record { 0 = id }; lead = t lead; laterals = [] })

-- a segment of one point
abbrev pub segment : (trace moment : ℕ) → List Operation
segment trace moment = begin trace ∷ point moment ∷ End ∷ []

abbrev pub plain : PlainSettings
plain = settings 2 4 8 4 16 []

-- two pages of 64 bytes: the second point starts the second and sends the first, and the end sends the second
abbrev pub two_fills : List Operation
two_fills = begin 1 ∷ Point 6 (replicate 30 0) ∷ crumb 0 ∷ Point 7 (replicate 30 0) ∷ End ∷ []
