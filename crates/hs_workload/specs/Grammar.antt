-- The text of a workload: the nine settings, the trigger ids and the autotriggers that it declares, each client with its
-- operations in the order of node and number, and the line `done`. A workload has one text, since the text is a function
-- of it. A text reads as a valid workload where it is that text.
use Rattle.std.specs.Prelude.{◌≡◌, ℕ, ◌+◌, ◌/◌, ◌%◌, ◌^◌, List, [], ◌∷◌, ◌++◌, map, codes, replicate, refl}
use Rattle.std.specs.Fmt.{digits}
use Rattle.hex.specs.Hex.{encode_with}
use Rattle.hs_text.specs.Text.{text_of}
use Rattle.hs_base.specs.declared.settings.AutoRule.{AutoRule}
use Rattle.hs_base.specs.declared.settings.AutoRule.TheVariants.{Exception, Queue}
use Rattle.hs_records.specs.Plain.{Operation, Begin, Point, Crumb, End, Fire, Sample, PlainSettings, PlainWorkload}
use Rattle.hs_workload.specs.Settings.{all_settings}
use Rattle.hs_records.specs.Settings.{setting_of}
use Rattle.hs_workload.specs.Statements.{Statement, Put, Declare, Watch, Start, Operate, Finish, statement_line}
use Rattle.hs_records.specs.Validity.{IsValid}

abbrev pub head_statements : PlainWorkload → List Statement
head_statements W = map (λ setting. Put setting (setting_of W setting)) all_settings

-- the autotriggers from one on
abbrev pub auto_statements : ℕ → List AutoRule → List Statement
auto_statements number [] = []
auto_statements number (rule ∷ more) = Watch number rule ∷ auto_statements (number + 1) more

-- the clients from one on, where each node has so many
abbrev pub client_statements : ℕ → ℕ → List (List Operation) → List Statement
client_statements each client [] = []
client_statements each client (operations ∷ more) =
    Start (client / each) (client % each) ∷ (map Operate operations ++ client_statements each (client + 1) more)

abbrev pub workload_statements : PlainWorkload → List Statement
workload_statements W =
    head_statements W ++ (map Declare W.settings.triggers ++ (auto_statements 0 W.settings.autos ++ (client_statements W.settings.clients 0 W.clients ++ Finish ∷ [])))

-- the text of what is said, in a text of this version
abbrev pub statements_text : ℕ → List Statement → List ℕ
statements_text version statements = text_of (map (statement_line version) statements)

abbrev pub workload_lines : PlainWorkload → List (List ℕ)
workload_lines W = map (statement_line W.version) (workload_statements W)

abbrev pub workload_text : PlainWorkload → List ℕ
workload_text W = text_of (workload_lines W)

-- the text reads as the workload
pub record Reads (text : List ℕ) (W : PlainWorkload) : Type 0 where
  pub valid : IsValid W
  pub spelled : text ≡ workload_text W

-- worked examples: one client with three points, and a text of version 2 with a payload of 70 bytes
abbrev pub least_settings : PlainSettings
least_settings =
    record {
      nodes = 1;
      clients = 1;
      buffers = 1;
      size = 64;
      threshold = 1;
      traces = 4;
      pins = 4;
      stride = 8;
      triggers = [];
      autos = [];
    }

abbrev pub ten_bytes : List ℕ
ten_bytes = 0 ∷ 17 ∷ 34 ∷ 51 ∷ 68 ∷ 85 ∷ 102 ∷ 119 ∷ 136 ∷ 153 ∷ []

abbrev pub three_points : PlainWorkload
three_points =
    record {
      version = 1;
      settings = least_settings;
      clients = (Begin (record { 0 = 1 }) ∷ Point 100 ten_bytes ∷ Point 101 ten_bytes ∷ Point 102 ten_bytes ∷ End ∷ []) ∷ [];
    }

abbrev pub three_points_lines : List (List ℕ)
three_points_lines =
    codes "hindsight 1" ∷ codes "nodes 1" ∷ codes "clients 1" ∷ codes "buffers 1" ∷ codes "size 64" ∷ codes "threshold 1" ∷ codes "traces 4"
    ∷ codes "pins 4" ∷ codes "stride 8" ∷ codes "client 0 0" ∷ codes "begin 0000000000000001" ∷ codes "point 100 00112233445566778899"
    ∷ codes "point 101 00112233445566778899" ∷ codes "point 102 00112233445566778899" ∷ codes "end" ∷ codes "done" ∷ []

three_points_spelled : workload_lines three_points ≡ three_points_lines
unfolding digits encode_with
three_points_spelled = refl

abbrev pub wide : PlainWorkload
wide =
    record {
      version = 2;
      settings = least_settings;
      clients = (Begin (record { 0 = 16 ^ 31 + 10 }) ∷ Point 7 (replicate 70 255) ∷ End ∷ []) ∷ [];
    }

wide_spelled : map (statement_line 2) (client_statements 1 0 wide.clients)
    ≡ codes "client 0 0" ∷ codes "begin 1000000000000000000000000000000a" ∷ (codes "point 7 " ++ replicate 140 102) ∷ codes "end" ∷ []
unfolding digits encode_with
wide_spelled = refl

-- two nodes of one client each, with a trigger id, two autotriggers and all six operations
abbrev pub two_nodes : PlainWorkload
two_nodes =
    record {
      version = 1;
      settings = record least_settings {
        nodes = 2;
        threshold = 0;
        triggers = record { id = record { 0 = 3 }; weight = 1; burst = 2; rate = 0 } ∷ [];
        autos = Exception (record { 0 = 3 }) ∷ Queue (record { 0 = 3 }) 16 9900 4 ∷ [];
      };
      clients = (Begin (record { 0 = 1 }) ∷ Point 5 [] ∷ Crumb (record { 0 = 1 }) ∷ Sample 6 1 20 ∷ End ∷ [])
          ∷ (Fire (record { moment = 9; trigger = record { 0 = 3 }; lead = record { 0 = 1 }; laterals = record { 0 = 2 } ∷ [] }) ∷ []) ∷ [];
    }

abbrev pub two_nodes_lines : List (List ℕ)
two_nodes_lines =
    codes "hindsight 1" ∷ codes "nodes 2" ∷ codes "clients 1" ∷ codes "buffers 1" ∷ codes "size 64" ∷ codes "threshold 0" ∷ codes "traces 4"
    ∷ codes "pins 4" ∷ codes "stride 8" ∷ codes "triggerid 3 1 2 0" ∷ codes "auto 0 exception 3" ∷ codes "auto 1 queue 3 16 9900 4"
    ∷ codes "client 0 0" ∷ codes "begin 0000000000000001" ∷ codes "point 5 -" ∷ codes "crumb 1" ∷ codes "sample 6 1 20" ∷ codes "end"
    ∷ codes "client 1 0" ∷ codes "trigger 9 3 0000000000000001 0000000000000002" ∷ codes "done" ∷ []

two_nodes_spelled : workload_lines two_nodes ≡ two_nodes_lines
unfolding digits encode_with
two_nodes_spelled = refl
