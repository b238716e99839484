-- Which workloads are valid: all numbers are within their limits, what operations name is declared, and each client has its
-- operations in brackets. The operations are not too many, where a point counts as often as it has pieces.
use Rattle.std.specs.Prelude.{◌≡◌, ℕ, ◌+◌, ◌*◌, ◌^◌, ◌<◌, ◌≤◌, true, false, List, [], ◌∷◌, length, ⊤}
use Rattle.std.specs.List.{All, AllByRecursion}
use Rattle.hs_base.specs.declared.ids.TraceId.{TraceId}
use Rattle.hs_base.specs.Rules.{is_declared, AreRules, AreAutoRules}
use Rattle.hs_base.specs.declared.limits.TheConstants.{MAX_LATERALS, MAX_PAYLOAD, MAX_OPERATIONS}
use Rattle.hs_base.specs.Ranges.{Within}
use Rattle.hs_base.specs.Ids.{trace_digits}
use Rattle.hs_records.specs.Plain.{Operation, Begin, Point, Crumb, End, Fire, Sample, PlainSettings, PlainWorkload}
use Rattle.hs_records.specs.Records.{AreBracketed, piece_count}
use Rattle.hs_records.specs.declared.setting.Setting.{Setting}
use Rattle.hs_records.specs.Settings.{least, most, setting_of}

-- a trace that has digits in a text of this version
abbrev pub HasDigits : ℕ → TraceId → Type 0
HasDigits version trace = trace.0 < 16 ^ trace_digits version

-- an operation that may stand in a workload of these settings
abbrev pub IsOperation : ℕ → PlainSettings → Operation → Type 0
IsOperation version settings (Begin trace) = HasDigits version trace
IsOperation version settings (Point moment payload) = (moment < 2 ^ 64) × (length payload ≤ MAX_PAYLOAD) × All (λ b. b < 256) payload
IsOperation version settings (Crumb node) = node.0 < settings.nodes
IsOperation version settings End = ⊤
IsOperation version settings (Fire trigger) =
    (trigger.moment < 2 ^ 64) × (is_declared settings.triggers trigger.trigger ≡ true) × HasDigits version trigger.lead
    × (length trigger.laterals ≤ MAX_LATERALS) × AllByRecursion (HasDigits version) trigger.laterals
IsOperation version settings (Sample moment auto value) = (moment < 2 ^ 64) × (auto < length settings.autos) × (value < 2 ^ 64)

pub record IsClient (version : ℕ) (settings : PlainSettings) (operations : List Operation) : Type 0 where
  pub words : AllByRecursion (IsOperation version settings) operations
  pub bracketed : AreBracketed false operations

-- how often an operation counts: a point once for each of its pieces
abbrev pub operation_pieces : ℕ → Operation → ℕ
operation_pieces size (Point moment payload) = piece_count size (length payload)
operation_pieces size _ = 1

-- how many operations there are, where a point counts as often as it has pieces
abbrev pub client_pieces : ℕ → List Operation → ℕ
client_pieces size [] = 0
client_pieces size (operation ∷ operations) = operation_pieces size operation + client_pieces size operations

abbrev pub workload_pieces : ℕ → List (List Operation) → ℕ
workload_pieces size [] = 0
workload_pieces size (operations ∷ more) = client_pieces size operations + workload_pieces size more

pub record IsValid (W : PlainWorkload) : Type 0 where
  pub head : (setting : Setting) → Within (least setting) (most setting) (setting_of W setting)
  pub rules : AreRules W.settings.triggers
  pub autos : AreAutoRules W.settings.triggers W.settings.autos
  pub count : length W.clients ≡ W.settings.nodes * W.settings.clients
  pub each : AllByRecursion (IsClient W.version W.settings) W.clients
  pub few : workload_pieces W.settings.size W.clients ≤ MAX_OPERATIONS
