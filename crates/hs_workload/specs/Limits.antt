-- Both sides of each limit of a workload: a line with the least or the greatest number that it may have, and one beyond it.
use Rattle.std.specs.Prelude.{◌≡◌, ℕ, Bool, true, false, List, [], ◌∷◌, ◌++◌, map, take, reverse, replicate, codes, Option, Some, None, refl}
use Rattle.std.specs.List.{flat_map}
use Rattle.hs_base.specs.declared.limits.TheConstants.{MAX_OPERATIONS}
use Rattle.hs_text.specs.Spelling.{spelled}
use Rattle.hs_workload.specs.declared.refusal.Reason.{Reason}
use Rattle.hs_workload.specs.declared.refusal.Reason.TheVariants.{Range, Count}
use Rattle.hs_workload.specs.Faults.{fault_of, fault_at, is_out_of_range}
use Rattle.hs_workload.specs.LookBack.{past_said}
use Rattle.hs_workload.specs.Statements.{Operate}
use Rattle.hs_records.specs.Plain.{Point}

-- the head of a workload, with its greatest numbers
abbrev head : List (List ℕ)
head = codes "hindsight 1" ∷ codes "nodes 16" ∷ codes "clients 16" ∷ codes "buffers 1024" ∷ codes "size 32768" ∷ codes "threshold 1024"
    ∷ codes "traces 65536" ∷ codes "pins 1024" ∷ codes "stride 64" ∷ []

-- what is wrong with each of these lines, behind so many lines of the head
abbrev behind : ℕ → List (List ℕ) → List (Option Reason)
behind count lines = map (fault_of (reverse (take count head))) lines

-- the same behind the whole head and these lines, of which the newest is first
abbrev then_behind : List (List ℕ) → List (List ℕ) → List (Option Reason)
then_behind earlier lines = map (fault_of (earlier ++ reverse head)) lines

-- the first two lines may be said, and the two behind them are out of range
abbrev two_of_four : List (Option Reason)
two_of_four = None ∷ None ∷ Some Range ∷ Some Range ∷ []

versions : behind 0 (codes "hindsight 1" ∷ codes "hindsight 2" ∷ codes "hindsight 0" ∷ codes "hindsight 3" ∷ []) ≡ two_of_four
unfolding fault_at spelled
versions = refl

nodes : behind 1 (codes "nodes 1" ∷ codes "nodes 16" ∷ codes "nodes 0" ∷ codes "nodes 17" ∷ []) ≡ two_of_four
unfolding fault_at spelled
nodes = refl

clients : behind 2 (codes "clients 1" ∷ codes "clients 16" ∷ codes "clients 0" ∷ codes "clients 17" ∷ []) ≡ two_of_four
unfolding fault_at spelled
clients = refl

buffers : behind 3 (codes "buffers 1" ∷ codes "buffers 1024" ∷ codes "buffers 0" ∷ codes "buffers 1025" ∷ []) ≡ two_of_four
unfolding fault_at spelled
buffers = refl

sizes : behind 4 (codes "size 64" ∷ codes "size 32768" ∷ codes "size 63" ∷ codes "size 32769" ∷ []) ≡ two_of_four
unfolding fault_at spelled
sizes = refl

thresholds : behind 5 (codes "threshold 0" ∷ codes "threshold 1024" ∷ codes "threshold 1025" ∷ []) ≡ None ∷ None ∷ Some Range ∷ []
unfolding fault_at spelled
thresholds = refl

traces : behind 6 (codes "traces 1" ∷ codes "traces 65536" ∷ codes "traces 0" ∷ codes "traces 65537" ∷ []) ≡ two_of_four
unfolding fault_at spelled
traces = refl

pins : behind 7 (codes "pins 0" ∷ codes "pins 1024" ∷ codes "pins 1025" ∷ []) ≡ None ∷ None ∷ Some Range ∷ []
unfolding fault_at spelled
pins = refl

strides : behind 8 (codes "stride 1" ∷ codes "stride 64" ∷ codes "stride 0" ∷ codes "stride 65" ∷ []) ≡ two_of_four
unfolding fault_at spelled
strides = refl

trigger_ids : behind 9 (codes "triggerid 1 1 1 0" ∷ codes "triggerid 64 1 1 0" ∷ codes "triggerid 0 1 1 0" ∷ codes "triggerid 65 1 1 0" ∷ []) ≡ two_of_four
unfolding fault_at spelled
trigger_ids = refl

weights : behind 9 (codes "triggerid 1 1 1 0" ∷ codes "triggerid 1 100 1 0" ∷ codes "triggerid 1 0 1 0" ∷ codes "triggerid 1 101 1 0" ∷ []) ≡ two_of_four
unfolding fault_at spelled
weights = refl

bursts : behind 9 (codes "triggerid 1 1 1 0" ∷ codes "triggerid 1 1 1000 0" ∷ codes "triggerid 1 1 0 0" ∷ codes "triggerid 1 1 1001 0" ∷ []) ≡ two_of_four
unfolding fault_at spelled
bursts = refl

rates : behind 9 (codes "triggerid 1 1 1 0" ∷ codes "triggerid 1 1 1 1000000" ∷ codes "triggerid 1 1 1 1000001" ∷ []) ≡ None ∷ None ∷ Some Range ∷ []
unfolding fault_at spelled
rates = refl

abbrev declared : List (List ℕ)
declared = codes "triggerid 1 1 1 0" ∷ []

windows : then_behind declared (codes "auto 0 percentile 1 2 1" ∷ codes "auto 0 percentile 1 1024 1" ∷ codes "auto 0 percentile 1 1 1" ∷ codes "auto 0 percentile 1 1025 1" ∷ []) ≡ two_of_four
unfolding fault_at spelled
windows = refl

shares : then_behind declared (codes "auto 0 category 1 2 1" ∷ codes "auto 0 category 1 2 9999" ∷ codes "auto 0 category 1 2 0" ∷ codes "auto 0 category 1 2 10000" ∷ []) ≡ two_of_four
unfolding fault_at spelled
shares = refl

laterals_of_a_queue : then_behind declared (codes "auto 0 queue 1 2 1 1" ∷ codes "auto 0 queue 1 2 1 32" ∷ codes "auto 0 queue 1 2 1 0" ∷ codes "auto 0 queue 1 2 1 33" ∷ []) ≡ two_of_four
unfolding fault_at spelled
laterals_of_a_queue = refl

-- the autotriggers from 0 to 14
abbrev first_autos : List (List ℕ)
first_autos = codes "auto 14 exception 1" ∷ codes "auto 13 exception 1" ∷ codes "auto 12 exception 1" ∷ codes "auto 11 exception 1" ∷ codes "auto 10 exception 1"
    ∷ codes "auto 9 exception 1" ∷ codes "auto 8 exception 1" ∷ codes "auto 7 exception 1" ∷ codes "auto 6 exception 1" ∷ codes "auto 5 exception 1"
    ∷ codes "auto 4 exception 1" ∷ codes "auto 3 exception 1" ∷ codes "auto 2 exception 1" ∷ codes "auto 1 exception 1" ∷ codes "auto 0 exception 1" ∷ []

autos : then_behind (first_autos ++ declared) (codes "auto 15 exception 1" ∷ codes "auto 16 exception 1" ∷ []) ≡ None ∷ Some Range ∷ []
unfolding fault_at spelled
autos = refl

no_seventeenth_auto : then_behind (codes "auto 15 exception 1" ∷ first_autos ++ declared) (codes "auto 16 exception 1" ∷ []) ≡ Some Range ∷ []
unfolding fault_at spelled
no_seventeenth_auto = refl

-- a trigger of trace 1 with so many laterals
abbrev trigger_with : ℕ → List ℕ
trigger_with laterals = codes "trigger 1 1 0000000000000001" ++ flat_map (λ lateral. lateral) (replicate laterals (codes " 0000000000000002"))

laterals : then_behind (codes "client 0 0" ∷ declared) (trigger_with 0 ∷ trigger_with 32 ∷ trigger_with 33 ∷ []) ≡ None ∷ None ∷ Some Count ∷ []
unfolding fault_at spelled
laterals = refl

crumbs : then_behind (codes "begin 0000000000000001" ∷ codes "client 0 0" ∷ []) (codes "crumb 0" ∷ codes "crumb 15" ∷ codes "crumb 16" ∷ []) ≡ None ∷ None ∷ Some Range ∷ []
unfolding fault_at spelled
crumbs = refl

-- whether a point of so many bytes is out of range
abbrev is_too_long : ℕ → Bool
is_too_long bytes = is_out_of_range (past_said []) (Operate (Point 1 (replicate bytes 0)))

payloads : (is_too_long 65535 ≡ false) × (is_too_long 65536 ≡ true)
payloads = (refl, refl)

-- (Faults, `one_too_many`, has both sides of it)
most_operations : MAX_OPERATIONS ≡ 262144
most_operations = refl
